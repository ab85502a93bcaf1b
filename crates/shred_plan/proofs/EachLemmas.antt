-- What holds of each element of a list, and of each stage of a plan.
use Rattle.std.proofs.Common.{◌≡◌, ℕ, ◌-◌, Bool, true, false, zero, suc, List, [], ◌∷◌, arith, Option, Some, None, refl}
use Rattle.std.specs.Prelude.{◌==◌, if◌then◌else◌}
use Rattle.std.specs.List.{All, fold}
use Rattle.std.specs.Option.{option_map_or}
use Rattle.shred_plan.specs.declared.stage.Way.{Way}
use Rattle.shred_plan.specs.Plan.{Placing, Stage, Added, fence, placing, Planning, admitted, placed, taken, added, plan, rest_after, systems_of}

-- of each element, one after the other
abbrev pub Each : {A : Type 0} → (A → Type 0) → List A → Type 0
Each P [] = Unit {0}
Each P (x ∷ xs) = P x × Each P xs

pub each-all : {A : Type 0} (P : A → Type 0) (xs : List A) → Each P xs → All P xs
each-all P [] each k d h = absurd (omega arith)
each-all P (x ∷ xs) each zero d h = each.0
each-all P (x ∷ xs) each (suc k) d h = each-all P xs each.1 k d (omega arith)

pub each-map : {A : Type 0} (P Q : A → Type 0) (xs : List A) → ((x : A) → P x → Q x) → Each P xs → Each Q xs
each-map P Q [] f each = tt
each-map P Q (x ∷ xs) f each = (f x each.0, each-map P Q xs f each.1)

module _ {Id : Type 0} (same : Id → Id → Bool) (P : Stage Id → Type 0)
    (opened : (one : Placing Id) → P ((one ∷ []) ∷ []))
    (entered : (one : Placing Id) (rest : List ℕ) (stage : Stage Id) (way : Way) → P stage → admitted same one rest stage ≡ Some way → P (taken one stage way)) where
  -- what holds of a new stage, and of a stage after it took a system, holds of each stage
  each-placed : (stages : List (Stage Id)) (closed : ℕ) (one : Placing Id) (rest : List ℕ) → Each P stages → Each P (placed same closed one rest stages)
  each-placed [] closed one rest each = (opened one, tt)
  each-placed (stage ∷ later) closed one rest each =
      by (closed == 0) (admitted same one rest stage) refl (each.0, each-placed later (closed - 1) one (rest_after rest (systems_of stage)) each.1)
    where
      by : (b : Bool) (way : Option Way) → admitted same one rest stage ≡ way
          → Each P (stage ∷ placed same (closed - 1) one (rest_after rest (systems_of stage)) later)
          → Each P (option_map_or (λ w. taken one stage w ∷ later) (if b then way else None) (stage ∷ placed same (closed - 1) one (rest_after rest (systems_of stage)) later))
      by true (Some way) is passed = (entered one rest stage way each.0 is, each.1)
      by true None is passed = passed
      by false way is passed = passed

  each-folded : (list : List (Added Id)) (planning : Planning Id) → Each P planning.stages → Each P (fold (added same) planning list).stages
  each-folded [] planning each = each
  each-folded (fence ∷ later) planning each = each-folded later (added same planning fence) each
  each-folded (placing one ∷ later) planning each = each-folded later (added same planning (placing one)) (each-placed planning.stages planning.first one one.after each)

  pub each-planned : (list : List (Added Id)) → Each P (plan same list)
  each-planned list = each-folded list (record { first = 0; stages = [] }) tt
