-- What is placed stays where it is, and what was added before a fence stands in earlier stages.
use Rattle.std.proofs.Common.{◌≡◌, ℕ, ◌≤◌, ◌-◌, Bool, false, zero, suc, List, [], ◌∷◌, ◌++◌, length, get_or, arith, Option, Some, None, refl, ap, sym, ◌∙◌, subst, length-append, append-nil, ne_eqb}
use Rattle.std.specs.Prelude.{◌==◌, if◌then◌else◌}
use Rattle.std.specs.List.{fold}
use Rattle.std.specs.List.Sorted.{IsPermutation}
use Rattle.std.specs.Option.{option_map_or}
use Rattle.std.proofs.Math.ListN.{set}
use Rattle.std.proofs.lemmas.List.Sums.{fold-append}
use Rattle.std.proofs.lemmas.List.Sorted.{IsPermutation-refl, IsPermutation-trans, IsPermutation-append_left, IsPermutation-middle, IsPermutation-sym}
use Rattle.shred_plan.specs.declared.stage.Way.{Way}
use Rattle.shred_plan.specs.declared.stage.Way.TheVariants.{Alone, Behind}
use Rattle.shred_plan.specs.Plan.{Placing, Group, Stage, Added, fence, placing, Planning, admitted, placed, taken, added, plan, plan_order, rest_after, systems_of}
use Rattle.shred_plan.specs.Laws.{systems_added, Keeps, Stay, EndsWith}
use Rattle.shred_plan.proofs.LawLemmas.{systems-placed}

keeps-refl : {A : Type 0} (R : A → A → Type 0) → ((x : A) → R x x) → (xs : List A) → Keeps R xs xs
keeps-refl R each [] = tt
keeps-refl R each (x ∷ xs) = (each x, keeps-refl R each xs)

keeps-trans : {A : Type 0} (R : A → A → Type 0) → ((x y z : A) → R x y → R y z → R x z) → (xs ys zs : List A) → Keeps R xs ys → Keeps R ys zs → Keeps R xs zs
keeps-trans R each [] ys zs k l = tt
keeps-trans R each (x ∷ xs) [] zs k l = absurd k
keeps-trans R each (x ∷ xs) (y ∷ ys) [] k l = absurd l
keeps-trans R each (x ∷ xs) (y ∷ ys) (z ∷ zs) k l = (each x y z k.0 l.0, keeps-trans R each xs ys zs k.1 l.1)

keeps-more : {A : Type 0} (R : A → A → Type 0) → ((x : A) → R x x) → (xs ys : List A) → Keeps R xs (xs ++ ys)
keeps-more R each [] ys = tt
keeps-more R each (x ∷ xs) ys = (each x, keeps-more R each xs ys)

keeps-set : {A : Type 0} (R : A → A → Type 0) → ((x : A) → R x x) → (xs : List A) (i : ℕ) (d y : A) → R (get_or xs i d) y → Keeps R xs (set xs i y)
keeps-set R each [] i d y r = tt
keeps-set R each (x ∷ xs) zero d y r = (r, keeps-refl R each xs)
keeps-set R each (x ∷ xs) (suc i) d y r = (each x, keeps-set R each xs i d y r)

module _ {Id : Type 0} where
  abbrev GroupStays : Group Id → Group Id → Type 0
  GroupStays group other = Keeps (λ one two. one ≡ two) group other

  abbrev StageStays : Stage Id → Stage Id → Type 0
  StageStays stage other = Keeps GroupStays stage other

  group-refl : (group : Group Id) → GroupStays group group
  group-refl group = keeps-refl (λ one two. one ≡ two) (λ one. refl) group

  stage-refl : (stage : Stage Id) → StageStays stage stage
  stage-refl stage = keeps-refl GroupStays group-refl stage

  stay-refl : (stages : List (Stage Id)) → Stay stages stages
  stay-refl stages = keeps-refl StageStays stage-refl stages

  stay-trans : (one two three : List (Stage Id)) → Stay one two → Stay two three → Stay one three
  stay-trans one two three =
      keeps-trans StageStays (keeps-trans GroupStays (keeps-trans (λ one two. one ≡ two) (λ x y z p q. p ∙ q))) one two three

  stage-taken : (one : Placing Id) (stage : Stage Id) (way : Way) → StageStays stage (taken one stage way)
  stage-taken one stage Alone = keeps-more GroupStays group-refl stage ((one ∷ []) ∷ [])
  stage-taken one stage (Behind i) = keeps-set GroupStays group-refl stage i [] _ (keeps-more (λ one two. one ≡ two) (λ one. refl) (get_or stage i []) (one ∷ []))

module _ {Id : Type 0} (same : Id → Id → Bool) where
  stay-placed : (stages : List (Stage Id)) (closed : ℕ) (one : Placing Id) (rest : List ℕ) → Stay stages (placed same closed one rest stages)
  stay-placed [] closed one rest = tt
  stay-placed (stage ∷ later) closed one rest =
      by (if closed == 0 then admitted same one rest stage else None) (stay-placed later (closed - 1) one (rest_after rest (systems_of stage)))
    where
      by : (way : Option Way) → Stay later (placed same (closed - 1) one (rest_after rest (systems_of stage)) later)
          → Stay (stage ∷ later) (option_map_or (λ w. taken one stage w ∷ later) way (stage ∷ placed same (closed - 1) one (rest_after rest (systems_of stage)) later))
      by (Some way) stays = (stage-taken one stage way, stay-refl later)
      by None stays = (stage-refl stage, stays)

  stay-folded : (list : List (Added Id)) (planning : Planning Id) → Stay planning.stages (fold (added same) planning list).stages
  stay-folded [] planning = stay-refl planning.stages
  stay-folded (fence ∷ later) planning = stay-folded later (added same planning fence)
  stay-folded (placing one ∷ later) planning =
      stay-trans planning.stages (placed same planning.first one one.after planning.stages) _
      (stay-placed planning.stages planning.first one one.after) (stay-folded later (added same planning (placing one)))

  pub systems-stay : (list later : List (Added Id)) → Stay (plan same list) (plan same (list ++ later))
  systems-stay list later =
      let start : Planning Id = record { first = 0; stages = [] } in
      let P : Planning Id → Type 0 = λ planning. Stay (plan same list) planning.stages in
      subst P (sym (fold-append (added same) start list later)) (stay-folded later (fold (added same) start list))

  -- a system goes past stages that are closed
  placed-closed : (early late : List (Stage Id)) (closed : ℕ) (one : Placing Id) (rest : List ℕ) → length early ≤ closed
      → (new : List (Stage Id)) × (placed same closed one rest (early ++ late) ≡ early ++ new) × IsPermutation (plan_order new) (one ∷ plan_order late)
  placed-closed [] late closed one rest h = (placed same closed one rest late, refl, systems-placed same late closed one rest)
  placed-closed (stage ∷ early) late closed one rest h =
      let further = placed-closed early late (closed - 1) one (rest_after rest (systems_of stage)) (omega arith) in
      let shut : (closed == 0) ≡ false = ne_eqb closed 0 (λ e. omega arith) in
      (further.0, rw shut (ap (λ list. stage ∷ list) further.1), further.2)

  ends-folded : (list : List (Added Id)) (planning : Planning Id) (early late : List (Stage Id)) → length early ≤ planning.first → planning.stages ≡ early ++ late
      → (new : List (Stage Id)) × ((fold (added same) planning list).stages ≡ early ++ new) × IsPermutation (plan_order new) (plan_order late ++ systems_added list)
  ends-folded [] planning early late h e = (late, e, rw (append-nil (plan_order late)) (IsPermutation-refl (plan_order late)))
  ends-folded (fence ∷ later) planning early late h e =
      let longer : length early ≤ length planning.stages = omega (arith, ap length e ∙ length-append early late) in
      ends-folded later (added same planning fence) early late longer e
  ends-folded (placing one ∷ later) planning early late h e =
      let step = placed-closed early late planning.first one one.after h in
      let further = ends-folded later (added same planning (placing one)) early step.0 h (ap (placed same planning.first one one.after) e ∙ step.1) in (
        further.0,
        further.1,
        IsPermutation-trans _ _ _ further.2
            (IsPermutation-trans _ _ _
            (IsPermutation-append_left (systems_added later) _ (one ∷ plan_order late) step.2)
            (IsPermutation-sym _ _ (IsPermutation-middle (plan_order late) one (systems_added later)))),
      )

  pub fences-hold : (list later : List (Added Id)) → EndsWith (plan same list) (systems_added later) (plan same (list ++ fence ∷ later))
  fences-hold list later =
      let start : Planning Id = record { first = 0; stages = [] } in
      let before : Planning Id = fold (added same) start list in
      let ends = ends-folded later (added same before fence) before.stages [] (omega arith) (sym (append-nil before.stages)) in
      let P : Planning Id → Type 0 = λ planning. EndsWith (plan same list) (systems_added later) planning.stages in
      subst P (sym (fold-append (added same) start list (fence ∷ later))) (ends.0, ends.1, ends.2)
