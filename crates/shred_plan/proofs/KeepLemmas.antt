-- An index keeps to a plan that takes a system in.
use Rattle.std.proofs.Common.{◌≡◌, ◌≢◌, ℕ, ◌<◌, ◌≤◌, Bool, true, false, not, ne_eqb, ◌||◌, ◌&&◌, List, [], ◌∷◌, ◌++◌, length, refl, ap, sym, ◌∙◌, subst, arith, Option, Some, None, ◌⊎◌, inl, inr}
use Rattle.std.specs.Prelude.{◌==◌, nat_lt}
use Rattle.std.specs.List.{list_any}
use Rattle.std.specs.declared.cmp.Ordering.{Ordering}
use Rattle.std.proofs.Math.ListN.{set}
use Rattle.std.proofs.lemmas.Bool.{cases_eq, cases_lt}
use Rattle.std.proofs.lemmas.List.{get_or_past, get_or_append_left, get_or-set_other, length_push}
use Rattle.shred_plan.specs.declared.stage_set.StageSet.{StageSet}
use Rattle.shred_plan.specs.declared.planner.Place.{Place}
use Rattle.shred_plan.specs.declared.index.Index.{Index}
use Rattle.shred_plan.specs.Plan.{Placing, Stage, taken, systems_of}
use Rattle.shred_plan.specs.Places.{IsPlace, placed_at}
use Rattle.shred_plan.specs.Index.{has_stage, has_for, stood_before, stage_at, stands_before, is_loose, writes, uses, finds}
use Rattle.shred_plan.specs.Kept.{Marks, Keeps, Blocks, stage_of}
use Rattle.shred_plan.specs.Seats.{KeepsSeats}
use Rattle.shred_plan.proofs.IndexLemmas.{any-placed, any-before, conflicts-by}

-- what an index tells of the stages with which a system conflicts
pub keeps-blocks : {Id : Type 0} (cmp : Id → Id → Ordering) (same : Id → Id → Bool) (turns : (x y : Id) → same x y ≡ same y x) (index : Index Id) (one : Placing Id) (stages : List (Stage Id)) (set : StageSet) → Keeps cmp same index stages
    → ((place : ℕ) → has_stage set place ≡ finds cmp index.stages one place)
    → Blocks same one stages set
keeps-blocks cmp same turns index one stages set keeps is place =
    is place
    ∙ (λ i. list_any (λ id. keeps.writers id place i) one.reads || list_any (λ id. keeps.users id place i) one.writes)
    ∙ conflicts-by same turns one (systems_of (stage_at stages place))

-- other stages are as loose as they were, and so is that of the place, if it takes the system in as a group of the same time
pub tight-others : {Id : Type 0} (one : Placing Id) (stages : List (Stage Id)) (found : Option Place) → IsPlace stages found → (at : ℕ) → at ≢ stage_of stages found → is_loose (stage_at stages at) ≡ false → is_loose (stage_at (placed_at one stages found) at) ≡ false
tight-others one stages None fits at ne tight = by (cases_lt at (length stages))
  where
    by : (at < length stages) ⊎ (length stages ≤ at) → is_loose (stage_at (stages ++ ((one ∷ []) ∷ []) ∷ []) at) ≡ false
    by (inl h) = ap is_loose (get_or_append_left stages (((one ∷ []) ∷ []) ∷ []) [] at h) ∙ tight
    by (inr h) =
        let past : length stages < at = omega arith in
        ap is_loose (get_or_past (stages ++ ((one ∷ []) ∷ []) ∷ []) at [] (omega (arith, length_push stages ((one ∷ []) ∷ []))))
tight-others one stages (Some found) fits at ne tight = ap is_loose (get_or-set_other stages found.stage at (taken one (stage_at stages found.stage) found.way) [] ne) ∙ tight

-- the index with a system in it keeps to the plan with the system at its place
pub keeps-noted : {Id : Type 0} (cmp : Id → Id → Ordering) (same : Id → Id → Bool) (before after : Index Id) (one : Placing Id) (stages : List (Stage Id)) (found : Option Place) (stage : ℕ) → IsPlace stages found → stage ≡ stage_of stages found
    → Keeps cmp same before stages
    → Marks cmp same before.stages after.stages one stage
    → KeepsSeats cmp same after.seats (placed_at one stages found)
    → ((number place : ℕ) → stood_before after.firsts.stages number place ≡ (stood_before before.firsts.stages number place || (nat_lt stage place && (one.number == number))))
    → ((place : ℕ) → has_stage after.loose place ≡ false → is_loose (stage_at (placed_at one stages found) place) ≡ false)
    → Keeps cmp same after (placed_at one stages found)
keeps-noted cmp same before after one stages found stage fits is keeps marks seats firsts loose = record {
  writers = λ id place.
      marks.writers id place
      ∙ ap (λ b. b || ((stage == place) && writes same one id)) (keeps.writers id place)
      ∙ ap (λ s. list_any (λ other. writes same other id) (systems_of (stage_at stages place)) || ((s == place) && writes same one id)) is
      ∙ sym (any-placed (λ other. writes same other id) one stages found fits place);
  users = λ id place.
      marks.users id place
      ∙ ap (λ b. b || ((stage == place) && uses same one id)) (keeps.users id place)
      ∙ ap (λ s. list_any (λ other. uses same other id) (systems_of (stage_at stages place)) || ((s == place) && uses same one id)) is
      ∙ sym (any-placed (λ other. uses same other id) one stages found fits place);
  firsts = λ number place.
      firsts number place
      ∙ ap (λ b. b || (nat_lt stage place && (one.number == number))) (keeps.firsts number place)
      ∙ ap (λ s. stands_before stages number place || (nat_lt s place && (one.number == number))) is
      ∙ sym (any-before (λ other. other.number == number) one stages found fits place);
  seats = seats;
  loose = loose;
}

and-true : (b : Bool) → (b && true) ≡ b
and-true true = refl
and-true false = refl

-- the index keeps to the plan where a stage that lets no system join a group is told to be so
pub keeps-tight : {Id : Type 0} (cmp : Id → Id → Ordering) (same : Id → Id → Bool) (before after : Index Id) (stages : List (Stage Id)) (stage : ℕ)
    → Keeps cmp same before stages → is_loose (stage_at stages stage) ≡ false
    → (after.stages ≡ before.stages) × (after.seats ≡ before.seats) × (after.firsts ≡ before.firsts)
    → ((place : ℕ) → has_stage after.loose place ≡ (has_stage before.loose place && not (stage == place)))
    → Keeps cmp same after stages
keeps-tight cmp same before after stages stage keeps tight kept loose = record {
  writers = λ id place. ap (λ table. has_for cmp table.writers id place) kept.0 ∙ keeps.writers id place;
  users = λ id place. ap (λ table. has_for cmp table.users id place) kept.0 ∙ keeps.users id place;
  seats = subst (λ seats. KeepsSeats cmp same seats stages) (sym kept.1) keeps.seats;
  firsts = λ number place. ap (λ firsts. stood_before firsts.stages number place) kept.2 ∙ keeps.firsts number place;
  loose = λ place h. by place (cases_eq stage place) (sym (loose place) ∙ h);
}
  where
    by : (place : ℕ) → (stage ≡ place) ⊎ (stage ≡ place → ⊥) → (has_stage before.loose place && not (stage == place)) ≡ false → is_loose (stage_at stages place) ≡ false
    by place (inl e) out = ap (λ p. is_loose (stage_at stages p)) (sym e) ∙ tight
    by place (inr ne) out =
        keeps.loose place (sym (ap (λ b. has_stage before.loose place && not b) (ne_eqb stage place ne) ∙ and-true (has_stage before.loose place)) ∙ out)
