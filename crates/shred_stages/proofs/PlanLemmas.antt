-- The steps of a plan are taken along each list that is the same up to its order.
use Rattle.std.proofs.Common.{◌≡◌, ◌≢◌, inl, inr, ℕ, zero, suc, Bool, true, false, ◌||◌, List, [], ◌∷◌, refl, ap, sym, subst, arith, Option, None, Result, Ok, Err}
use Rattle.std.specs.Prelude.{◌==◌, map}
use Rattle.std.specs.List.{AllByRecursion, Contains, IsDistinct}
use Rattle.std.proofs.lemmas.Bool.{eqb-true, eqb-false}
use Rattle.std.proofs.lemmas.List.Sorted.{IsPermutation-sym, Contains-permutation}
use Rattle.std.proofs.lemmas.Map.Keys.{IsDistinct-IsPermutation}
use Rattle.shred_world.specs.declared.resource_id.ResourceId.{ResourceId}
use Rattle.shred_world.specs.ResourceIds.{same_id}
use Rattle.shred_world.specs.Bundles.{Holding}
use Rattle.shred_plan.specs.Plan.{Placing, Stage, Planning, plan, plan_order}
use Rattle.shred_plan.specs.Laws.{systems_added, has}
use Rattle.shred_plan.proofs.CallerLemmas.{stands-once}
use Rattle.shred_stages.specs.declared.stop.Stop.{Stop}
use Rattle.shred_stages.specs.declared.error.DispatchError.{DispatchError}
use Rattle.shred_stages.specs.declared.run.Refusal.{Refusal}
use Rattle.shred_stages.specs.declared.turn.Staged.{Staged}
use Rattle.shred_stages.specs.Runs.{State, StagesRun}
use Rattle.shred_stages.specs.Free.{IsNone, AreDistinct}
use Rattle.shred_stages.specs.Seats.{IsPlanned, state_of, refusal_of}
use Rattle.shred_stages.specs.Staging.{Staging, Tells}
use Rattle.shred_stages.specs.Ends.{EndsAs}
use Rattle.shred_stages.specs.Orders.{IsIn, SameUpToOrder, ListRuns, systems_taken, RunsUpToOrder, RunsInAnyOrder}
use Rattle.shred_stages.proofs.FreeLemmas.{same_number, flips, numbered-distinct}
use Rattle.shred_stages.proofs.ListLemmas.{stages-list}
use Rattle.shred_stages.proofs.StepLemmas.{steps-of-list, list-of-steps}
use Rattle.shred_stages.proofs.OrderLemmas.{Alike, steps-along}

pub contains-in : (list : List (Placing ResourceId)) (x : Placing ResourceId) → IsIn x list → Contains list x
contains-in [] x there = absurd there
contains-in (y ∷ list) x (inl is) = (0, omega arith, is)
contains-in (y ∷ list) x (inr there) = let later = contains-in list x there in (suc later.0, omega (arith, later.1), later.2)

pub in-contains : (list : List (Placing ResourceId)) (x : Placing ResourceId) → Contains list x → IsIn x list
in-contains [] x (k, within, is) = absurd (omega (arith, within))
in-contains (y ∷ list) x (zero, within, is) = inl is
in-contains (y ∷ list) x (suc k, within, is) = inr (in-contains list x (k, omega (arith, within), is))

-- numbers that differ, as std says it and as this crate does

unlike : (a b : ℕ) → a ≢ b → (a == b) ≡ false
unlike a b differ = by (a == b) refl
  where
    by : (same : Bool) → (a == b) ≡ same → (a == b) ≡ false
    by true is = absurd (differ (eqb-true a b is))
    by false is = is

none-all : (one : Placing ResourceId) (list : List (Placing ResourceId)) → IsNone one.number list → AllByRecursion (λ other. same_number one other ≡ false) list
none-all one [] none = tt
none-all one (x ∷ list) none = (unlike one.number x.number none.0, none-all one list none.1)

all-none : (one : Placing ResourceId) (list : List (Placing ResourceId)) → AllByRecursion (λ other. same_number one other ≡ false) list → IsNone one.number list
all-none one [] all = tt
all-none one (x ∷ list) all = (eqb-false one.number x.number all.0, all-none one list all.1)

to-std : (list : List (Placing ResourceId)) → AreDistinct list → IsDistinct same_number list
unfolding IsDistinct
to-std [] distinct = tt
to-std (x ∷ list) distinct = (none-all x list distinct.0, to-std list distinct.1)

from-std : (list : List (Placing ResourceId)) → IsDistinct same_number list → AreDistinct list
unfolding IsDistinct
from-std [] distinct = tt
from-std (x ∷ list) distinct = (all-none x list distinct.0, from-std list distinct.1)

-- no system stands in a plan twice
pub planned-distinct : (same : ResourceId → ResourceId → Bool) (planning : Planning ResourceId) (count : ℕ) → IsPlanned same planning count → AreDistinct (plan_order planning.stages)
planned-distinct same planning count made =
    let is : planning.stages ≡ plan same made.list = ap (λ planned. planned.stages) made.planned in
    let P : List (Stage ResourceId) → Type 0 = λ stages. AreDistinct (plan_order stages) in
    let added = numbered-distinct 0 (systems_added made.list) made.numbered in
    subst P (sym is) (from-std _ (IsDistinct-IsPermutation same_number flips (systems_added made.list) (plan_order (plan same made.list)) (IsPermutation-sym _ _ (stands-once same made.list)) added))

same-alike : (order list : List (Placing ResourceId)) → AreDistinct order → SameUpToOrder same_id order list → Alike order list
same-alike order list distinct same = record {
  distinct = distinct;
  distinct2 = from-std list (IsDistinct-IsPermutation same_number flips order list same.systems (to-std order distinct));
  into = λ x there. in-contains list x (Contains-permutation order list x same.systems (contains-in order x there));
  from = λ x there. in-contains order x (Contains-permutation list order x (IsPermutation-sym order list same.systems) (contains-in list x there));
  stand = λ x y clash stands. same.stand x y (ap (λ b. b || (has x.after y.number || has y.after x.number)) clash) stands;
}

module _ {V S : Type 0} (meets : S → Holding V → Option Stop → S → Holding V → Type 0) where
  -- a run along a list is made of steps, which can be taken in any order
  pub list-in-any-order : (order : List (Placing ResourceId)) (before after : State V S) → AreDistinct order → ListRuns meets order before None after → RunsUpToOrder meets order before after
  list-in-any-order order before after distinct run =
      let made = steps-of-list meets order before after None refl run in
      let distinct2 = let P : List (Placing ResourceId) → Type 0 = AreDistinct in subst P (sym made.1) distinct in
      (made.0, made.1, made.2, λ list same. steps-along meets list made.0 before after (same-alike (systems_taken made.0) list distinct2 same) made.2)

  -- a list that is the same up to order comes to the same
  pub same-list : (order list : List (Placing ResourceId)) (before after : State V S) → AreDistinct order → SameUpToOrder same_id order list → ListRuns meets order before None after → ListRuns meets list before None after
  same-list order list before after distinct same run =
      let made = list-in-any-order order before after distinct run in
      let P : List (Placing ResourceId) → Type 0 = λ order. SameUpToOrder same_id order list in
      let Q : List (Placing ResourceId) → Type 0 = λ list. ListRuns meets list before None after in
      let other = made.3 list (subst P (sym made.1) same) in
      subst Q other.2 (list-of-steps meets other.0 before after other.3)

  -- so it is with a plan
  pub plan-in-any-order : (same : ResourceId → ResourceId → Bool) (planning : Planning ResourceId) (count : ℕ) (before after : State V S) → IsPlanned same planning count → StagesRun meets planning.stages before None after
      → RunsUpToOrder meets (plan_order planning.stages) before after
  plan-in-any-order same planning count before after made runs =
      list-in-any-order (plan_order planning.stages) before after (planned-distinct same planning count made) (stages-list meets planning.stages before after runs)

module _ {V S : Type 0} (meets : S → Holding V → Option Stop → S → Holding V → Type 0) (same : ResourceId → ResourceId → Bool) (count : ℕ)
    (planning planning2 : Planning ResourceId) (stages : List (Stage ResourceId)) (staged staged2 : List (Staged V S)) (held held_after : Holding V) (made : IsPlanned same planning count) (is : stages ≡ planning.stages) where
  abbrev InAnyOrder : {A E : Type 0} → Result A E → Type 0
  InAnyOrder result = RunsInAnyOrder meets (record { planning = planning; systems = map (λ one. one.system) staged }) held result (record { planning = planning2; systems = map (λ one. one.system) staged2 }) held_after

  staged-in-any-order : (refused : Option (ℕ × Stop)) → refused ≡ None → StagesRun meets stages (state_of staged held) refused (state_of staged2 held_after) → RunsUpToOrder meets (plan_order planning.stages) (state_of staged held) (state_of staged2 held_after)
  staged-in-any-order refused none runs =
      let P : List (Stage ResourceId) → Option (ℕ × Stop) → Type 0 = λ stages refused. StagesRun meets stages (state_of staged held) refused (state_of staged2 held_after) in
      plan-in-any-order meets same planning count (state_of staged held) (state_of staged2 held_after) made (subst (λ told. P planning.stages told) none (subst (λ list. P list refused) is runs))

  -- a builder's plan that runs on the caller's thread,
  pub run-in-any-order : {A : Type 0} (result : Result A Refusal) → StagesRun meets stages (state_of staged held) (refusal_of result) (state_of staged2 held_after) → InAnyOrder result
  run-in-any-order (Ok a) runs = staged-in-any-order None refl runs
  run-in-any-order (Err refusal) runs = tt

  -- and one that runs on threads
  pub ends-in-any-order : {A : Type 0} (result : Result A DispatchError) → EndsAs meets stages (state_of staged held) result (state_of staged2 held_after) → InAnyOrder result
  ends-in-any-order (Ok a) ends = staged-in-any-order None refl ends
  ends-in-any-order (Err refused) ends = tt

-- what is told of a run, where its answer is that of another
pub told-in-any-order : {V S A B : Type 0} (meets : S → Holding V → Option Stop → S → Holding V → Type 0) (before after : Staging S) (held held_after : Holding V) (outcome : Result A Refusal) (result : Result B DispatchError)
    → Tells result (refusal_of outcome) → RunsInAnyOrder meets before held outcome after held_after → RunsInAnyOrder meets before held result after held_after
told-in-any-order meets before after held held_after (Ok a) (Ok b) told runs = runs
told-in-any-order meets before after held held_after (Err refusal) (Ok b) told runs = cc
told-in-any-order meets before after held held_after outcome (Err refused) told runs = tt
