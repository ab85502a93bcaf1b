-- Runs along a list of systems, the steps that are taken in them, and lists that are the same up to order.
use Rattle.std.specs.Prelude.{◌≡◌, ℕ, Bool, true, ◌||◌, ◌⊎◌, Option, None, Some, List, [], ◌∷◌, map, slice_get, slice_set, Result, Ok, Err}
use Rattle.std.specs.List.Sorted.{IsPermutation}
use Rattle.shred_world.specs.declared.resource_id.ResourceId.{ResourceId}
use Rattle.shred_world.specs.ResourceIds.{same_id}
use Rattle.shred_world.specs.Bundles.{Holding}
use Rattle.shred_plan.specs.Plan.{Placing, conflict, plan_order}
use Rattle.shred_plan.specs.Laws.{has}
use Rattle.shred_stages.specs.declared.stop.Stop.{Stop}
use Rattle.shred_stages.specs.Views.{cut, Leaves, merged}
use Rattle.shred_stages.specs.Runs.{State, Turn, GroupRuns}
use Rattle.shred_stages.specs.Staging.{Staging}

-- whether the order of two systems counts: they conflict, or one was added to come after the other
abbrev pub are_bound : {Id : Type 0} → (Id → Id → Bool) → Placing Id → Placing Id → Bool
are_bound same one other = conflict same one other || (has one.after other.number || has other.after one.number)

-- a system stands in a list
abbrev pub IsIn : {Id : Type 0} → Placing Id → List (Placing Id) → Type 0
IsIn one [] = ⊥
IsIn one (first ∷ later) = (first ≡ one) ⊎ IsIn one later

-- one system stands before another in a list
abbrev pub StandsBefore : {Id : Type 0} → Placing Id → Placing Id → List (Placing Id) → Type 0
StandsBefore one other [] = ⊥
StandsBefore one other (first ∷ later) = ((first ≡ one) × IsIn other later) ⊎ StandsBefore one other later

-- a list has the systems of an order, and where the order of two counts, they stand as they do there
pub record SameUpToOrder {Id : Type 0} (same : Id → Id → Bool) (order list : List (Placing Id)) : Type 0 where
  pub systems : IsPermutation order list
  pub stand : (one other : Placing Id) → are_bound same one other ≡ true → StandsBefore one other order → StandsBefore one other list

-- a step that a system takes: the system before and after it, and what it leaves of what it is lent
pub record Taken (V S : Type 0) : Type 0 where
  pub one : Placing ResourceId
  pub system : S
  pub system_after : S
  pub left : Holding V

-- the systems that took some steps
abbrev pub systems_taken : {V S : Type 0} → List (Taken V S) → List (Placing ResourceId)
systems_taken steps = map (λ step. step.one) steps

module _ {V S : Type 0} (meets : S → Holding V → Option Stop → S → Holding V → Type 0) where
  -- the systems of a list run, one after the other, up to the first that refuses
  abbrev pub ListRuns : List (Placing ResourceId) → State V S → Option (ℕ × Stop) → State V S → Type 0
  ListRuns list before refused after = GroupRuns meets list before refused after

  -- the systems of a list take their turns, one after the other, and none refuses
  abbrev pub TakeTurns : List (Placing ResourceId) → State V S → State V S → Type 0
  TakeTurns [] before after = after ≡ before
  TakeTurns (one ∷ later) before after = (between : State V S) × Turn meets one before None between × TakeTurns later between after

  -- a step can be taken from a state: its system stands there, and may do this with what it is lent
  pub record CanBeTaken (step : Taken V S) (before : State V S) : Type 0 where
    pub there : slice_get before.systems step.one.number ≡ Some step.system
    pub runs : meets step.system (cut step.one.reads step.one.writes before.held) None step.system_after step.left
    pub leaves : Leaves (cut step.one.reads step.one.writes before.held) step.left

  -- the state that it leads to
  abbrev pub taken_from : Taken V S → State V S → State V S
  taken_from step before = record { systems = slice_set before.systems step.one.number step.system_after; held = λ id. merged (step.left id) (before.held id) }

  -- some steps are taken, one after the other
  abbrev pub StepsRun : List (Taken V S) → State V S → State V S → Type 0
  StepsRun [] before after = after ≡ before
  StepsRun (step ∷ later) before after = CanBeTaken step before × StepsRun later (taken_from step before) after

  -- the very same steps lead to the same state along each list that is the same up to order
  abbrev pub StepsRunInAnyOrder : List (Taken V S) → State V S → State V S → Type 0
  StepsRunInAnyOrder steps before after =
      (list : List (Placing ResourceId)) → SameUpToOrder same_id (systems_taken steps) list
      → (others : List (Taken V S)) × IsPermutation steps others × (systems_taken others ≡ list) × StepsRun others before after

  -- the systems of an order take steps along it, which lead to the same state in any order
  abbrev pub RunsUpToOrder : List (Placing ResourceId) → State V S → State V S → Type 0
  RunsUpToOrder order before after = (steps : List (Taken V S)) × (systems_taken steps ≡ order) × StepsRun steps before after × StepsRunInAnyOrder steps before after

  -- so do those of a builder's plan, where none refuses
  abbrev pub RunsInAnyOrder : {A E : Type 0} → Staging S → Holding V → Result A E → Staging S → Holding V → Type 0
  RunsInAnyOrder before held (Ok a) after held_after =
      RunsUpToOrder (plan_order before.planning.stages) (record { systems = before.systems; held = held }) (record { systems = after.systems; held = held_after })
  RunsInAnyOrder before held (Err e) after held_after = Unit {0}
