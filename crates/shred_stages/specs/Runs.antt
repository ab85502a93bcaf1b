-- What a run of a plan does, system after system.
use Rattle.std.specs.Prelude.{◌≡◌, ℕ, Option, None, Some, List, [], ◌∷◌, slice_get, slice_set}
use Rattle.std.specs.Option.{MatchOption, option_or}
use Rattle.shred_world.specs.declared.resource_id.ResourceId.{ResourceId}
use Rattle.shred_world.specs.Worlds.{Slots}
use Rattle.shred_world.specs.Bundles.{Holding}
use Rattle.shred_plan.specs.Plan.{Placing, Group, Stage}
use Rattle.shred_stages.specs.declared.stop.Stop.{Stop}
use Rattle.shred_stages.specs.Views.{cut, Leaves, merged, FitsSeat, view_slots}

-- a system runs over a view, which ends with a seat that has the values that come back
pub record RunsInView {V S : Type 0} (meets : S → Holding V → Option Stop → S → Holding V → Type 0)
    (system : S) (seen : Holding V) (refused : Option Stop) (system_after : S) (seat_after : Slots V) : Type 0 where
  pub reads_after : List ResourceId
  pub writes_after : List ResourceId
  pub world_after : Holding V
  pub fits : FitsSeat writes_after seat_after
  pub runs : meets system seen refused system_after (view_slots reads_after writes_after world_after seat_after)
  pub leaves : Leaves seen (view_slots reads_after writes_after world_after seat_after)

-- a system runs over what it declares of what is held, and what it left is then held
pub record Step {V S : Type 0} (meets : S → Holding V → Option Stop → S → Holding V → Type 0) (reads writes : List ResourceId)
    (system : S) (w : Holding V) (refused : Option Stop) (system_after : S) (w_after : Holding V) : Type 0 where
  pub after : Holding V
  pub runs : meets system (cut reads writes w) refused system_after after
  pub leaves : Leaves (cut reads writes w) after
  pub comes_back : (id : ResourceId) → w_after id ≡ merged (after id) (w id)

-- the systems by their numbers, and what is held
pub record State (V S : Type 0) : Type 0 where
  pub systems : List S
  pub held : Holding V

module _ {V S : Type 0} (meets : S → Holding V → Option Stop → S → Holding V → Type 0) where
  -- a system of the plan takes its turn
  abbrev pub Turn : Placing ResourceId → State V S → Option Stop → State V S → Type 0
  Turn one before refused after =
      (left : S) × MatchOption (slice_get before.systems one.number) ⊥ (λ system. Step meets one.reads one.writes system before.held refused left after.held)
      × (after.systems ≡ slice_set before.systems one.number left)

  -- the systems of a group, one after the other, up to the first that refuses
  abbrev pub GroupRuns : Group ResourceId → State V S → Option (ℕ × Stop) → State V S → Type 0
  GroupRuns [] before refused after = (refused ≡ None) × (after ≡ before)
  GroupRuns (one ∷ others) before refused after =
      (between : State V S) × (stop : Option Stop) × Turn one before stop between
      × MatchOption stop (GroupRuns others between refused after) (λ why. (refused ≡ Some (one.number, why)) × (after ≡ between))

  -- the groups of a stage, each to its end; the first refusal is told
  abbrev pub StageRuns : Stage ResourceId → State V S → Option (ℕ × Stop) → State V S → Type 0
  StageRuns [] before refused after = (refused ≡ None) × (after ≡ before)
  StageRuns (group ∷ stage) before refused after =
      (between : State V S) × (first later : Option (ℕ × Stop)) × GroupRuns group before first between × StageRuns stage between later after
      × (refused ≡ option_or first later)

  -- the stages, up to the first in which a system refuses
  abbrev pub StagesRun : List (Stage ResourceId) → State V S → Option (ℕ × Stop) → State V S → Type 0
  StagesRun [] before refused after = (refused ≡ None) × (after ≡ before)
  StagesRun (stage ∷ later) before refused after =
      (between : State V S) × (stop : Option (ℕ × Stop)) × StageRuns stage before stop between
      × MatchOption stop (StagesRun later between refused after) (λ why. (refused ≡ Some why) × (after ≡ between))
