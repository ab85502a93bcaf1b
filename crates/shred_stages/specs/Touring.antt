-- Runs of stages while workers stand by.
use Rattle.std.specs.Prelude.{◌≡◌, ◌⊎◌, ℕ, List, [], Option, length}
use Rattle.shred_world.specs.declared.resource_id.ResourceId.{ResourceId}
use Rattle.shred_world.specs.Worlds.{Slots}
use Rattle.shred_world.specs.Bundles.{Holding, holding_of}
use Rattle.shred_plan.specs.Plan.{Stage}
use Rattle.shred_stages.specs.declared.stop.Stop.{Stop}
use Rattle.shred_stages.specs.declared.turn.Staged.{Staged}
use Rattle.shred_stages.specs.Runs.{StagesRun}
use Rattle.shred_stages.specs.Seats.{SeatsKept, state_of}

-- stages, the systems by number, a world, and which system refused and why
pub record Touring (V S : Type 0) : Type 0 where
  pub stages : List (Stage ResourceId)
  pub staged : List (Staged V S)
  pub world : Slots V
  pub refused : Option (ℕ × Stop)

-- the stages run over the world
pub record Tours {V S : Type 0} (meets : S → Holding V → Option Stop → S → Holding V → Type 0) (before after : Touring V S) : Type 0 where
  pub runs : StagesRun meets before.stages (state_of before.staged (holding_of before.world)) after.refused (state_of after.staged (holding_of after.world))
  pub stages : after.stages ≡ before.stages
  pub seats : SeatsKept before.staged after.staged
  pub count : length after.staged ≡ length before.staged

-- nothing is kept for the stages of a plan, or each of them is
abbrev pub IsKept : (stages kept : List (Stage ResourceId)) → Type 0
IsKept stages kept = (kept ≡ []) ⊎ (kept ≡ stages)
