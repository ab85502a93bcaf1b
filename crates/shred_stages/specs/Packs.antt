-- What is lent to a thread: a group's systems, and the values that they write.
use Rattle.std.specs.Prelude.{◌≡◌, ℕ, List, Option}
use Rattle.std.specs.List.{AllZip}
use Rattle.shred_world.specs.declared.resource_id.ResourceId.{ResourceId}
use Rattle.shred_world.specs.Worlds.{Slots}
use Rattle.shred_world.specs.Bundles.{Holding, holding_of}
use Rattle.shred_plan.specs.Plan.{Group}
use Rattle.shred_stages.specs.declared.stop.Stop.{Stop}
use Rattle.shred_stages.specs.declared.turn.Staged.{Staged}
use Rattle.shred_stages.specs.Moves.{IsSeat}
use Rattle.shred_stages.specs.Views.{FitsSeat, view_slots}
use Rattle.shred_stages.specs.Apart.{PlacesRun}

-- each system of a group has a seat for what it writes
abbrev pub ArePlaced : {V S : Type 0} → Group ResourceId → List (Staged V S) → Type 0
ArePlaced group staged = AllZip (λ one there. IsSeat one.writes there.seat) group staged

-- a group's systems run over a view, which ends with a seat that has the values that come back
pub record PlacesInView {V S : Type 0} (meets : S → Holding V → Option Stop → S → Holding V → Type 0)
    (group : Group ResourceId) (systems : List S) (seen : Holding V) (refused : Option (ℕ × Stop)) (after : List S) (seat_after : Slots V) : Type 0 where
  pub reads_after : List ResourceId
  pub writes_after : List ResourceId
  pub world_after : Holding V
  pub fits : FitsSeat writes_after seat_after
  pub runs : PlacesRun meets group systems seen refused after (view_slots reads_after writes_after world_after seat_after)

-- a group that is lent: its ids, the values that it writes, its systems in their order, and which of them refused and why
pub record Packed (V S : Type 0) : Type 0 where
  pub group : Group ResourceId
  pub reads : List ResourceId
  pub writes : List ResourceId
  pub seat : Slots V
  pub systems : List S
  pub refused : Option (ℕ × Stop)

-- a thread runs what it was lent over a world that it only reads
pub record PackRuns {V S : Type 0} (meets : S → Holding V → Option Stop → S → Holding V → Type 0) (world : Slots V) (before after : Packed V S) : Type 0 where
  pub group : after.group ≡ before.group
  pub writes : after.writes ≡ before.writes
  pub runs : PlacesInView meets before.group before.systems (view_slots before.reads before.writes (holding_of world) before.seat) after.refused after.systems after.seat
