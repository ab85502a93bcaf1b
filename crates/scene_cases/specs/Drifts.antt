-- What drift makes of positions.
use Rattle.std.specs.Prelude.{◌≡◌, ℕ, ◌+◌, ◌%◌, ◌^◌, Option, Some, None, [], ◌∷◌}
use Rattle.shred_world.specs.declared.resource_id.ResourceId.{ResourceId}
use Rattle.shred_world.specs.ResourceIds.{id_of}
use Rattle.shred_world.specs.Bundles.{Holding, readable, owned}
use Rattle.shred_stages.specs.Changes.{with_values}
use Rattle.specs_layouts.specs.Channels.{log_of}
use Rattle.specs_layouts.specs.Flagged.{Flagged, tells}
use Rattle.specs_layouts.specs.Masked.{Masked}
use Rattle.specs_layouts.specs.Shows.{Shows}
use Rattle.specs_join.specs.ChangeEach.{AreChanged}
use Rattle.scene_world.specs.declared.any_store.AnyStore.{AnyStore}
use Rattle.scene_world.specs.Stores.{store_part}
use Rattle.scene_cases.specs.declared.turns.values.Position.{Position}
use Rattle.scene_cases.specs.declared.turns.values.Velocity.{Velocity}
use Rattle.scene_cases.specs.declared.turns.values.Value.{Value}
use Rattle.scene_cases.specs.declared.turns.values.Value.TheVariants.{EntitiesValue, MarkersValue, AllocatorValue, QueueValue, PositionValue, VelocityValue}

-- the storages of the two kinds, and where they stand
abbrev pub Positions : Type 0
Positions = Masked (Flagged (AnyStore Position))

abbrev pub Velocities : Type 0
Velocities = Masked (Flagged (AnyStore Velocity))

abbrev pub position_id : ResourceId
position_id = id_of 4 0

abbrev pub velocity_id : ResourceId
velocity_id = id_of 5 0

-- what a value holds of each
abbrev pub positions_in : Value → Option Positions
positions_in (EntitiesValue x) = None
positions_in (MarkersValue x) = None
positions_in (AllocatorValue x) = None
positions_in (QueueValue x) = None
positions_in (PositionValue x) = Some x
positions_in (VelocityValue x) = None

abbrev pub velocities_in : Value → Option Velocities
velocities_in (EntitiesValue x) = None
velocities_in (MarkersValue x) = None
velocities_in (AllocatorValue x) = None
velocities_in (QueueValue x) = None
velocities_in (PositionValue x) = None
velocities_in (VelocityValue x) = Some x

-- the part at an index
abbrev pub position_at : Positions → ℕ → Option Position
position_at storage index = store_part storage.inner.inner index

abbrev pub velocity_at : Velocities → ℕ → Option Velocity
velocity_at storage index = store_part storage.inner.inner index

-- a position and its velocity, in 64 bits
abbrev pub moved : Position → Velocity → Option Position
moved position velocity = Some (record { 0 = (position.0 + velocity.0) % 2 ^ 64 })

-- each position has gained the velocity at its index, the events of the positions show it, and nothing else changed
pub record Moves (seen left : Holding Value) : Type 0 where
  pub positions : Positions
  pub velocities : Velocities
  pub after : Positions
  pub written : seen position_id ≡ owned (PositionValue positions)
  pub read : readable (seen velocity_id) ≡ Some (VelocityValue velocities)
  pub changed : AreChanged moved (position_at positions) (velocity_at velocities) (position_at after)
  pub shown : Shows (λ (s : Flagged (AnyStore Position)). store_part s.inner) (λ s. log_of s.channel) tells positions.inner after.inner
  pub others : left ≡ with_values ((position_id, PositionValue after) ∷ []) seen
