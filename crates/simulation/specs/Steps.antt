-- What movement and reaping make of what is held.
use Rattle.std.specs.Prelude.{◌≡◌, ℕ, ◌+◌, ◌%◌, ◌^◌, nat_lt, not, ◌&&◌, ◌||◌, Bool, true, false, List, [], ◌∷◌, Option, Some, None, is_some}
use Rattle.std.specs.FinSet as set
use Rattle.specs.specs.ForWorlds.{ResourceId, id_of, Holding, readable, owned}
use Rattle.specs.specs.ForSystems.{with_values, Stop}
use Rattle.specs.specs.ForStorages.{Births, living, Life, dense_part, slot_at, slots_of, AreChanged}
use Rattle.simulation.specs.declared.parts.Position.{Position}
use Rattle.simulation.specs.declared.parts.Velocity.{Velocity}
use Rattle.simulation.specs.declared.values.Value.{Value}
use Rattle.simulation.specs.declared.values.Value.TheVariants.{EntitiesValue, PositionValue, VelocityValue}
use Rattle.simulation.specs.declared.steps.Step.{Step}
use Rattle.simulation.specs.declared.steps.Step.TheVariants.{Movement, Reaping}
use Rattle.simulation.specs.Values.{Positions, Velocities}

-- where the entities, the table of kinds and the two storages stand
abbrev pub births_id : ResourceId
births_id = id_of 0 0

abbrev pub table_id : ResourceId
table_id = id_of 1 0

abbrev pub position_id : ResourceId
position_id = id_of 2 0

abbrev pub velocity_id : ResourceId
velocity_id = id_of 3 0

-- the position and the velocity at an index
abbrev pub position_at : Positions → ℕ → Option Position
position_at storage index = slot_at (slots_of storage.inner) index

abbrev pub velocity_at : Velocities → ℕ → Option Velocity
velocity_at storage index = dense_part storage.inner index

-- a position and its velocity, in 64 bits
abbrev pub moved : Position → Velocity → Option Position
moved position velocity = Some (record { 0 = (position.0 + velocity.0) % 2 ^ 64 })

-- a position is as far as the limit
abbrev pub is_far : Option Position → Bool
is_far None = false
is_far (Some position) = not (nat_lt position.0 100)

-- so it is with that of an entity that lives
abbrev pub is_reaped : Option Position → Option Life → Bool
is_reaped position life = is_far position && is_some life

-- each position has gained the velocity at its index, and nothing else changed
pub record Moves (seen left : Holding Value) : Type 0 where
  pub positions : Positions
  pub velocities : Velocities
  pub after : Positions
  pub written : seen position_id ≡ owned (PositionValue positions)
  pub read : readable (seen velocity_id) ≡ Some (VelocityValue velocities)
  pub parts : AreChanged moved (position_at positions) (velocity_at velocities) (position_at after)
  pub others : left ≡ with_values ((position_id, PositionValue after) ∷ []) seen

-- the deletions of the entities that have come far are accepted beside those that were, and nothing else changed
pub record Accepts (position : ℕ → Option Position) (before after : Births) : Type 0 where
  pub same : after ≡ record before { deletions = after.deletions }
  pub deletions : (index : ℕ) → set.contains after.deletions index ≡ (set.contains before.deletions index || is_reaped (position index) (living before index))

-- so they are in what is held
pub record Reaps (seen left : Holding Value) : Type 0 where
  pub births : Births
  pub positions : Positions
  pub after : Births
  pub written : seen births_id ≡ owned (EntitiesValue births)
  pub read : readable (seen position_id) ≡ Some (PositionValue positions)
  pub accepts : Accepts (position_at positions) births after
  pub others : left ≡ with_values ((births_id, EntitiesValue after) ∷ []) seen

abbrev pub Does : Step → Holding Value → Holding Value → Type 0
Does Movement = Moves
Does Reaping = Reaps

-- a system that accepts did its work; of one that refuses nothing is said
abbrev pub Accepted : {V : Type 0} → (Holding V → Holding V → Type 0) → Holding V → Option Stop → Holding V → Type 0
Accepted does seen None left = does seen left
Accepted does seen (Some stop) left = Unit {0}

-- each stays what it is
abbrev pub StepMeets : Step → Holding Value → Option Stop → Step → Holding Value → Type 0
StepMeets step seen refused step_after left = (step_after ≡ step) × Accepted (Does step) seen refused left

-- the ids that each reads, and writes
abbrev pub step_reads : Step → List ResourceId
step_reads Movement = velocity_id ∷ births_id ∷ births_id ∷ []
step_reads Reaping = position_id ∷ births_id ∷ []

abbrev pub step_writes : Step → List ResourceId
step_writes Movement = position_id ∷ []
step_writes Reaping = births_id ∷ []
