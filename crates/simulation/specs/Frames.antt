-- What a dispatch of both systems comes to, and what a frame makes of the parts of an entity.
use Rattle.std.specs.Prelude.{◌≡◌, ℕ, zero, suc, ◌==◌, true, false, Option, Some, None, is_some, if◌then◌else◌, List, [], ◌∷◌}
use Rattle.std.specs.List.{list_any}
use Rattle.std.specs.Option.{option_and_then}
use Rattle.std.specs.FinMap as map
use Rattle.std.specs.FinSet as set
use Rattle.specs.specs.ForWorlds.{ResourceId, Slots, value_at, Holding}
use Rattle.specs.specs.ForSystems.{Placing, Staging, Dispatching, Batched, Work, System, NoBatch, NoLocal}
use Rattle.specs.specs.ForStorages.{Births, living, after}
use Rattle.simulation.specs.declared.parts.Position.{Position}
use Rattle.simulation.specs.declared.parts.Velocity.{Velocity}
use Rattle.simulation.specs.declared.values.Value.{Value}
use Rattle.simulation.specs.declared.values.Value.TheVariants.{EntitiesValue, TableValue, PositionValue, VelocityValue}
use Rattle.simulation.specs.declared.steps.Step.{Step}
use Rattle.simulation.specs.declared.steps.Step.TheVariants.{Movement, Reaping}
use Rattle.simulation.specs.Values.{Positions, Velocities, position_part, velocity_part}
use Rattle.simulation.specs.Steps.{births_id, table_id, position_id, velocity_id, position_at, velocity_at, moved, is_far, step_reads, step_writes, Moves, Reaps}

-- as the planner sees them: the second reads what the first writes
abbrev pub moving : Placing ResourceId
moving = record { number = 0; reads = step_reads Movement; writes = step_writes Movement; after = []; time = 3 }

abbrev pub reaping : Placing ResourceId
reaping = record { number = 1; reads = step_reads Reaping; writes = step_writes Reaping; after = []; time = 3 }

abbrev pub two_staged : Staging (Work Step (Batched Step NoBatch))
two_staged = record {
  planning = record { first = 0; stages = ((moving ∷ []) ∷ []) ∷ ((reaping ∷ []) ∷ []) ∷ [] };
  systems = System Movement ∷ System Reaping ∷ [];
}

-- a dispatcher of the two, and of nothing else
pub record IsTwo (dispatching : Dispatching (Work Step (Batched Step NoBatch)) NoLocal) : Type 0 where
  pub staging : dispatching.staging ≡ two_staged
  pub locals : dispatching.locals ≡ []

-- first all moved, then the deletions of those that had come far were accepted
abbrev pub MovesAndReaps : (before after : Holding Value) → Type 0
MovesAndReaps before after = (between : Holding Value) × Moves before between × Reaps between after

-- what an entity has of both kinds after a frame: nothing, where it has come far
abbrev pub framed : Option Position × Option Velocity → Option Position × Option Velocity
framed parts = if is_far (after moved parts.0 parts.1) then (None, None) else (after moved parts.0 parts.1, parts.1)

-- and after so many frames
abbrev pub frames : ℕ → Option Position × Option Velocity → Option Position × Option Velocity
frames zero parts = parts
frames (suc more) parts = framed (frames more parts)

-- the position and the velocity at an index of a world
abbrev pub position_in : Slots Value → ℕ → Option Position
position_in w index = option_and_then (λ s. position_at s index) (option_and_then position_part (value_at w position_id))

abbrev pub velocity_in : Slots Value → ℕ → Option Velocity
velocity_in w index = option_and_then (λ s. velocity_at s index) (option_and_then velocity_part (value_at w velocity_id))

abbrev pub parts_in : Slots Value → ℕ → Option Position × Option Velocity
parts_in w index = (position_in w index, velocity_in w index)

-- a world of the simulation between two frames: both kinds are registered, no deletion is open, and only the living have positions
pub record Stands (w : Slots Value) : Type 0 where
  pub births : Births
  pub kinds : List ℕ
  pub positions : Positions
  pub velocities : Velocities
  pub entities : map.get w births_id ≡ Some (Some (EntitiesValue births))
  pub table : map.get w table_id ≡ Some (Some (TableValue kinds))
  pub has_positions : map.get w position_id ≡ Some (Some (PositionValue positions))
  pub has_velocities : map.get w velocity_id ≡ Some (Some (VelocityValue velocities))
  pub lists_positions : list_any (λ k. k == 2) kinds ≡ true
  pub lists_velocities : list_any (λ k. k == 3) kinds ≡ true
  pub none_open : births.deletions ≡ set.empty
  pub of_the_living : (index : ℕ) → is_some (living births index) ≡ false → position_at positions index ≡ None
