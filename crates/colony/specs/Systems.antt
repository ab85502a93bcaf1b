-- What the systems of a colony make of what they fetch.
use Rattle.std.specs.Prelude.{◌≡◌, ℕ, ◌+◌, ◌%◌, ◌^◌, nat_lt, not, Bool, false, ◌&&◌, ◌||◌, Option, None, Some, is_some}
use Rattle.std.specs.Option.{option_and_then}
use Rattle.std.specs.FinSet as set
use Rattle.specs.specs.ForStorages.{AreChanged, Births, dense_part, living, slot_at, slots_of}
use Rattle.specs.specs.ForWorlds.{Holding, id_of, readable}
use Rattle.colony.specs.Values.{Goals, Positions, Velocities, goal_part, position_part, velocity_part}
use Rattle.colony.specs.declared.parts.Goal.{Goal}
use Rattle.colony.specs.declared.parts.Position.{Position}
use Rattle.colony.specs.declared.parts.Settler.{Settler}
use Rattle.colony.specs.declared.parts.Velocity.{Velocity}
use Rattle.colony.specs.declared.values.Value.{Value}

-- the position and the goal at an index
abbrev pub position_at : Positions → ℕ → Option Position
position_at storage index = slot_at (slots_of storage.inner.inner) index

abbrev pub goal_at : Goals → ℕ → Option Goal
goal_at storage index = slot_at (slots_of storage.inner) index

-- a position and a velocity, in 64 bits
abbrev pub moved : Position → Velocity → Option Position
moved position velocity = Some (record { 0 = (position.0 + velocity.0) % 2 ^ 64 })

-- each position gained the velocity at its index, and nothing else changed
pub record Moves (before : Positions) (held : Holding Value) (after : Positions) : Type 0 where
  pub velocities : Velocities
  pub read : option_and_then velocity_part (readable (held (id_of 3 0))) ≡ Some velocities
  pub parts : AreChanged moved (position_at before) (dense_part velocities.inner) (position_at after)

-- the entity that is asked for in each frame
abbrev pub newcomer : Settler
newcomer = record { 0 = record { 0 = 1 }; 1 = record { 0 = 4 } }

-- a position is at its goal, or beyond
abbrev pub has_come : Option Position → Option Goal → Bool
has_come None goal = false
has_come (Some position) None = false
has_come (Some position) (Some goal) = not (nat_lt position.0 goal.0)

-- beside those that were, the deletions of the living entities are accepted that have come to their goals
pub record Ends (before : Births) (held : Holding Value) (after : Births) : Type 0 where
  pub positions : Positions
  pub goals : Goals
  pub read_positions : option_and_then position_part (readable (held (id_of 2 0))) ≡ Some positions
  pub read_goals : option_and_then goal_part (readable (held (id_of 4 0))) ≡ Some goals
  pub same : after ≡ record before { deletions = after.deletions }
  pub accepted : (index : ℕ) → set.contains after.deletions index ≡ (set.contains before.deletions index || (has_come (position_at positions index) (goal_at goals index) && is_some (living before index)))
