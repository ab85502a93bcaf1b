-- What values hold and drop, by the storages in them, as tools/values writes it from values.list.
use Rattle.std.proofs.Common.{◌≡◌, ℕ, Bool, false, not, ◌&&◌, eqb, List, [], ◌++◌, Option, None, Some, refl}
use Rattle.std.specs.List.{list_any}
use Rattle.specs.specs.ForStorages.{Masked}
use Rattle.specs.specs.ForStorages.{DenseVecStorage}
use Rattle.specs.specs.ForStorages.{VecStorage}
use Rattle.specs.specs.ForWorlds.{DropsWithin, within-none, within-append, within-parts}
use Rattle.specs.specs.ForWorlds.{stays-append, stays-parts}
use Rattle.simulation.specs.declared.parts.Position.{Position}
use Rattle.simulation.specs.declared.parts.Velocity.{Velocity}
use Rattle.simulation.specs.declared.values.Value.{Value}
use Rattle.simulation.specs.declared.values.Value.TheVariants.{EntitiesValue}
use Rattle.simulation.specs.declared.values.Value.TheVariants.{TableValue}
use Rattle.simulation.specs.declared.values.Value.TheVariants.{PositionValue}
use Rattle.simulation.specs.declared.values.Value.TheVariants.{VelocityValue}

-- the storages of the kinds
abbrev pub Positions : Type 0
Positions = Masked (VecStorage Position)

abbrev pub Velocities : Type 0
Velocities = Masked (DenseVecStorage Velocity)

-- the storage of a kind in a value
abbrev pub position_part : Value → Option Positions
position_part (EntitiesValue x) = None
position_part (TableValue x) = None
position_part (PositionValue s) = Some s
position_part (VelocityValue x) = None

abbrev pub velocity_part : Value → Option Velocities
velocity_part (EntitiesValue x) = None
velocity_part (TableValue x) = None
velocity_part (PositionValue x) = None
velocity_part (VelocityValue s) = Some s

-- whether an index has a part
abbrev pub value_has_part : (Positions → ℕ → Bool) → (Velocities → ℕ → Bool) → Value → ℕ → Bool
value_has_part has_position has_velocity (EntitiesValue x) index = false
value_has_part has_position has_velocity (TableValue x) index = false
value_has_part has_position has_velocity (PositionValue s) index = has_position s index
value_has_part has_position has_velocity (VelocityValue s) index = has_velocity s index

-- whether so many drops find room
abbrev pub value_has_room : (Positions → ℕ → Type 0) → (Velocities → ℕ → Type 0) → Value → ℕ → Type 0
value_has_room room_position room_velocity (EntitiesValue x) count = Unit {0}
value_has_room room_position room_velocity (TableValue x) count = Unit {0}
value_has_room room_position room_velocity (PositionValue s) count = room_position s count
value_has_room room_position room_velocity (VelocityValue s) count = room_velocity s count

-- what a value is after drops
abbrev pub value_drops : (Positions → List ℕ → Positions → Type 0) → (Velocities → List ℕ → Velocities → Type 0) → Value → List ℕ → Value → Type 0
value_drops drops_position drops_velocity (EntitiesValue x) indices after = after ≡ EntitiesValue x
value_drops drops_position drops_velocity (TableValue x) indices after = after ≡ TableValue x
value_drops drops_position drops_velocity (PositionValue s) indices after =
    DropsWithin PositionValue drops_position s indices after
value_drops drops_position drops_velocity (VelocityValue s) indices after =
    DropsWithin VelocityValue drops_velocity s indices after

module _ (drops_position : Positions → List ℕ → Positions → Type 0) (drops_velocity : Velocities → List ℕ → Velocities → Type 0) where
  pub value-none : ((s : Positions) → drops_position s [] s) → ((s : Velocities) → drops_velocity s [] s) → (v : Value) → value_drops drops_position drops_velocity v [] v
  value-none none_position none_velocity (EntitiesValue x) = refl
  value-none none_position none_velocity (TableValue x) = refl
  value-none none_position none_velocity (PositionValue s) =
      within-none PositionValue drops_position (value_drops drops_position drops_velocity) none_position s
  value-none none_position none_velocity (VelocityValue s) =
      within-none VelocityValue drops_velocity (value_drops drops_position drops_velocity) none_velocity s

  pub value-append : ((first second third : Positions) (indices others : List ℕ)
      → drops_position first indices second → drops_position second others third
      → drops_position first (indices ++ others) third)
      → ((first second third : Velocities) (indices others : List ℕ)
      → drops_velocity first indices second → drops_velocity second others third
      → drops_velocity first (indices ++ others) third)
      → (first second third : Value) (indices others : List ℕ)
      → value_drops drops_position drops_velocity first indices second → value_drops drops_position drops_velocity second others third
      → value_drops drops_position drops_velocity first (indices ++ others) third
  value-append append_position append_velocity (EntitiesValue x) second third indices others one other =
      stays-append (value_drops drops_position drops_velocity) (EntitiesValue x) second third others (λ is. is) one other
  value-append append_position append_velocity (TableValue x) second third indices others one other =
      stays-append (value_drops drops_position drops_velocity) (TableValue x) second third others (λ is. is) one other
  value-append append_position append_velocity (PositionValue s) second third indices others one other =
      within-append PositionValue drops_position (value_drops drops_position drops_velocity) (λ _ _ _ is. is) append_position
      s second third indices others one other
  value-append append_position append_velocity (VelocityValue s) second third indices others one other =
      within-append VelocityValue drops_velocity (value_drops drops_position drops_velocity) (λ _ _ _ is. is) append_velocity
      s second third indices others one other

pub value-parts : (has_position : Positions → ℕ → Bool) (has_velocity : Velocities → ℕ → Bool) (drops_position : Positions → List ℕ → Positions → Type 0) (drops_velocity : Velocities → List ℕ → Velocities → Type 0)
    → ((before after : Positions) (indices : List ℕ) → drops_position before indices after → (index : ℕ)
    → has_position after index ≡ (not (list_any (eqb index) indices) && has_position before index))
    → ((before after : Velocities) (indices : List ℕ) → drops_velocity before indices after → (index : ℕ)
    → has_velocity after index ≡ (not (list_any (eqb index) indices) && has_velocity before index))
    → (before after : Value) (indices : List ℕ) → value_drops drops_position drops_velocity before indices after → (index : ℕ)
    → value_has_part has_position has_velocity after index
    ≡ (not (list_any (eqb index) indices) && value_has_part has_position has_velocity before index)
value-parts has_position has_velocity drops_position drops_velocity lost_position lost_velocity (EntitiesValue x) after indices is index =
    stays-parts (value_has_part has_position has_velocity) (EntitiesValue x) after (λ _. refl) is _ index
value-parts has_position has_velocity drops_position drops_velocity lost_position lost_velocity (TableValue x) after indices is index =
    stays-parts (value_has_part has_position has_velocity) (TableValue x) after (λ _. refl) is _ index
value-parts has_position has_velocity drops_position drops_velocity lost_position lost_velocity (PositionValue s) after indices dropped index =
    within-parts (value_has_part has_position has_velocity) PositionValue has_position (λ _ _. refl) s dropped.0 after indices dropped.1
    index (lost_position s dropped.0 indices dropped.2 index)
value-parts has_position has_velocity drops_position drops_velocity lost_position lost_velocity (VelocityValue s) after indices dropped index =
    within-parts (value_has_part has_position has_velocity) VelocityValue has_velocity (λ _ _. refl) s dropped.0 after indices dropped.1
    index (lost_velocity s dropped.0 indices dropped.2 index)
