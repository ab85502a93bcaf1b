-- What values hold and drop, by the storages in them, as tools/values writes it from values.list.
use Rattle.std.proofs.Common.{◌≡◌, ℕ, Bool, false, not, ◌&&◌, eqb, List, [], ◌++◌, Option, None, Some, refl}
use Rattle.std.specs.List.{list_any}
use Rattle.specs.specs.ForStorages.{Masked}
use Rattle.specs.specs.ForStorages.{DenseVecStorage}
use Rattle.specs.specs.ForStorages.{VecStorage}
use Rattle.specs.specs.ForStorages.{FlaggedStorage}
use Rattle.specs.specs.ForWorlds.{DropsWithin, within-none, within-append, within-parts}
use Rattle.specs.specs.ForWorlds.{stays-append, stays-parts}
use Rattle.colony.specs.declared.parts.Position.{Position}
use Rattle.colony.specs.declared.parts.Velocity.{Velocity}
use Rattle.colony.specs.declared.parts.Goal.{Goal}
use Rattle.colony.specs.declared.values.Value.{Value}
use Rattle.colony.specs.declared.values.Value.TheVariants.{EntitiesValue}
use Rattle.colony.specs.declared.values.Value.TheVariants.{TableValue}
use Rattle.colony.specs.declared.values.Value.TheVariants.{PositionValue}
use Rattle.colony.specs.declared.values.Value.TheVariants.{VelocityValue}
use Rattle.colony.specs.declared.values.Value.TheVariants.{GoalValue}
use Rattle.colony.specs.declared.values.Value.TheVariants.{MarkValue}
use Rattle.colony.specs.declared.values.Value.TheVariants.{GiverValue}
use Rattle.colony.specs.declared.values.Value.TheVariants.{AskedValue}
use Rattle.colony.specs.declared.values.Value.TheVariants.{SharedValue}

-- the storages of the kinds
abbrev pub Positions : Type 0
Positions = Masked (FlaggedStorage Position (VecStorage Position))

abbrev pub Velocities : Type 0
Velocities = Masked (DenseVecStorage Velocity)

abbrev pub Goals : Type 0
Goals = Masked (VecStorage Goal)

abbrev pub Marks : Type 0
Marks = Masked (DenseVecStorage ℕ)

-- the storage of a kind in a value
abbrev pub position_part : Value → Option Positions
position_part (EntitiesValue x) = None
position_part (TableValue x) = None
position_part (PositionValue s) = Some s
position_part (VelocityValue x) = None
position_part (GoalValue x) = None
position_part (MarkValue x) = None
position_part (GiverValue x) = None
position_part (AskedValue x) = None
position_part (SharedValue x) = None

abbrev pub velocity_part : Value → Option Velocities
velocity_part (EntitiesValue x) = None
velocity_part (TableValue x) = None
velocity_part (PositionValue x) = None
velocity_part (VelocityValue s) = Some s
velocity_part (GoalValue x) = None
velocity_part (MarkValue x) = None
velocity_part (GiverValue x) = None
velocity_part (AskedValue x) = None
velocity_part (SharedValue x) = None

abbrev pub goal_part : Value → Option Goals
goal_part (EntitiesValue x) = None
goal_part (TableValue x) = None
goal_part (PositionValue x) = None
goal_part (VelocityValue x) = None
goal_part (GoalValue s) = Some s
goal_part (MarkValue x) = None
goal_part (GiverValue x) = None
goal_part (AskedValue x) = None
goal_part (SharedValue x) = None

abbrev pub mark_part : Value → Option Marks
mark_part (EntitiesValue x) = None
mark_part (TableValue x) = None
mark_part (PositionValue x) = None
mark_part (VelocityValue x) = None
mark_part (GoalValue x) = None
mark_part (MarkValue s) = Some s
mark_part (GiverValue x) = None
mark_part (AskedValue x) = None
mark_part (SharedValue x) = None

-- whether an index has a part
abbrev pub value_has_part : (Positions → ℕ → Bool) → (Velocities → ℕ → Bool) → (Goals → ℕ → Bool) → (Marks → ℕ → Bool) → Value → ℕ → Bool
value_has_part has_position has_velocity has_goal has_mark (EntitiesValue x) index = false
value_has_part has_position has_velocity has_goal has_mark (TableValue x) index = false
value_has_part has_position has_velocity has_goal has_mark (PositionValue s) index = has_position s index
value_has_part has_position has_velocity has_goal has_mark (VelocityValue s) index = has_velocity s index
value_has_part has_position has_velocity has_goal has_mark (GoalValue s) index = has_goal s index
value_has_part has_position has_velocity has_goal has_mark (MarkValue s) index = has_mark s index
value_has_part has_position has_velocity has_goal has_mark (GiverValue x) index = false
value_has_part has_position has_velocity has_goal has_mark (AskedValue x) index = false
value_has_part has_position has_velocity has_goal has_mark (SharedValue x) index = false

-- whether so many drops find room
abbrev pub value_has_room : (Positions → ℕ → Type 0) → (Velocities → ℕ → Type 0) → (Goals → ℕ → Type 0) → (Marks → ℕ → Type 0) → Value → ℕ → Type 0
value_has_room room_position room_velocity room_goal room_mark (EntitiesValue x) count = Unit {0}
value_has_room room_position room_velocity room_goal room_mark (TableValue x) count = Unit {0}
value_has_room room_position room_velocity room_goal room_mark (PositionValue s) count = room_position s count
value_has_room room_position room_velocity room_goal room_mark (VelocityValue s) count = room_velocity s count
value_has_room room_position room_velocity room_goal room_mark (GoalValue s) count = room_goal s count
value_has_room room_position room_velocity room_goal room_mark (MarkValue s) count = room_mark s count
value_has_room room_position room_velocity room_goal room_mark (GiverValue x) count = Unit {0}
value_has_room room_position room_velocity room_goal room_mark (AskedValue x) count = Unit {0}
value_has_room room_position room_velocity room_goal room_mark (SharedValue x) count = Unit {0}

-- what a value is after drops
abbrev pub value_drops : (Positions → List ℕ → Positions → Type 0) → (Velocities → List ℕ → Velocities → Type 0) → (Goals → List ℕ → Goals → Type 0) → (Marks → List ℕ → Marks → Type 0) → Value → List ℕ → Value → Type 0
value_drops drops_position drops_velocity drops_goal drops_mark (EntitiesValue x) indices after = after ≡ EntitiesValue x
value_drops drops_position drops_velocity drops_goal drops_mark (TableValue x) indices after = after ≡ TableValue x
value_drops drops_position drops_velocity drops_goal drops_mark (PositionValue s) indices after =
    DropsWithin PositionValue drops_position s indices after
value_drops drops_position drops_velocity drops_goal drops_mark (VelocityValue s) indices after =
    DropsWithin VelocityValue drops_velocity s indices after
value_drops drops_position drops_velocity drops_goal drops_mark (GoalValue s) indices after =
    DropsWithin GoalValue drops_goal s indices after
value_drops drops_position drops_velocity drops_goal drops_mark (MarkValue s) indices after =
    DropsWithin MarkValue drops_mark s indices after
value_drops drops_position drops_velocity drops_goal drops_mark (GiverValue x) indices after = after ≡ GiverValue x
value_drops drops_position drops_velocity drops_goal drops_mark (AskedValue x) indices after = after ≡ AskedValue x
value_drops drops_position drops_velocity drops_goal drops_mark (SharedValue x) indices after = after ≡ SharedValue x

module _ (drops_position : Positions → List ℕ → Positions → Type 0) (drops_velocity : Velocities → List ℕ → Velocities → Type 0) (drops_goal : Goals → List ℕ → Goals → Type 0) (drops_mark : Marks → List ℕ → Marks → Type 0) where
  pub value-none : ((s : Positions) → drops_position s [] s) → ((s : Velocities) → drops_velocity s [] s) → ((s : Goals) → drops_goal s [] s) → ((s : Marks) → drops_mark s [] s) → (v : Value) → value_drops drops_position drops_velocity drops_goal drops_mark v [] v
  value-none none_position none_velocity none_goal none_mark (EntitiesValue x) = refl
  value-none none_position none_velocity none_goal none_mark (TableValue x) = refl
  value-none none_position none_velocity none_goal none_mark (PositionValue s) =
      within-none PositionValue drops_position (value_drops drops_position drops_velocity drops_goal drops_mark) none_position s
  value-none none_position none_velocity none_goal none_mark (VelocityValue s) =
      within-none VelocityValue drops_velocity (value_drops drops_position drops_velocity drops_goal drops_mark) none_velocity s
  value-none none_position none_velocity none_goal none_mark (GoalValue s) =
      within-none GoalValue drops_goal (value_drops drops_position drops_velocity drops_goal drops_mark) none_goal s
  value-none none_position none_velocity none_goal none_mark (MarkValue s) =
      within-none MarkValue drops_mark (value_drops drops_position drops_velocity drops_goal drops_mark) none_mark s
  value-none none_position none_velocity none_goal none_mark (GiverValue x) = refl
  value-none none_position none_velocity none_goal none_mark (AskedValue x) = refl
  value-none none_position none_velocity none_goal none_mark (SharedValue x) = refl

  pub value-append : ((first second third : Positions) (indices others : List ℕ)
      → drops_position first indices second → drops_position second others third
      → drops_position first (indices ++ others) third)
      → ((first second third : Velocities) (indices others : List ℕ)
      → drops_velocity first indices second → drops_velocity second others third
      → drops_velocity first (indices ++ others) third)
      → ((first second third : Goals) (indices others : List ℕ)
      → drops_goal first indices second → drops_goal second others third
      → drops_goal first (indices ++ others) third)
      → ((first second third : Marks) (indices others : List ℕ)
      → drops_mark first indices second → drops_mark second others third
      → drops_mark first (indices ++ others) third)
      → (first second third : Value) (indices others : List ℕ)
      → value_drops drops_position drops_velocity drops_goal drops_mark first indices second → value_drops drops_position drops_velocity drops_goal drops_mark second others third
      → value_drops drops_position drops_velocity drops_goal drops_mark first (indices ++ others) third
  value-append append_position append_velocity append_goal append_mark (EntitiesValue x) second third indices others one other =
      stays-append (value_drops drops_position drops_velocity drops_goal drops_mark) (EntitiesValue x) second third others (λ is. is) one other
  value-append append_position append_velocity append_goal append_mark (TableValue x) second third indices others one other =
      stays-append (value_drops drops_position drops_velocity drops_goal drops_mark) (TableValue x) second third others (λ is. is) one other
  value-append append_position append_velocity append_goal append_mark (PositionValue s) second third indices others one other =
      within-append PositionValue drops_position (value_drops drops_position drops_velocity drops_goal drops_mark) (λ _ _ _ is. is) append_position
      s second third indices others one other
  value-append append_position append_velocity append_goal append_mark (VelocityValue s) second third indices others one other =
      within-append VelocityValue drops_velocity (value_drops drops_position drops_velocity drops_goal drops_mark) (λ _ _ _ is. is) append_velocity
      s second third indices others one other
  value-append append_position append_velocity append_goal append_mark (GoalValue s) second third indices others one other =
      within-append GoalValue drops_goal (value_drops drops_position drops_velocity drops_goal drops_mark) (λ _ _ _ is. is) append_goal
      s second third indices others one other
  value-append append_position append_velocity append_goal append_mark (MarkValue s) second third indices others one other =
      within-append MarkValue drops_mark (value_drops drops_position drops_velocity drops_goal drops_mark) (λ _ _ _ is. is) append_mark
      s second third indices others one other
  value-append append_position append_velocity append_goal append_mark (GiverValue x) second third indices others one other =
      stays-append (value_drops drops_position drops_velocity drops_goal drops_mark) (GiverValue x) second third others (λ is. is) one other
  value-append append_position append_velocity append_goal append_mark (AskedValue x) second third indices others one other =
      stays-append (value_drops drops_position drops_velocity drops_goal drops_mark) (AskedValue x) second third others (λ is. is) one other
  value-append append_position append_velocity append_goal append_mark (SharedValue x) second third indices others one other =
      stays-append (value_drops drops_position drops_velocity drops_goal drops_mark) (SharedValue x) second third others (λ is. is) one other

pub value-parts : (has_position : Positions → ℕ → Bool) (has_velocity : Velocities → ℕ → Bool) (has_goal : Goals → ℕ → Bool) (has_mark : Marks → ℕ → Bool) (drops_position : Positions → List ℕ → Positions → Type 0) (drops_velocity : Velocities → List ℕ → Velocities → Type 0) (drops_goal : Goals → List ℕ → Goals → Type 0) (drops_mark : Marks → List ℕ → Marks → Type 0)
    → ((before after : Positions) (indices : List ℕ) → drops_position before indices after → (index : ℕ)
    → has_position after index ≡ (not (list_any (eqb index) indices) && has_position before index))
    → ((before after : Velocities) (indices : List ℕ) → drops_velocity before indices after → (index : ℕ)
    → has_velocity after index ≡ (not (list_any (eqb index) indices) && has_velocity before index))
    → ((before after : Goals) (indices : List ℕ) → drops_goal before indices after → (index : ℕ)
    → has_goal after index ≡ (not (list_any (eqb index) indices) && has_goal before index))
    → ((before after : Marks) (indices : List ℕ) → drops_mark before indices after → (index : ℕ)
    → has_mark after index ≡ (not (list_any (eqb index) indices) && has_mark before index))
    → (before after : Value) (indices : List ℕ) → value_drops drops_position drops_velocity drops_goal drops_mark before indices after → (index : ℕ)
    → value_has_part has_position has_velocity has_goal has_mark after index
    ≡ (not (list_any (eqb index) indices) && value_has_part has_position has_velocity has_goal has_mark before index)
value-parts has_position has_velocity has_goal has_mark drops_position drops_velocity drops_goal drops_mark lost_position lost_velocity lost_goal lost_mark (EntitiesValue x) after indices is index =
    stays-parts (value_has_part has_position has_velocity has_goal has_mark) (EntitiesValue x) after (λ _. refl) is _ index
value-parts has_position has_velocity has_goal has_mark drops_position drops_velocity drops_goal drops_mark lost_position lost_velocity lost_goal lost_mark (TableValue x) after indices is index =
    stays-parts (value_has_part has_position has_velocity has_goal has_mark) (TableValue x) after (λ _. refl) is _ index
value-parts has_position has_velocity has_goal has_mark drops_position drops_velocity drops_goal drops_mark lost_position lost_velocity lost_goal lost_mark (PositionValue s) after indices dropped index =
    within-parts (value_has_part has_position has_velocity has_goal has_mark) PositionValue has_position (λ _ _. refl) s dropped.0 after indices dropped.1
    index (lost_position s dropped.0 indices dropped.2 index)
value-parts has_position has_velocity has_goal has_mark drops_position drops_velocity drops_goal drops_mark lost_position lost_velocity lost_goal lost_mark (VelocityValue s) after indices dropped index =
    within-parts (value_has_part has_position has_velocity has_goal has_mark) VelocityValue has_velocity (λ _ _. refl) s dropped.0 after indices dropped.1
    index (lost_velocity s dropped.0 indices dropped.2 index)
value-parts has_position has_velocity has_goal has_mark drops_position drops_velocity drops_goal drops_mark lost_position lost_velocity lost_goal lost_mark (GoalValue s) after indices dropped index =
    within-parts (value_has_part has_position has_velocity has_goal has_mark) GoalValue has_goal (λ _ _. refl) s dropped.0 after indices dropped.1
    index (lost_goal s dropped.0 indices dropped.2 index)
value-parts has_position has_velocity has_goal has_mark drops_position drops_velocity drops_goal drops_mark lost_position lost_velocity lost_goal lost_mark (MarkValue s) after indices dropped index =
    within-parts (value_has_part has_position has_velocity has_goal has_mark) MarkValue has_mark (λ _ _. refl) s dropped.0 after indices dropped.1
    index (lost_mark s dropped.0 indices dropped.2 index)
value-parts has_position has_velocity has_goal has_mark drops_position drops_velocity drops_goal drops_mark lost_position lost_velocity lost_goal lost_mark (GiverValue x) after indices is index =
    stays-parts (value_has_part has_position has_velocity has_goal has_mark) (GiverValue x) after (λ _. refl) is _ index
value-parts has_position has_velocity has_goal has_mark drops_position drops_velocity drops_goal drops_mark lost_position lost_velocity lost_goal lost_mark (AskedValue x) after indices is index =
    stays-parts (value_has_part has_position has_velocity has_goal has_mark) (AskedValue x) after (λ _. refl) is _ index
value-parts has_position has_velocity has_goal has_mark drops_position drops_velocity drops_goal drops_mark lost_position lost_velocity lost_goal lost_mark (SharedValue x) after indices is index =
    stays-parts (value_has_part has_position has_velocity has_goal has_mark) (SharedValue x) after (λ _. refl) is _ index
