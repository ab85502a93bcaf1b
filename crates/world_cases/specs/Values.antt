-- What the values of the tests hold and drop, by the storages in them.
use Rattle.std.proofs.Common.{◌≡◌, ℕ, Bool, false, not, ◌&&◌, eqb, List, [], ◌++◌, refl}
use Rattle.std.specs.List.{list_any}
use Rattle.specs_layouts.specs.Masked.{Masked}
use Rattle.specs_layouts.specs.declared.storages.vec.VecStorage.{VecStorage}
use Rattle.specs_layouts.specs.declared.storages.dense_vec.DenseVecStorage.{DenseVecStorage}
use Rattle.specs_world.specs.Variants.{DropsWithin, within-none, within-append, within-parts, stays-append, stays-parts}
use Rattle.world_cases.specs.declared.values.Health.{Health}
use Rattle.world_cases.specs.declared.values.Speed.{Speed}
use Rattle.world_cases.specs.declared.values.Value.{Value}
use Rattle.world_cases.specs.declared.values.Value.TheVariants.{EntitiesValue, TableValue, HealthValue, SpeedValue}

-- the storages of the two kinds
abbrev pub Healths : Type 0
Healths = Masked (VecStorage Health)

abbrev pub Speeds : Type 0
Speeds = Masked (DenseVecStorage Speed)

-- whether an index has a part
abbrev pub value_has_part : (Healths → ℕ → Bool) → (Speeds → ℕ → Bool) → Value → ℕ → Bool
value_has_part healths speeds (EntitiesValue x) index = false
value_has_part healths speeds (TableValue x) index = false
value_has_part healths speeds (HealthValue s) index = healths s index
value_has_part healths speeds (SpeedValue s) index = speeds s index

-- whether so many drops find room
abbrev pub value_has_room : (Healths → ℕ → Type 0) → (Speeds → ℕ → Type 0) → Value → ℕ → Type 0
value_has_room healths speeds (EntitiesValue x) count = Unit {0}
value_has_room healths speeds (TableValue x) count = Unit {0}
value_has_room healths speeds (HealthValue s) count = healths s count
value_has_room healths speeds (SpeedValue s) count = speeds s count

-- what a value is after drops
abbrev pub value_drops : (Healths → List ℕ → Healths → Type 0) → (Speeds → List ℕ → Speeds → Type 0) → Value → List ℕ → Value → Type 0
value_drops healths speeds (EntitiesValue x) indices after = after ≡ EntitiesValue x
value_drops healths speeds (TableValue x) indices after = after ≡ TableValue x
value_drops healths speeds (HealthValue s) indices after = DropsWithin HealthValue healths s indices after
value_drops healths speeds (SpeedValue s) indices after = DropsWithin SpeedValue speeds s indices after

module _ (healths : Healths → List ℕ → Healths → Type 0) (speeds : Speeds → List ℕ → Speeds → Type 0) where
  pub value-none : ((s : Healths) → healths s [] s) → ((s : Speeds) → speeds s [] s) → (v : Value) → value_drops healths speeds v [] v
  value-none health speed (EntitiesValue x) = refl
  value-none health speed (TableValue x) = refl
  value-none health speed (HealthValue s) = within-none HealthValue healths (value_drops healths speeds) health s
  value-none health speed (SpeedValue s) = within-none SpeedValue speeds (value_drops healths speeds) speed s

  pub value-append : ((first second third : Healths) (indices others : List ℕ) → healths first indices second → healths second others third → healths first (indices ++ others) third)
      → ((first second third : Speeds) (indices others : List ℕ) → speeds first indices second → speeds second others third → speeds first (indices ++ others) third)
      → (first second third : Value) (indices others : List ℕ) → value_drops healths speeds first indices second → value_drops healths speeds second others third → value_drops healths speeds first (indices ++ others) third
  value-append health speed (EntitiesValue x) second third indices others one other = stays-append (value_drops healths speeds) (EntitiesValue x) second third others (λ is. is) one other
  value-append health speed (TableValue x) second third indices others one other = stays-append (value_drops healths speeds) (TableValue x) second third others (λ is. is) one other
  value-append health speed (HealthValue s) second third indices others one other =
      within-append HealthValue healths (value_drops healths speeds) (λ _ _ _ is. is) health s second third indices others one other
  value-append health speed (SpeedValue s) second third indices others one other =
      within-append SpeedValue speeds (value_drops healths speeds) (λ _ _ _ is. is) speed s second third indices others one other

pub value-parts : (health : Healths → ℕ → Bool) (speed : Speeds → ℕ → Bool) (healths : Healths → List ℕ → Healths → Type 0) (speeds : Speeds → List ℕ → Speeds → Type 0)
    → ((before after : Healths) (indices : List ℕ) → healths before indices after → (index : ℕ) → health after index ≡ (not (list_any (eqb index) indices) && health before index))
    → ((before after : Speeds) (indices : List ℕ) → speeds before indices after → (index : ℕ) → speed after index ≡ (not (list_any (eqb index) indices) && speed before index))
    → (before after : Value) (indices : List ℕ) → value_drops healths speeds before indices after → (index : ℕ)
    → value_has_part health speed after index ≡ (not (list_any (eqb index) indices) && value_has_part health speed before index)
value-parts health speed healths speeds one other (EntitiesValue x) after indices is index = stays-parts (value_has_part health speed) (EntitiesValue x) after (λ _. refl) is _ index
value-parts health speed healths speeds one other (TableValue x) after indices is index = stays-parts (value_has_part health speed) (TableValue x) after (λ _. refl) is _ index
value-parts health speed healths speeds one other (HealthValue s) after indices dropped index =
    within-parts (value_has_part health speed) HealthValue health (λ _ _. refl) s dropped.0 after indices dropped.1 index (one s dropped.0 indices dropped.2 index)
value-parts health speed healths speeds one other (SpeedValue s) after indices dropped index =
    within-parts (value_has_part health speed) SpeedValue speed (λ _ _. refl) s dropped.0 after indices dropped.1 index (other s dropped.0 indices dropped.2 index)
