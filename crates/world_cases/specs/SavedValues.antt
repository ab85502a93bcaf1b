-- What the values of the tests hold and drop, by the storages of markers in them.
use Rattle.std.proofs.Common.{◌≡◌, ℕ, Bool, false, not, ◌&&◌, eqb, List, [], ◌++◌, refl}
use Rattle.std.specs.List.{list_any}
use Rattle.specs_layouts.specs.Masked.{Masked}
use Rattle.specs_layouts.specs.declared.storages.vec.VecStorage.{VecStorage}
use Rattle.specs_layouts.specs.declared.storages.dense_vec.DenseVecStorage.{DenseVecStorage}
use Rattle.specs_world.specs.Variants.{DropsWithin, within-none, within-append, within-parts, stays-append, stays-parts}
use Rattle.world_cases.specs.declared.saving.values.Value.{Value}
use Rattle.world_cases.specs.declared.saving.values.Value.TheVariants.{EntitiesValue, TableValue, PlainMarksValue, PlainGiverValue}
use Rattle.world_cases.specs.declared.saving.values.Value.TheVariants.{RandomMarksValue, RandomGiverValue, QueueValue, SharedValue}

-- the storages of the two kinds of markers
abbrev pub Plains : Type 0
Plains = Masked (DenseVecStorage ℕ)

abbrev pub Randoms : Type 0
Randoms = Masked (VecStorage (List ℕ))

-- whether an index has a marker
abbrev pub value_has_part : (Plains → ℕ → Bool) → (Randoms → ℕ → Bool) → Value → ℕ → Bool
value_has_part plains randoms (EntitiesValue x) index = false
value_has_part plains randoms (TableValue x) index = false
value_has_part plains randoms (PlainMarksValue s) index = plains s index
value_has_part plains randoms (PlainGiverValue x) index = false
value_has_part plains randoms (RandomMarksValue s) index = randoms s index
value_has_part plains randoms (RandomGiverValue x) index = false
value_has_part plains randoms (QueueValue x) index = false
value_has_part plains randoms (SharedValue x) index = false

-- whether so many drops find room
abbrev pub value_has_room : (Plains → ℕ → Type 0) → (Randoms → ℕ → Type 0) → Value → ℕ → Type 0
value_has_room plains randoms (EntitiesValue x) count = Unit {0}
value_has_room plains randoms (TableValue x) count = Unit {0}
value_has_room plains randoms (PlainMarksValue s) count = plains s count
value_has_room plains randoms (PlainGiverValue x) count = Unit {0}
value_has_room plains randoms (RandomMarksValue s) count = randoms s count
value_has_room plains randoms (RandomGiverValue x) count = Unit {0}
value_has_room plains randoms (QueueValue x) count = Unit {0}
value_has_room plains randoms (SharedValue x) count = Unit {0}

-- what a value is after drops
abbrev pub value_drops : (Plains → List ℕ → Plains → Type 0) → (Randoms → List ℕ → Randoms → Type 0) → Value → List ℕ → Value → Type 0
value_drops plains randoms (EntitiesValue x) indices after = after ≡ EntitiesValue x
value_drops plains randoms (TableValue x) indices after = after ≡ TableValue x
value_drops plains randoms (PlainMarksValue s) indices after = DropsWithin PlainMarksValue plains s indices after
value_drops plains randoms (PlainGiverValue x) indices after = after ≡ PlainGiverValue x
value_drops plains randoms (RandomMarksValue s) indices after = DropsWithin RandomMarksValue randoms s indices after
value_drops plains randoms (RandomGiverValue x) indices after = after ≡ RandomGiverValue x
value_drops plains randoms (QueueValue x) indices after = after ≡ QueueValue x
value_drops plains randoms (SharedValue x) indices after = after ≡ SharedValue x

module _ (plains : Plains → List ℕ → Plains → Type 0) (randoms : Randoms → List ℕ → Randoms → Type 0) where
  pub value-none : ((s : Plains) → plains s [] s) → ((s : Randoms) → randoms s [] s) → (v : Value) → value_drops plains randoms v [] v
  value-none plain random (EntitiesValue x) = refl
  value-none plain random (TableValue x) = refl
  value-none plain random (PlainMarksValue s) = within-none PlainMarksValue plains (value_drops plains randoms) plain s
  value-none plain random (PlainGiverValue x) = refl
  value-none plain random (RandomMarksValue s) = within-none RandomMarksValue randoms (value_drops plains randoms) random s
  value-none plain random (RandomGiverValue x) = refl
  value-none plain random (QueueValue x) = refl
  value-none plain random (SharedValue x) = refl

  pub value-append : ((first second third : Plains) (indices others : List ℕ) → plains first indices second → plains second others third → plains first (indices ++ others) third)
      → ((first second third : Randoms) (indices others : List ℕ) → randoms first indices second → randoms second others third → randoms first (indices ++ others) third)
      → (first second third : Value) (indices others : List ℕ) → value_drops plains randoms first indices second → value_drops plains randoms second others third
      → value_drops plains randoms first (indices ++ others) third
  value-append plain random (EntitiesValue x) second third indices others one other = stays-append (value_drops plains randoms) (EntitiesValue x) second third others (λ is. is) one other
  value-append plain random (TableValue x) second third indices others one other = stays-append (value_drops plains randoms) (TableValue x) second third others (λ is. is) one other
  value-append plain random (PlainMarksValue s) second third indices others one other =
      within-append PlainMarksValue plains (value_drops plains randoms) (λ _ _ _ is. is) plain s second third indices others one other
  value-append plain random (PlainGiverValue x) second third indices others one other = stays-append (value_drops plains randoms) (PlainGiverValue x) second third others (λ is. is) one other
  value-append plain random (RandomMarksValue s) second third indices others one other =
      within-append RandomMarksValue randoms (value_drops plains randoms) (λ _ _ _ is. is) random s second third indices others one other
  value-append plain random (RandomGiverValue x) second third indices others one other = stays-append (value_drops plains randoms) (RandomGiverValue x) second third others (λ is. is) one other
  value-append plain random (QueueValue x) second third indices others one other = stays-append (value_drops plains randoms) (QueueValue x) second third others (λ is. is) one other
  value-append plain random (SharedValue x) second third indices others one other = stays-append (value_drops plains randoms) (SharedValue x) second third others (λ is. is) one other

pub value-parts : (plain : Plains → ℕ → Bool) (random : Randoms → ℕ → Bool) (plains : Plains → List ℕ → Plains → Type 0) (randoms : Randoms → List ℕ → Randoms → Type 0)
    → ((before after : Plains) (indices : List ℕ) → plains before indices after → (index : ℕ) → plain after index ≡ (not (list_any (eqb index) indices) && plain before index))
    → ((before after : Randoms) (indices : List ℕ) → randoms before indices after → (index : ℕ) → random after index ≡ (not (list_any (eqb index) indices) && random before index))
    → (before after : Value) (indices : List ℕ) → value_drops plains randoms before indices after → (index : ℕ)
    → value_has_part plain random after index ≡ (not (list_any (eqb index) indices) && value_has_part plain random before index)
value-parts plain random plains randoms one other (EntitiesValue x) after indices is index = stays-parts (value_has_part plain random) (EntitiesValue x) after (λ _. refl) is _ index
value-parts plain random plains randoms one other (TableValue x) after indices is index = stays-parts (value_has_part plain random) (TableValue x) after (λ _. refl) is _ index
value-parts plain random plains randoms one other (PlainMarksValue s) after indices dropped index =
    within-parts (value_has_part plain random) PlainMarksValue plain (λ _ _. refl) s dropped.0 after indices dropped.1 index (one s dropped.0 indices dropped.2 index)
value-parts plain random plains randoms one other (PlainGiverValue x) after indices is index = stays-parts (value_has_part plain random) (PlainGiverValue x) after (λ _. refl) is _ index
value-parts plain random plains randoms one other (RandomMarksValue s) after indices dropped index =
    within-parts (value_has_part plain random) RandomMarksValue random (λ _ _. refl) s dropped.0 after indices dropped.1 index (other s dropped.0 indices dropped.2 index)
value-parts plain random plains randoms one other (RandomGiverValue x) after indices is index = stays-parts (value_has_part plain random) (RandomGiverValue x) after (λ _. refl) is _ index
value-parts plain random plains randoms one other (QueueValue x) after indices is index = stays-parts (value_has_part plain random) (QueueValue x) after (λ _. refl) is _ index
value-parts plain random plains randoms one other (SharedValue x) after indices is index = stays-parts (value_has_part plain random) (SharedValue x) after (λ _. refl) is _ index
