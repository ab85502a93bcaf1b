-- What the values of the tests hold and drop, by the storage in them.
use Rattle.std.proofs.Common.{◌≡◌, ℕ, Bool, false, not, ◌&&◌, eqb, List, [], ◌++◌, refl}
use Rattle.std.specs.List.{list_any}
use Rattle.specs_layouts.specs.Masked.{Masked}
use Rattle.specs_layouts.specs.Slots.{slot_at, slots_of}
use Rattle.specs_layouts.specs.declared.storages.vec.VecStorage.{VecStorage}
use Rattle.specs_world.specs.Stocked.{Basis, Kind}
use Rattle.specs_world.specs.Variants.{DropsWithin, within-none, within-append, within-parts, stays-append, stays-parts}
use Rattle.world_cases.specs.declared.lazy.tasks.Health.{Health}
use Rattle.world_cases.specs.declared.lazy.values.Value.{Value}
use Rattle.world_cases.specs.declared.lazy.values.Value.TheVariants.{EntitiesValue, TableValue, HealthValue, QueueValue, SharedValue, NotesValue}

-- the storage of healths
abbrev pub Healths : Type 0
Healths = Masked (VecStorage Health)

-- whether an index has a part
abbrev pub value_has_part : (Healths → ℕ → Bool) → Value → ℕ → Bool
value_has_part healths (EntitiesValue x) index = false
value_has_part healths (TableValue x) index = false
value_has_part healths (HealthValue s) index = healths s index
value_has_part healths (QueueValue x) index = false
value_has_part healths (SharedValue x) index = false
value_has_part healths (NotesValue x) index = false

-- whether so many drops find room
abbrev pub value_has_room : (Healths → ℕ → Type 0) → Value → ℕ → Type 0
value_has_room healths (EntitiesValue x) count = Unit {0}
value_has_room healths (TableValue x) count = Unit {0}
value_has_room healths (HealthValue s) count = healths s count
value_has_room healths (QueueValue x) count = Unit {0}
value_has_room healths (SharedValue x) count = Unit {0}
value_has_room healths (NotesValue x) count = Unit {0}

-- what a value is after drops
abbrev pub value_drops : (Healths → List ℕ → Healths → Type 0) → Value → List ℕ → Value → Type 0
value_drops healths (EntitiesValue x) indices after = after ≡ EntitiesValue x
value_drops healths (TableValue x) indices after = after ≡ TableValue x
value_drops healths (HealthValue s) indices after = DropsWithin HealthValue healths s indices after
value_drops healths (QueueValue x) indices after = after ≡ QueueValue x
value_drops healths (SharedValue x) indices after = after ≡ SharedValue x
value_drops healths (NotesValue x) indices after = after ≡ NotesValue x

module _ (healths : Healths → List ℕ → Healths → Type 0) where
  pub value-none : ((s : Healths) → healths s [] s) → (v : Value) → value_drops healths v [] v
  value-none health (EntitiesValue x) = refl
  value-none health (TableValue x) = refl
  value-none health (HealthValue s) = within-none HealthValue healths (value_drops healths) health s
  value-none health (QueueValue x) = refl
  value-none health (SharedValue x) = refl
  value-none health (NotesValue x) = refl

  pub value-append : ((first second third : Healths) (indices others : List ℕ) → healths first indices second → healths second others third → healths first (indices ++ others) third)
      → (first second third : Value) (indices others : List ℕ) → value_drops healths first indices second → value_drops healths second others third → value_drops healths first (indices ++ others) third
  value-append health (EntitiesValue x) second third indices others one other = stays-append (value_drops healths) (EntitiesValue x) second third others (λ is. is) one other
  value-append health (TableValue x) second third indices others one other = stays-append (value_drops healths) (TableValue x) second third others (λ is. is) one other
  value-append health (HealthValue s) second third indices others one other = within-append HealthValue healths (value_drops healths) (λ _ _ _ is. is) health s second third indices others one other
  value-append health (QueueValue x) second third indices others one other = stays-append (value_drops healths) (QueueValue x) second third others (λ is. is) one other
  value-append health (SharedValue x) second third indices others one other = stays-append (value_drops healths) (SharedValue x) second third others (λ is. is) one other
  value-append health (NotesValue x) second third indices others one other = stays-append (value_drops healths) (NotesValue x) second third others (λ is. is) one other

pub value-parts : (health : Healths → ℕ → Bool) (healths : Healths → List ℕ → Healths → Type 0)
    → ((before after : Healths) (indices : List ℕ) → healths before indices after → (index : ℕ) → health after index ≡ (not (list_any (eqb index) indices) && health before index))
    → (before after : Value) (indices : List ℕ) → value_drops healths before indices after → (index : ℕ)
    → value_has_part health after index ≡ (not (list_any (eqb index) indices) && value_has_part health before index)
value-parts health healths one (EntitiesValue x) after indices is index = stays-parts (value_has_part health) (EntitiesValue x) after (λ _. refl) is _ index
value-parts health healths one (TableValue x) after indices is index = stays-parts (value_has_part health) (TableValue x) after (λ _. refl) is _ index
value-parts health healths one (HealthValue s) after indices dropped index =
    within-parts (value_has_part health) HealthValue health (λ _ _. refl) s dropped.0 after indices dropped.1 index (one s dropped.0 indices dropped.2 index)
value-parts health healths one (QueueValue x) after indices is index = stays-parts (value_has_part health) (QueueValue x) after (λ _. refl) is _ index
value-parts health healths one (SharedValue x) after indices is index = stays-parts (value_has_part health) (SharedValue x) after (λ _. refl) is _ index
value-parts health healths one (NotesValue x) after indices is index = stays-parts (value_has_part health) (NotesValue x) after (λ _. refl) is _ index

-- what each world has beside its parts: entities, table, queues and a shared queue
abbrev pub basis : Basis Value
basis = record { entities = EntitiesValue; table = TableValue; entities_kind = 0; table_kind = 1; queue_kind = 3; shared_kind = 4 }

-- healths, in their slots
abbrev pub healths_kind : Kind Value (VecStorage Health) Health
healths_kind = record { number = 2; wrapped = HealthValue; part_at = λ storage index. slot_at (slots_of storage) index }
