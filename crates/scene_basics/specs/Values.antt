-- What a world of the program's scenes holds.
use Rattle.std.specs.Prelude.{ℕ, ℤ, Option, Some, None}
use Rattle.specs_entity.specs.Births.{Births}
use Rattle.specs_layouts.specs.Flagged.{Flagged}
use Rattle.specs_layouts.specs.Masked.{Masked}
use Rattle.specs_layouts.specs.declared.storages.vec.VecStorage.{VecStorage}
use Rattle.specs_markers.specs.Simple.{Noting}
use Rattle.scene_model.specs.declared.command.Queue.{Queue}
use Rattle.scene_world.specs.declared.any_store.AnyStore.{AnyStore}
use Rattle.scene_world.specs.Stores.{store_part}
use Rattle.scene_basics.specs.declared.data.Datum.{Datum}
use Rattle.scene_basics.specs.declared.values.Whole.{Whole}
use Rattle.scene_basics.specs.declared.values.Owner.{Owner}
use Rattle.scene_basics.specs.declared.values.Value.{Value}
use Rattle.scene_basics.specs.declared.values.Value.TheVariants.{EntitiesValue, MarkersValue, AllocatorValue, QueueValue, NumbersValue, OwnersValue, GlobalValue}

-- the storages of whole numbers, and of references
abbrev pub Numbers : Type 0
Numbers = Masked (Flagged (AnyStore Whole))

abbrev pub Owners : Type 0
Owners = Masked (Flagged (AnyStore Owner))

-- what a value holds of a scene's own
abbrev pub births_in : Value → Option Births
births_in (EntitiesValue x) = Some x
births_in (MarkersValue x) = None
births_in (AllocatorValue x) = None
births_in (QueueValue x) = None
births_in (NumbersValue x) = None
births_in (OwnersValue x) = None
births_in (GlobalValue x) = None

abbrev pub markers_in : Value → Option (Masked (Flagged (VecStorage ℕ)))
markers_in (EntitiesValue x) = None
markers_in (MarkersValue x) = Some x
markers_in (AllocatorValue x) = None
markers_in (QueueValue x) = None
markers_in (NumbersValue x) = None
markers_in (OwnersValue x) = None
markers_in (GlobalValue x) = None

abbrev pub noting_in : Value → Option Noting
noting_in (EntitiesValue x) = None
noting_in (MarkersValue x) = None
noting_in (AllocatorValue x) = Some x
noting_in (QueueValue x) = None
noting_in (NumbersValue x) = None
noting_in (OwnersValue x) = None
noting_in (GlobalValue x) = None

abbrev pub queue_in : Value → Option (Queue Datum)
queue_in (EntitiesValue x) = None
queue_in (MarkersValue x) = None
queue_in (AllocatorValue x) = None
queue_in (QueueValue x) = Some x
queue_in (NumbersValue x) = None
queue_in (OwnersValue x) = None
queue_in (GlobalValue x) = None

-- and of the kinds and the global
abbrev pub numbers_in : Value → Option Numbers
numbers_in (EntitiesValue x) = None
numbers_in (MarkersValue x) = None
numbers_in (AllocatorValue x) = None
numbers_in (QueueValue x) = None
numbers_in (NumbersValue x) = Some x
numbers_in (OwnersValue x) = None
numbers_in (GlobalValue x) = None

abbrev pub owners_in : Value → Option Owners
owners_in (EntitiesValue x) = None
owners_in (MarkersValue x) = None
owners_in (AllocatorValue x) = None
owners_in (QueueValue x) = None
owners_in (NumbersValue x) = None
owners_in (OwnersValue x) = Some x
owners_in (GlobalValue x) = None

abbrev pub global_in : Value → Option ℤ
global_in (EntitiesValue x) = None
global_in (MarkersValue x) = None
global_in (AllocatorValue x) = None
global_in (QueueValue x) = None
global_in (NumbersValue x) = None
global_in (OwnersValue x) = None
global_in (GlobalValue x) = Some x

-- what a storage has at an index
abbrev pub whole_at : Numbers → ℕ → Option Whole
whole_at storage index = store_part storage.inner.inner index

abbrev pub owner_at : Owners → ℕ → Option Owner
owner_at storage index = store_part storage.inner.inner index
