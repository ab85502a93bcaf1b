-- What a world of the test holds of each kind.
use Rattle.std.specs.Prelude.{ℕ, Option, Some, None}
use Rattle.shred_world.specs.declared.resource_id.ResourceId.{ResourceId}
use Rattle.shred_world.specs.ResourceIds.{id_of}
use Rattle.specs_entity.specs.Births.{Births}
use Rattle.specs_layouts.specs.Flagged.{Flagged}
use Rattle.specs_layouts.specs.Masked.{Masked}
use Rattle.specs_layouts.specs.declared.storages.vec.VecStorage.{VecStorage}
use Rattle.specs_markers.specs.Simple.{Noting}
use Rattle.scene_model.specs.declared.command.Queue.{Queue}
use Rattle.scene_world.specs.declared.any_store.AnyStore.{AnyStore}
use Rattle.scene_world.specs.Stores.{store_part}
use Rattle.scene_cases.specs.declared.commands.datum.Datum.{Datum}
use Rattle.scene_cases.specs.declared.commands.values.Owner.{Owner}
use Rattle.scene_cases.specs.declared.commands.values.Rank.{Rank}
use Rattle.scene_cases.specs.declared.commands.values.Value.{Value}
use Rattle.scene_cases.specs.declared.commands.values.Value.TheVariants.{EntitiesValue, MarkersValue, AllocatorValue, QueueValue, OwnerValue, RankValue, EraValue}

-- the storages of the two kinds, and where they and the global stand
abbrev pub Owners : Type 0
Owners = Masked (Flagged (AnyStore Owner))

abbrev pub Ranks : Type 0
Ranks = Masked (Flagged (AnyStore Rank))

abbrev pub owner_id : ResourceId
owner_id = id_of 4 0

abbrev pub rank_id : ResourceId
rank_id = id_of 5 0

abbrev pub era_id : ResourceId
era_id = id_of 6 0

-- what a value holds of a scene's own
abbrev pub births_in : Value → Option Births
births_in (EntitiesValue x) = Some x
births_in (MarkersValue x) = None
births_in (AllocatorValue x) = None
births_in (QueueValue x) = None
births_in (OwnerValue x) = None
births_in (RankValue x) = None
births_in (EraValue x) = None

abbrev pub markers_in : Value → Option (Masked (Flagged (VecStorage ℕ)))
markers_in (EntitiesValue x) = None
markers_in (MarkersValue x) = Some x
markers_in (AllocatorValue x) = None
markers_in (QueueValue x) = None
markers_in (OwnerValue x) = None
markers_in (RankValue x) = None
markers_in (EraValue x) = None

abbrev pub noting_in : Value → Option Noting
noting_in (EntitiesValue x) = None
noting_in (MarkersValue x) = None
noting_in (AllocatorValue x) = Some x
noting_in (QueueValue x) = None
noting_in (OwnerValue x) = None
noting_in (RankValue x) = None
noting_in (EraValue x) = None

abbrev pub queue_in : Value → Option (Queue Datum)
queue_in (EntitiesValue x) = None
queue_in (MarkersValue x) = None
queue_in (AllocatorValue x) = None
queue_in (QueueValue x) = Some x
queue_in (OwnerValue x) = None
queue_in (RankValue x) = None
queue_in (EraValue x) = None

-- and of the kinds and the global
abbrev pub owners_in : Value → Option Owners
owners_in (EntitiesValue x) = None
owners_in (MarkersValue x) = None
owners_in (AllocatorValue x) = None
owners_in (QueueValue x) = None
owners_in (OwnerValue x) = Some x
owners_in (RankValue x) = None
owners_in (EraValue x) = None

abbrev pub ranks_in : Value → Option Ranks
ranks_in (EntitiesValue x) = None
ranks_in (MarkersValue x) = None
ranks_in (AllocatorValue x) = None
ranks_in (QueueValue x) = None
ranks_in (OwnerValue x) = None
ranks_in (RankValue x) = Some x
ranks_in (EraValue x) = None

abbrev pub era_in : Value → Option ℕ
era_in (EntitiesValue x) = None
era_in (MarkersValue x) = None
era_in (AllocatorValue x) = None
era_in (QueueValue x) = None
era_in (OwnerValue x) = None
era_in (RankValue x) = None
era_in (EraValue x) = Some x

-- the part at an index
abbrev pub owner_at : Owners → ℕ → Option Owner
owner_at storage index = store_part storage.inner.inner index

abbrev pub rank_at : Ranks → ℕ → Option Rank
rank_at storage index = store_part storage.inner.inner index
