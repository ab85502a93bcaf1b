-- Storages of a world that drop the parts of entities, and entities that die with their parts.
use Rattle.std.specs.Prelude.{◌≡◌, ℕ, ◌==◌, ◌⊎◌, Bool, true, false, List, [], Option, None, Some}
use Rattle.std.specs.List.{list_any}
use Rattle.std.specs.FinMap as map
use Rattle.std.specs.FinSet as set
use Rattle.shred_world.specs.declared.resource_id.ResourceId.{ResourceId}
use Rattle.shred_world.specs.ResourceIds.{id_of, same_id}
use Rattle.shred_world.specs.Worlds.{Slots, value_at, is_of_kinds}
use Rattle.specs_world.specs.Resources.{Place, held}
use Rattle.specs_entity.specs.Births.{Births, living, all_buried, all_deleted, all_living, merged, indices_of, is_named, CanKill, Continues, LivesBut, RefusesKill}
use Rattle.specs_entity.specs.Closures.{IsClosure, RefusesClosure}
use Rattle.specs_entity.specs.declared.ids.Entity.{Entity}
use Rattle.specs_entity.specs.declared.errors.Error.{Error}
use Rattle.specs_entity.specs.declared.errors.Error.TheVariants as variant
use Rattle.specs_layouts.specs.Drops.{ids_of}

-- the slot of each id but this is as it was
abbrev pub LeavesOthers : {V : Type 0} → ResourceId → Slots V → Slots V → Type 0
LeavesOthers id before after = (other : ResourceId) → same_id other id ≡ false → map.get after other ≡ map.get before other

-- the slot of each id that is of none of these kinds is as it was
abbrev pub LeavesOtherKinds : {V : Type 0} → List ℕ → Slots V → Slots V → Type 0
LeavesOtherKinds kinds before after = (id : ResourceId) → is_of_kinds kinds id ≡ false → map.get after id ≡ map.get before id

-- what stands in a slot dropped the parts of these indices, one after the other; where nothing stands, nothing changed
abbrev pub SlotDrops : {V : Type 0} → (V → List ℕ → V → Type 0) → List ℕ → (before after : Option (Option V)) → Type 0
SlotDrops drops indices None after = after ≡ None
SlotDrops drops indices (Some None) after = after ≡ Some None
SlotDrops {V} drops indices (Some (Some was)) after = (now : V) × (after ≡ Some (Some now)) × drops was indices now

-- what stands at an id has room for so many drops
abbrev pub HasRoomAt : {V : Type 0} → (V → ℕ → Type 0) → Slots V → ResourceId → ℕ → Type 0
HasRoomAt {V} has_room w id count = (value : V) → value_at w id ≡ Some value → has_room value count

-- so it is of each of the kinds
abbrev pub HaveRoom : {V : Type 0} → (V → ℕ → Type 0) → Slots V → List ℕ → ℕ → Type 0
HaveRoom has_room w kinds count = (kind : ℕ) → list_any (λ k. k == kind) kinds ≡ true → HasRoomAt has_room w (id_of kind 0) count

-- no part changed, no birth and no slot; storages may have more room
abbrev pub Rests : {V : Type 0} → (V → List ℕ → V → Type 0) → Slots V → Slots V → Type 0
Rests drops before after = (id : ResourceId) → SlotDrops drops [] (map.get before id) (map.get after id)

-- a slot whose value is out stays so
abbrev pub StayOut : {V : Type 0} → Slots V → Slots V → Type 0
StayOut before after = (id : ResourceId) → map.get before id ≡ Some None → map.get after id ≡ Some None

-- what stands at the ids of these kinds dropped the parts of these indices, and no other id's slot changed
pub record DropsIn {V : Type 0} (drops : V → List ℕ → V → Type 0) (kinds : List ℕ) (indices : List ℕ) (before after : Slots V) : Type 0 where
  pub parts : (kind : ℕ) → list_any (λ k. k == kind) kinds ≡ true → SlotDrops drops indices (map.get before (id_of kind 0)) (map.get after (id_of kind 0))
  pub others : LeavesOtherKinds kinds before after

-- the entities are others after, each registered storage dropped the parts at the indices of a list, and no other slot changed
pub record Deletes {V : Type 0} (births_at : Place V Births) (table_id : ResourceId) (drops : V → List ℕ → V → Type 0) (births_after : Births) (kinds : List ℕ) (entities : List Entity) (before after : Slots V) : Type 0 where
  pub births : map.get after births_at.id ≡ Some (Some (births_at.wrapped births_after))
  pub table : map.get after table_id ≡ map.get before table_id
  pub parts : (kind : ℕ) → list_any (λ k. k == kind) kinds ≡ true → same_id (id_of kind 0) births_at.id ≡ false → same_id (id_of kind 0) table_id ≡ false
      → SlotDrops drops (ids_of entities) (map.get before (id_of kind 0)) (map.get after (id_of kind 0))
  pub others : (id : ResourceId) → is_of_kinds kinds id ≡ false → same_id id births_at.id ≡ false → map.get after id ≡ map.get before id

-- entities of a world that can die at once died with their parts, in the list's order
pub record DeletesIn {V : Type 0} (births_at : Place V Births) (table_at : Place V (List ℕ)) (drops : V → List ℕ → V → Type 0) (entities : List Entity) (before after : Slots V) : Type 0 where
  pub births : Births
  pub kinds : List ℕ
  pub alive_in : held births_at before ≡ Some births
  pub registered : held table_at before ≡ Some kinds
  pub killable : CanKill (living births) entities
  pub lives : LivesBut (is_named entities) births (all_buried births (indices_of entities))
  pub continues : Continues births (all_buried births (indices_of entities))
  pub deletes : Deletes births_at table_at.id drops (all_buried births (indices_of entities)) kinds entities before after

-- all entities of a world that live died so, ascending by index
abbrev pub DeletesAll : {V : Type 0} → Place V Births → Place V (List ℕ) → (V → List ℕ → V → Type 0) → Slots V → Slots V → Type 0
DeletesAll births_at table_at drops before after = (births : Births) × (held births_at before ≡ Some births) × DeletesIn births_at table_at drops (all_living births) before after

-- the entities that fall with some roots died so
pub record ClosesIn {V : Type 0} (births_at : Place V Births) (table_at : Place V (List ℕ)) (drops : V → List ℕ → V → Type 0) (roots : List Entity) (pairs : List (Entity × Entity)) (entities : List Entity) (before after : Slots V) : Type 0 where
  pub births : Births
  pub alive_in : held births_at before ≡ Some births
  pub closure : IsClosure births roots pairs entities
  pub deletes : DeletesIn births_at table_at drops entities before after

-- fresh births became persistent, and the entities whose deletion was accepted died with their parts, ascending by index
pub record MergesIn {V : Type 0} (births_at : Place V Births) (table_at : Place V (List ℕ)) (drops : V → List ℕ → V → Type 0) (deleted : List Entity) (before after : Slots V) : Type 0 where
  pub births : Births
  pub kinds : List ℕ
  pub alive_in : held births_at before ≡ Some births
  pub registered : held table_at before ≡ Some kinds
  pub dead : deleted ≡ all_deleted births
  pub named : (index : ℕ) → is_named deleted index ≡ set.contains births.deletions index
  pub lives : LivesBut (set.contains births.deletions) births (merged births)
  pub done : (merged births).deletions ≡ set.empty
  pub continues : Continues births (merged births)
  pub deletes : Deletes births_at table_at.id drops (merged births) kinds deleted before after

-- what the death of entities is refused for: the first isn't alive or is named before, or there was no memory
abbrev pub RefusesDeath : Births → List Entity → Error → Type 0
RefusesDeath births entities error = RefusesKill births entities error ⊎ ((error ≡ variant.Memory) × CanKill (living births) entities)

-- what a call on the entities is refused for: there are none or there is no table of kinds, or they refuse it; were both under one id, there would be no telling them apart
abbrev pub RefusesIn : (births : Option Births) → (kinds : Option (List ℕ)) → (one_id : Bool) → (Births → Error → Type 0) → Error → Type 0
RefusesIn (Some births) (Some kinds) one_id refuses error = ((one_id ≡ true) × (error ≡ variant.NotRegistered)) ⊎ refuses births error
RefusesIn (Some births) None one_id refuses error = error ≡ variant.NotRegistered
RefusesIn None kinds one_id refuses error = error ≡ variant.NotRegistered

-- so it is in a world
abbrev pub RefusesInWorld : {V : Type 0} → Place V Births → Place V (List ℕ) → (Births → Error → Type 0) → Slots V → Error → Type 0
RefusesInWorld births_at table_at refuses before = RefusesIn (held births_at before) (held table_at before) (same_id births_at.id table_at.id) refuses

-- what the deletion of entities of a world is refused for
abbrev pub RefusesDeletion : {V : Type 0} → Place V Births → Place V (List ℕ) → List Entity → Slots V → Error → Type 0
RefusesDeletion births_at table_at entities = RefusesInWorld births_at table_at (λ births. RefusesDeath births entities)

-- what the deletion of those that fall with some roots is refused for
abbrev pub RefusesClosureIn : {V : Type 0} → Place V Births → Place V (List ℕ) → List Entity → Slots V → Error → Type 0
RefusesClosureIn births_at table_at roots = RefusesInWorld births_at table_at (λ births. RefusesClosure births roots)

-- what a merge of a world is refused for, and the deletion of all: without entities or table, or for want of memory
abbrev pub RefusesMerge : {V : Type 0} → Place V Births → Place V (List ℕ) → Slots V → Error → Type 0
RefusesMerge births_at table_at = RefusesInWorld births_at table_at (λ _ error. error ≡ variant.Memory)

-- each registered storage dropped the parts at the indices of entities, and no other slot changed
pub record DropsComponents {V : Type 0} (table_at : Place V (List ℕ)) (drops : V → List ℕ → V → Type 0) (entities : List Entity) (before after : Slots V) : Type 0 where
  pub kinds : List ℕ
  pub registered : held table_at before ≡ Some kinds
  pub table : map.get after table_at.id ≡ map.get before table_at.id
  pub parts : (kind : ℕ) → list_any (λ k. k == kind) kinds ≡ true → same_id (id_of kind 0) table_at.id ≡ false
      → SlotDrops drops (ids_of entities) (map.get before (id_of kind 0)) (map.get after (id_of kind 0))
  pub others : LeavesOtherKinds kinds before after

-- entities that are out of the world died, and each registered storage dropped their parts
pub record Kills {V : Type 0} (table_at : Place V (List ℕ)) (drops : V → List ℕ → V → Type 0) (entities : List Entity) (births births_after : Births) (before after : Slots V) : Type 0 where
  pub killable : CanKill (living births) entities
  pub buried : births_after ≡ all_buried births (indices_of entities)
  pub lives : LivesBut (is_named entities) births births_after
  pub continues : Continues births births_after
  pub dropped : DropsComponents table_at drops entities before after
