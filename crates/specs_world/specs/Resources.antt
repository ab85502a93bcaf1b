-- Worlds of entities, as finite maps: what one resource becomes, and what registering a kind makes.
use Rattle.std.specs.Prelude.{◌≡◌, ℕ, Bool, true, List, Option, Some, None, if◌then◌else◌}
use Rattle.std.specs.Option.{MatchOption}
use Rattle.std.specs.FinMap as map
use Rattle.shred_world.specs.declared.resource_id.ResourceId.{ResourceId}
use Rattle.shred_world.specs.ResourceIds.{id_of}
use Rattle.shred_world.specs.Bundles.{DefaultsTo, holding_of, out, with_slot}
use Rattle.shred_world.specs.Worlds.{Slots, resource_at, with_kind}
use Rattle.specs_entity.specs.Births.{Births, AreNew, BringsToLife, Continues, IsAlive, IsBorn, LivesOn, RefusesBirth, RefusesBirths, all_allocated, allocated, deleted, newborn, newborns, persistent_at}
use Rattle.specs_entity.specs.declared.errors.Error.{Error}
use Rattle.specs_entity.specs.declared.errors.Error.TheVariants as variant
use Rattle.specs_entity.specs.declared.ids.Entity.{Entity}
use Rattle.specs_layouts.specs.Masked.{Masked}
use Rattle.specs_layouts.specs.Parts.{HasNone}

-- where a type's resource stands in a world: in which values, how it is wrapped in one, and under which id
pub record Place (V R : Type 0) : Type 0 where
  pub part : V → Option R
  pub wrapped : R → V
  pub id : ResourceId

-- the place of a type of resources, by its kind number
abbrev pub place : {V R : Type 0} → (V → Option R) → (R → V) → ℕ → Place V R
place part wrapped kind = record { part = part; wrapped = wrapped; id = id_of kind 0 }

-- the resource that the world holds at a place
abbrev pub held : {V R : Type 0} → Place V R → Slots V → Option R
held at w = resource_at at.part w at.id

-- the resource at the place is another after, by the relation, and no other id's slot changed
abbrev pub Becomes : {V R : Type 0} → Place V R → (R → R → Type 0) → Slots V → Slots V → Type 0
Becomes {R = R} at change before after = (was now : R) × (held at before ≡ Some was) × change was now × (after ≡ map.insert before at.id (Some (at.wrapped now)))

-- what stood at an id was taken out: the slot is there without it, and each other id's slot is as it was
abbrev pub IsTakenOut : {V : Type 0} → ResourceId → Slots V → Slots V → Type 0
IsTakenOut id before after = holding_of after ≡ with_slot (holding_of before) id out

-- a storage that was made anew: its layout is a default, and no index has a part
pub record IsNew {S T : Type 0} (is_default : S → Type 0) (part_at : S → ℕ → Option T) (storage : Masked S) : Type 0 where
  pub layout : is_default storage.inner
  pub parts : HasNone (part_at storage.inner)

-- a storage that was made anew over such a layout was put at the place
abbrev pub IsPutNew : {V S T : Type 0} → Place V (Masked S) → (S → Type 0) → (S → ℕ → Option T) → Slots V → Slots V → Type 0
IsPutNew {S = S} at is_default part_at before after = (storage : Masked S) × IsNew is_default part_at storage × (after ≡ map.insert before at.id (Some (at.wrapped storage)))

-- a kind is registered: where no value stood at its place a new storage stands there, and then the table has the kind
abbrev pub Registers : {V P : Type 0} → (table : Place V (List ℕ)) → (storage : Place V P) → (P → Type 0) → Slots V → Slots V → Type 0
Registers {V} table storage is_new before after =
    (middle : Slots V) × DefaultsTo is_new storage.wrapped storage.id before middle × Becomes table (λ was now. now ≡ with_kind was storage.id.kind) middle after

-- what was put at an id is gone: its slot is empty, where it was there before, else it went with it
abbrev pub without_put : {V : Type 0} → Slots V → ResourceId → Bool → Slots V
without_put w id had_slot = if had_slot then map.insert w id None else map.remove w id

-- an entity is alive, and its birth is persistent
abbrev pub IsPersistent : Option Births → Entity → Type 0
IsPersistent None entity = ⊥
IsPersistent (Some births) entity = (persistent_at births entity.id ≡ Some entity.generation) × (entity.generation.lives ≡ true)

-- what a birth is refused for: there are no entities, or they refuse it
abbrev pub RefusesBirthIn : Option Births → Error → Type 0
RefusesBirthIn None error = error ≡ variant.NotRegistered
RefusesBirthIn (Some births) error = RefusesBirth births error

-- the deletion of an entity that is alive is accepted, and else nothing changed
abbrev pub DeletesLater : {V : Type 0} → Place V Births → Entity → Slots V → Slots V → Type 0
DeletesLater at entity before after =
    MatchOption (held at before) (after ≡ before)
    (λ was. (IsAlive was entity → after ≡ map.insert before at.id (Some (at.wrapped (deleted was entity.id)))) × (¬ (IsAlive was entity) → after ≡ before))

-- what setting a storage up makes of a world: its kind is registered, and where there is no table of kinds the storage is put in alone
abbrev pub SetsUpStorage : {V P : Type 0} → (table : Place V (List ℕ)) → (storage : Place V P) → (P → Type 0) → Slots V → Slots V → Type 0
SetsUpStorage table storage is_new before after = MatchOption (held table before) (DefaultsTo is_new storage.wrapped storage.id before after) (λ _. Registers table storage is_new before after)

-- what a refusal of a birth in a row is: there are no entities, or they refuse one of so many
abbrev pub RefusesBirthsIn : ℕ → Option Births → Error → Type 0
RefusesBirthsIn count None error = error ≡ variant.NotRegistered
RefusesBirthsIn count (Some births) error = RefusesBirths count births error

-- an entity that was never born before came to life as the next one, its birth persistent, and who was alive lives on
pub record IsBirth (entity : Entity) (was now : Births) : Type 0 where
  pub births : now ≡ allocated was
  pub value : entity ≡ newborn was
  pub unborn : ¬ (IsBorn was entity)
  pub lives : BringsToLife was entity now
  pub live_on : LivesOn was now
  pub continues : Continues was now

-- the next entity came to life
abbrev pub Allocates : {V : Type 0} → Place V Births → Entity → Slots V → Slots V → Type 0
Allocates at entity before after = Becomes at (IsBirth entity) before after

-- so many entities that were never born before came to life as the next ones, their births persistent, and who was alive lives on
pub record AreBirths (count : ℕ) (entities : List Entity) (was now : Births) : Type 0 where
  pub births : now ≡ all_allocated count was
  pub value : entities ≡ newborns count was
  pub new : AreNew was entities now
  pub live_on : LivesOn was now
  pub continues : Continues was now

-- the next so many entities came to life
abbrev pub AllocatesAll : {V : Type 0} → Place V Births → ℕ → List Entity → Slots V → Slots V → Type 0
AllocatesAll at count entities before after = Becomes at (AreBirths count entities) before after
