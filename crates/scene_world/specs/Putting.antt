-- Parts that are put in at an index and taken out there, and storages of parts that are registered.
use Rattle.std.specs.Prelude.{◌≡◌, ℕ, true, false, List, [], map, Option, Some, None, IsSome, option_map, filter_map}
use Rattle.std.specs.Option.{option_map_or}
use Rattle.std.specs.FinMap as slots
use Rattle.shred_world.specs.declared.resource_id.ResourceId.{ResourceId}
use Rattle.shred_world.specs.ResourceIds.{same_id}
use Rattle.shred_world.specs.Worlds.{Slots, value_at}
use Rattle.specs_entity.specs.Life.{LifeAt}
use Rattle.scene_model.specs.Parts.{Json, Name, Part, living, is_among}
use Rattle.scene_model.specs.Rulebook.{Book}
use Rattle.scene_world.specs.Stored.{Stored, ids_reached, part_with}
use Rattle.scene_world.specs.Changes.{but_at}
use Rattle.scene_world.specs.Places.{Columns}

-- the entities that what is stored names, if there is something
abbrev pub named_in : Option Stored → List LifeAt
named_in stored = option_map_or (λ one. one.named) stored []

-- what is stored is this part, where its references are to these entities
pub record StoresAs (part : Part) (named : List LifeAt) (stored : Stored) : Type 0 where
  pub names : stored.named ≡ named
  pub writes : stored.written (ids_reached part.refs) ≡ part.json

-- what is stored as a part, where it refers to these ids
abbrev pub part_read : List ℕ → Stored → Part
part_read ids stored = part_with stored.written (map (λ id. living id) ids)

-- what is read of items, behind the number of each of which something is read
abbrev pub each_there : {X Y : Type 0} → (X → Option Y) → List (ℕ × X) → List (ℕ × Y)
each_there read items = filter_map (λ item. option_map (λ y. (item.0, y)) (read item.1)) items

-- no part names an entity, and the parts that were found are those at indices, each of which stands behind an id
pub record AreReadAt {D : Type 0} (part_of : D → Part) (stored : ℕ → Option Stored) (entities : List (ℕ × ℕ)) (found : List (ℕ × Option D)) : Type 0 where
  pub nobody : (index : ℕ) → named_in (stored index) ≡ []
  pub read : each_there (option_map part_of) found ≡ each_there (λ index. option_map (part_read []) (stored index)) entities

module _ {V : Type 0} (stored : V → ℕ → Option Stored) where
  -- a part is stored at an index, and at each other what was there
  pub record PutsIn (index : ℕ) (part : Part) (named : List LifeAt) (old new : V) : Type 0 where
    pub one : Stored
    pub is : StoresAs part named one
    pub there : (at : ℕ) → stored new at ≡ but_at index (Some one) (stored old) at

  -- nothing is stored at an index, and at each other what was there
  abbrev pub TakesOut : ℕ → (old new : V) → Type 0
  TakesOut index old new = (at : ℕ) → stored new at ≡ but_at index None (stored old) at

  -- at each index is what was there
  abbrev pub SameColumn : (old new : V) → Type 0
  SameColumn old new = (at : ℕ) → stored new at ≡ stored old at

-- there is a value, in which this is the global
abbrev pub HasValue : {V : Type 0} → (V → Option Json) → Json → Option V → Type 0
HasValue read global None = ⊥
HasValue read global (Some v) = read v ≡ Some global

module _ {V : Type 0} (columns : Columns V) where
  -- a value stores nothing under a kind
  abbrev pub IsEmpty : Name → V → Type 0
  IsEmpty kind v = (index : ℕ) → columns.stored kind v index ≡ None

  -- under each kind of the rules a value stands that stores nothing, and under each other id what stood there
  pub record Registers (w later : Slots V) : Type 0 where
    pub there : (kind : Name) → is_among kind columns.part_names ≡ true → IsSome (value_at later (columns.part_id kind))
    pub empty : (kind : Name) (v : V) → is_among kind columns.part_names ≡ true → value_at later (columns.part_id kind) ≡ Some v → IsEmpty kind v
    pub others : (id : ResourceId) → ((kind : Name) → is_among kind columns.part_names ≡ true → same_id id (columns.part_id kind) ≡ false) → slots.get later id ≡ slots.get w id

  -- the parts and globals are those of a book, and the same kinds own their holders
  pub record AreNamedIn (book : Book) : Type 0 where
    pub parts : columns.part_names ≡ book.part_names
    pub owning : columns.owning ≡ book.owning
    pub globals : columns.global_names ≡ book.global_names
