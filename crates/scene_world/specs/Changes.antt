-- What becomes of a world: a part is another, an entity dies with its parts, or one begins to live.
use Rattle.std.specs.Prelude.{◌≡◌, ℕ, ◌==◌, ◌<◌, true, false, List, Option, Some, None, option_map, if◌then◌else◌, All}
use Rattle.std.specs.List.{list_all}
use Rattle.std.specs.Str.{bytes_eq}
use Rattle.specs_entity.specs.Births.{living}
use Rattle.specs_entity.specs.Life.{LifeAt}
use Rattle.specs_markers.specs.Simple.{allocated, noted_under}
use Rattle.scene_model.specs.Parts.{Name, Part, is_among, under}
use Rattle.scene_model.specs.Scenes.{PlainScene}
use Rattle.scene_model.specs.Commands.{refs_live, last_next}
use Rattle.scene_world.specs.Stored.{Stored, part_under}
use Rattle.scene_world.specs.Rolls.{Roll, is_life, ids_in, ref_to}
use Rattle.scene_world.specs.Standing.{Sight, Kinds, roll_of, column_of, value_of}

-- what holds at one number, and elsewhere
abbrev pub but_at : {A : Type 0} → ℕ → A → (ℕ → A) → ℕ → A
but_at index here others at = if at == index then here else others at

-- an entity is another than one that is named
abbrev pub IsAnother : LifeAt → LifeAt → Type 0
IsAnother entity named = (if named.id == entity.id then is_life named.generation (Some entity.generation) else false) ≡ false

-- no part of a column names an entity
abbrev pub IsUnnamed : LifeAt → (ℕ → Option Stored) → Type 0
IsUnnamed entity column = (index : ℕ) (stored : Stored) → column index ≡ Some stored → All (IsAnother entity) stored.named

module _ {V : Type 0} (kinds : Kinds V) where
  -- the globals are as they were
  abbrev pub SameValues : (w w2 : Sight V) → Type 0
  SameValues w w2 = (name : Name) → is_among name kinds.global_names ≡ true → value_of kinds w2 name ≡ value_of kinds w name

  -- the column of a kind stores something else at one index, or nothing any more, and all else is as it was
  pub record SetsPart (kind : Name) (index : ℕ) (part : Option Stored) (w w2 : Sight V) : Type 0 where
    pub roll : roll_of kinds w2 ≡ roll_of kinds w
    pub here : (at : ℕ) → column_of kinds w2 kind at ≡ but_at index part (column_of kinds w kind) at
    pub others : (other : Name) → is_among other kinds.part_names ≡ true → bytes_eq other kind ≡ false → (at : ℕ) → column_of kinds w2 other at ≡ column_of kinds w other at
    pub values : SameValues w w2

  -- the entity at an index is no more, nor its marker, what is noted under its id, and its parts, and all else is as it was
  pub record Buries (id index : ℕ) (w w2 : Sight V) : Type 0 where
    pub lives : (at : ℕ) → living (roll_of kinds w2).births at ≡ but_at index None (living (roll_of kinds w).births) at
    pub marker : (at : ℕ) → (roll_of kinds w2).marker at ≡ but_at index None (roll_of kinds w).marker at
    pub next : (roll_of kinds w2).noting.next ≡ (roll_of kinds w).noting.next
    pub noted : (other : ℕ) → noted_under (roll_of kinds w2).noting other ≡ but_at id None (noted_under (roll_of kinds w).noting) other
    pub parts : (kind : Name) → is_among kind kinds.part_names ≡ true → (at : ℕ) → column_of kinds w2 kind at ≡ but_at index None (column_of kinds w kind) at
    pub values : SameValues w w2

  -- an entity that no part names lives from now on, under the id that came next and with these parts, and all else is as it was
  pub record Bears (entity : LifeAt) (parts : Name → Option Stored) (w w2 : Sight V) : Type 0 where
    pub free : living (roll_of kinds w).births entity.id ≡ None
    pub alive : entity.generation.lives ≡ true
    pub lives : (at : ℕ) → living (roll_of kinds w2).births at ≡ but_at entity.id (Some entity.generation) (living (roll_of kinds w).births) at
    pub marker : (at : ℕ) → (roll_of kinds w2).marker at ≡ but_at entity.id (Some (roll_of kinds w).noting.next) (roll_of kinds w).marker at
    pub noting : (roll_of kinds w2).noting ≡ allocated (roll_of kinds w).noting entity None
    pub parts_so : (kind : Name) → is_among kind kinds.part_names ≡ true → (at : ℕ) → column_of kinds w2 kind at ≡ but_at entity.id (parts kind) (column_of kinds w kind) at
    pub unnamed : (kind : Name) → is_among kind kinds.part_names ≡ true → IsUnnamed entity (column_of kinds w2 kind)
    pub values : SameValues w w2

-- all ids that are marked are below the next one
abbrev pub AreBelow : Roll → Type 0
AreBelow roll = All (λ id. id < roll.noting.next) (ids_in roll)

-- the parts that an entity gets are these, by their kinds
abbrev pub AreGiven : {V : Type 0} → Kinds V → Sight V → (Name → Option Stored) → List (Name × Part) → Type 0
AreGiven kinds w parts given = (kind : Name) → under kind given ≡ (if is_among kind kinds.part_names then option_map (part_under (ref_to (roll_of kinds w))) (parts kind) else None)

-- the references of all these parts are to ids of a scene that live
abbrev pub HaveLiving : PlainScene → List (Name × Part) → Type 0
HaveLiving scene given = list_all (λ entry. refs_live scene.ids entry.1) given ≡ true

-- an id is left to be given
abbrev pub HasNextId : Roll → Type 0
HasNextId roll = (roll.noting.next == last_next) ≡ false
