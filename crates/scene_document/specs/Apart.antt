-- A JSON and the same with another value under a name; a document whose entities stand apart from the rest of it.
use Rattle.std.specs.Prelude.{◌≡◌, false, cond, List, map, codes, Some}
use Rattle.std.specs.List.{All}
use Rattle.std.specs.Str.{bytes_eq}
use Rattle.serde_json.specs.Data.{null, boolean, number, string, array, object, Items, Members, no_members, member}
use Rattle.serde_json.specs.Find.{get}
use Rattle.serde_json.specs.Written.{has_float}
use Rattle.scene_model.specs.Parts.{Json, Name, Part}
use Rattle.scene_model.specs.Rulebook.{Book}
use Rattle.scene_document.specs.declared.draft.EntityDraft.{EntityDraft}
use Rattle.scene_document.specs.Drafts.{each, entity_from, items_list}
use Rattle.scene_document.specs.DraftViews.{plain_entity, IsEntity}

-- members with another value under a name, where one stands there
abbrev pub with_other : Name → Json → Members → Members
with_other name json no_members = no_members
with_other name json (member key held members) = member key (cond (bytes_eq key name) json held) (with_other name json members)

-- an object with this list of entities in place of what stands for them
abbrev pub with_entities : Items → Json → Json
with_entities items null = null
with_entities items (boolean truth) = boolean truth
with_entities items (number one) = number one
with_entities items (string text) = string text
with_entities items (array others) = array others
with_entities items (object members) = object (with_other (codes "entities") (array items) members)

-- of a JSON without floats, its entities as they are read, and the rest of it with null in their place
pub record IsApart {D : Type 0} (part_of : D → Part) (book : Book) (json rest : Json) (entities : List (EntityDraft D)) : Type 0 where
  pub items : Items
  pub same : json ≡ with_entities items rest
  pub stands : get (codes "entities") rest ≡ Some null
  pub read : each (entity_from book) (items_list items) ≡ Some (map (plain_entity part_of book.part_names) entities)
  pub known : All (IsEntity part_of book) entities
  pub whole : has_float json ≡ false
