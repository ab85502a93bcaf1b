-- What is put into a scene, one after another: entities without parts, their parts, and globals.
use Rattle.std.specs.Prelude.{◌+◌, ℕ, max, List, [], ◌∷◌, Option, Some, None, if◌then◌else◌}
use Rattle.std.specs.Str.{bytes_eq}
use Rattle.scene_model.specs.Ids.{ascending}
use Rattle.scene_model.specs.Parts.{Json, Name, Part}
use Rattle.scene_model.specs.Scenes.{PlainScene}
use Rattle.scene_model.specs.Commands.{with_part}
use Rattle.scene_document.specs.Drafts.{DraftPart, DraftEntity}

-- ids with more of them, in order
abbrev pub ids_with : List ℕ → List ℕ → List ℕ
ids_with [] ids = ids
ids_with (id ∷ more) ids = ascending (id ∷ ids_with more ids)

-- the next id, raised above these where it isn't
abbrev pub next_above : List ℕ → ℕ → ℕ
next_above [] next = next
next_above (id ∷ ids) next = max (next_above ids next) (id + 1)

-- the scene in which entities live under these ids too, without parts
abbrev pub with_entities : List ℕ → PlainScene → PlainScene
with_entities ids scene = record scene { next = next_above ids scene.next; ids = ids_with ids scene.ids }

-- the part of each id under each kind, and the value of each global
abbrev pub Parts : Type 0
Parts = ℕ → Name → Option Part

abbrev pub Values : Type 0
Values = Name → Option Json

-- parts with one of an id, where its kind is known
abbrev pub part_put : ℕ → DraftPart → Parts → Parts
part_put id None parts = parts
part_put id (Some one) parts = with_part id one.0 (Some one.1) parts

-- parts with those of an id: of two under one kind the first stands
abbrev pub list_put : ℕ → List DraftPart → Parts → Parts
list_put id [] parts = parts
list_put id (one ∷ more) parts = part_put id one (list_put id more parts)

-- parts with those of entities
abbrev pub parts_put : List DraftEntity → Parts → Parts
parts_put [] parts = parts
parts_put (entity ∷ entities) parts = list_put entity.id entity.parts (parts_put entities parts)

-- the scene with one part more, with those of an id, with those of entities
abbrev pub with_one : ℕ → DraftPart → PlainScene → PlainScene
with_one id one scene = record scene { part = part_put id one scene.part }

abbrev pub with_list : ℕ → List DraftPart → PlainScene → PlainScene
with_list id parts scene = record scene { part = list_put id parts scene.part }

abbrev pub with_parts : List DraftEntity → PlainScene → PlainScene
with_parts entities scene = record scene { part = parts_put entities scene.part }

-- values with that of a global, where its name is known
abbrev pub value_put : Option (Name × Json) → Values → Values
value_put None values = values
value_put (Some global) values = λ name. if bytes_eq name global.0 then Some global.1 else values name

-- values with those of globals: of two under one name the first stands
abbrev pub values_put : List (Option (Name × Json)) → Values → Values
values_put [] values = values
values_put (global ∷ more) values = value_put global (values_put more values)

-- the scene with one value more, with those of globals
abbrev pub with_value : Option (Name × Json) → PlainScene → PlainScene
with_value global scene = record scene { global = value_put global scene.global }

abbrev pub with_values : List (Option (Name × Json)) → PlainScene → PlainScene
with_values globals scene = record scene { global = values_put globals scene.global }
