-- The JSON that bytes are, and the JSON and the text of a scene.
use Rattle.std.specs.Prelude.{◌≡◌, ◌≤◌, ℕ, List, [], ◌∷◌, map, codes, Option, Some, None, option_map, if◌then◌else◌}
use Rattle.std.specs.List.{fold, filter_map}
use Rattle.serde_json.specs.Data.{number, unsigned, array, object, Members, no_members, put, depth}
use Rattle.std.specs.Str.{is_utf8}
use Rattle.serde_json.specs.Read.{read, max_depth}
use Rattle.serde_json.specs.View.{items_of}
use Rattle.serde_json.specs.Written.{compact_text}
use Rattle.scene_model.specs.Parts.{Json, Name}
use Rattle.scene_model.specs.Rulebook.{Book}
use Rattle.scene_model.specs.Scenes.{PlainScene}

-- the JSON that bytes read as: they are UTF-8 and have a reading
abbrev pub json_of : List ℕ → Option Json
json_of bytes = if is_utf8 bytes then read bytes else None

-- a text reads as nothing but this JSON, and as it where it nests no deeper than the reader allows
pub record ReadsBack (text : List ℕ) (json : Json) : Type 0 where
  pub only : (found : Json) → json_of text ≡ Some found → found ≡ json
  pub shallow : depth json ≤ max_depth → json_of text ≡ Some json

-- the members of the object that has these pairs
abbrev pub members_with : List (Name × Json) → Members
members_with pairs = fold (λ members pair. put pair.0 pair.1 members) no_members pairs

-- the parts of an entity that are there, under their kinds
abbrev pub parts_json : Book → PlainScene → ℕ → Json
parts_json book scene id = object (members_with (filter_map (λ kind. option_map (λ part. (kind, part.json)) (scene.part id kind)) book.part_names))

-- an entity
abbrev pub entity_json : Book → PlainScene → ℕ → Json
entity_json book scene id = object (members_with ((codes "id", number (unsigned id)) ∷ (codes "parts", parts_json book scene id) ∷ []))

-- the globals that have a value, under their names
abbrev pub globals_json : Book → PlainScene → Json
globals_json book scene = object (members_with (filter_map (λ name. option_map (λ value. (name, value)) (scene.global name)) book.global_names))

-- a scene: its entities by id, its globals and its next id
abbrev pub scene_json : Book → PlainScene → Json
scene_json book scene = object (members_with ((codes "entities", array (items_of (map (entity_json book scene) scene.ids))) ∷ (codes "globals", globals_json book scene) ∷ (codes "next", number (unsigned scene.next)) ∷ []))

-- the text of a scene: the compact text of its JSON
abbrev pub text_of : Book → PlainScene → List ℕ
text_of book scene = compact_text (scene_json book scene)
