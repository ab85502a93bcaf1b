-- The scene that is kept.
use Rattle.std.specs.Prelude.{ℕ, suc, List, [], ◌∷◌, codes, Option, None, Some, option_map, option_and_then, slice_get}
use Rattle.std.specs.FinMap as finite
use Rattle.std.specs.FinMap.{FinMap}
use Rattle.std.specs.Ordering.{nat_cmp}
use Rattle.std.specs.List.{filter_map}
use Rattle.serde_json.specs.Data.{number, unsigned, object}
use Rattle.scene_model.specs.Parts.{Json, Name, Part, place_of}
use Rattle.scene_model.specs.Rulebook.{Book}
use Rattle.scene_model.specs.Scenes.{PlainScene}
use Rattle.scene_document.specs.Texts.{members_with}
use Rattle.scene.specs.Rows.{seats_kept, datum_at}
use Rattle.scene.specs.declared.snapshot.kept.KeptScene.{KeptScene}

-- the index of each id that was found, with what one more index bears
abbrev pub with_bearer : FinMap nat_cmp ℕ → ℕ → Option ℕ → FinMap nat_cmp ℕ
with_bearer found index None = found
with_bearer found index (Some id) = finite.insert found id index

-- and with what the indices bear from one on
abbrev pub bearers_from : FinMap nat_cmp ℕ → ℕ → List (Option ℕ) → FinMap nat_cmp ℕ
bearers_from found index [] = found
bearers_from found index (seat ∷ seats) = bearers_from (with_bearer found index seat) (suc index) seats

-- the index of each id that is borne, the last one where several bear it
abbrev pub bearers : List (Option ℕ) → FinMap nat_cmp ℕ
bearers seats = bearers_from finite.empty 0 seats

-- the part under a kind at an index, where the kinds stand by their places
abbrev pub part_kept : {D G : Type 0} → (D → Part) → Book → KeptScene D G → ℕ → Name → Option Part
part_kept part_of book kept index kind = option_map part_of (option_and_then (λ place. datum_at kept place index) (place_of kind book.part_names))

-- the scene of what is kept: its ids ascending, the part of each id under each kind, the value of each global
abbrev pub kept_scene : {D G V : Type 0} → (D → Part) → (G → Json) → (V → ℕ → Option G) → Book → KeptScene D V → PlainScene
kept_scene part_of global_of value_at book kept = record {
  next = kept.next;
  ids = finite.keys (bearers (seats_kept kept));
  part = λ id kind. option_and_then (λ index. part_kept part_of book kept index kind) (finite.get (bearers (seats_kept kept)) id);
  global = λ name. option_map global_of (option_and_then (value_at kept.globals) (place_of name book.global_names));
}

-- the parts of an entity that are there, under their kinds
abbrev pub parts_with : Book → (Name → Option Part) → Json
parts_with book part = object (members_with (filter_map (λ kind. option_map (λ one. (kind, one.json)) (part kind)) book.part_names))

-- an entity with these parts
abbrev pub entity_with : Book → (Name → Option Part) → ℕ → Json
entity_with book part id = object (members_with ((codes "id", number (unsigned id)) ∷ (codes "parts", parts_with book part) ∷ []))
