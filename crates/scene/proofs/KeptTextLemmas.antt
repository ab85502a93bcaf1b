-- Lemmas on the scene that is kept: what the loops of its text have found, and which scene it is.
use Rattle.std.proofs.Common.{◌≡◌, ℕ, ◌+◌, ◌<◌, List, [], ◌∷◌, ◌++◌, map, length, get_or, take, Option, Some, None, option_and_then, Bor, append-nil, refl, sym, ap, ◌∙◌}
use Rattle.std.proofs.lemmas.List.{take_more, map-append}
use Rattle.std.specs.FinMap as finite
use Rattle.std.specs.List.{filter_map, cons_option}
use Rattle.scene_model.specs.Parts.{Json, Name, Part, place_of}
use Rattle.scene_model.specs.Rulebook.{Book}
use Rattle.scene_model.specs.Scenes.{PlainScene}
use Rattle.scene_model.specs.Laws.{Ascend}
use Rattle.scene_model.specs.Declaring.{texts}
use Rattle.scene_document.proofs.CallerLemmas.{entries_more}
use Rattle.scene.specs.Rows.{seats_kept}
use Rattle.scene.specs.declared.snapshot.kept.KeptScene.{KeptScene}
use Rattle.scene.specs.KeptScenes.{bearers, kept_scene}

-- ---- pairs that a loop finds

-- what is read at one more place is added under its name
pub found-more : {X : Type 0} (written : Name → Option X → Option (Name × Json)) (at : ℕ → Option X) (listed : List Name) (names : List (Bor Name)) (k : ℕ) (unset : Bor Name) (found : Option X)
    → texts names ≡ listed → Ascend listed → k < length names → found ≡ at k
    → filter_map (λ name. written name (option_and_then at (place_of name listed))) (take (k + 1) (texts names))
    ≡ filter_map (λ name. written name (option_and_then at (place_of name listed))) (take k (texts names)) ++ cons_option (written (get_or names k unset).now found) []
found-more written at listed names k unset found same ascend below is =
    entries_more names listed same ascend (λ name place. written name (option_and_then at place)) k unset below
    ∙ ap (λ one. filter_map (λ name. written name (option_and_then at (place_of name listed))) (take k (texts names)) ++ cons_option (written (get_or names k unset).now one) []) (sym is)

module _ {D G V : Type 0} (part_of : D → Part) (global_of : G → Json) (value_at : V → ℕ → Option G) (book : Book) (kept : KeptScene D V) where
  abbrev scene-kept : PlainScene
  scene-kept = kept_scene part_of global_of value_at book kept

  -- what is kept is a scene where it has its next id, its ids, its parts and its globals
  pub kept-scene-is : (scene : PlainScene) → kept.next ≡ scene.next → finite.keys (bearers (seats_kept kept)) ≡ scene.ids → ((id : ℕ) (kind : Name) → scene-kept.part id kind ≡ scene.part id kind)
      → ((name : Name) → scene-kept.global name ≡ scene.global name) → scene-kept ≡ scene
  kept-scene-is scene next ids parts globals =
      λ i. record { next = next i; ids = ids i; part = λ id kind. parts id kind i; global = λ name. globals name i }
