-- Lemmas on paths in a JSON.
use Rattle.std.proofs.Common.{◌≡◌, List, [], ◌∷◌, ◌++◌, map, Option, Some, None, option_and_then, refl, ap, ◌∙◌}
use Rattle.scene_model.specs.Parts.{Json}
use Rattle.std.specs.Option.{unwrap_or}
use Rattle.std.proofs.lemmas.List.{map-append}
use Rattle.scene_sight.specs.declared.paths.Step as code
use Rattle.scene_sight.specs.Paths.{Step, behind, found, plain_step, Stands}

-- a path and one step more
pub found-more : (path : List Step) (step : Step) (json here next : Json) → found path json ≡ Some here → behind step here ≡ Some next → found (path ++ step ∷ []) json ≡ Some next
found-more [] step json here next e f = last (behind step json) (ap (behind step) (ap (λ o. unwrap_or o json) e) ∙ f)
  where
    last : (mid : Option Json) → mid ≡ Some next → option_and_then (found []) mid ≡ Some next
    last None h = absurd cc
    last (Some mid) h = h
found-more (first ∷ path) step json here next e f = within (λ mid h. found-more path step mid here next h f) (behind first json) e
  where
    within : ((mid : Json) → found path mid ≡ Some here → found (path ++ step ∷ []) mid ≡ Some next) → (mid : Option Json)
        → option_and_then (found path) mid ≡ Some here → option_and_then (found (path ++ step ∷ [])) mid ≡ Some next
    within more None h = absurd cc
    within more (Some mid) h = more mid h

-- a path of the code and one step more
pub found_more : (part : List code.Step) (step : code.Step) (json here next : Json) → found (map plain_step part) json ≡ Some here → behind (plain_step step) here ≡ Some next → found (map plain_step (part ++ step ∷ [])) json ≡ Some next
found_more part step json here next e f = rw (map-append plain_step part (step ∷ [])) (found-more (map plain_step part) (plain_step step) json here next e f)
