use Rattle.std.proofs.Common.{◌≡◌, ℕ, List, [], ◌∷◌, ◌++◌, map}
use Rattle.std.specs.FinMap as finite
use Rattle.json.specs.Token.{begin_array}
use Rattle.scene_document.specs.Texts.{entity_json}
use Rattle.scene.specs.Rows.{seats_kept}
use Rattle.scene.specs.KeptScenes.{bearers, kept_scene}
use Rattle.scene.specs.Printing.{AddsItems}
use Rattle.scene.proofs.snapshot.text.put_entities.Given as goal

-- the entities of the bearers so far, and those that are left
abbrev pub invariant-loop-id : goal.invariant-loop-id
invariant-loop-id g l =
    (done : List (ℕ × ℕ)) × (done ++ l.id-iterator ≡ finite.entries (bearers (seats_kept l.kept)))
    × AddsItems (begin_array ∷ []) (map (entity_json (g.R.DocumentRules.book l.rules) (kept_scene g.R.DocumentRules.part_of g.R.DocumentRules.global_of g.V.ByPlace.at_place (g.R.DocumentRules.book l.rules) l.kept)) (map (λ (e : ℕ × ℕ). e.0) done)) l.fn.out l.out
