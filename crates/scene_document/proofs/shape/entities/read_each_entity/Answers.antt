use Rattle.std.proofs.Common.{◌≡◌, ◌+◌, ◌∷◌, ap, sym, ◌∙◌, drop}
use Rattle.std.proofs.lemmas.List.{drop_more}
use Rattle.scene_document.specs.ShapeWords.{items_seen}
use Rattle.scene_document.proofs.ShapeLemmas.{read_turn}
use Rattle.scene_document.proofs.shape.entities.read_each_entity.Goals as goal

pub loop-value-preserved : goal.loop-value-preserved
loop-value-preserved g c =
    let values = c.args.values.now in
    let i = c.loop-value.value-index in
    let value = c.value-item.result in
    let turn : drop i values ≡ value ∷ drop (i + 1) values = drop_more values i value c.loop-value-test.true ∙ ap (λ first. first ∷ drop (i + 1) values) (sym c.value-item.is) in
    rw c.in_ok-push.ensures.items (read_turn _ _ _ _ _ _ _ _ _ c.loop-value.invariant (ap items_seen turn) c.in_ok-entity.ensures)
