use Rattle.std.proofs.Common.{ℕ, ◌++◌, ◌∷◌, [], List, map, get_or, ap, sym, ◌∙◌}
use Rattle.std.proofs.lemmas.List.{take_all}
use Rattle.scene.proofs.KeepLemmas.{front-more}
use Rattle.scene.proofs.keeping.indices_of.Goals as goal

pub loop-pair-preserved : goal.loop-pair-preserved
loop-pair-preserved c =
    let one : ℕ × ℕ = get_or c.args.pairs.now c.loop-pair.pair-index (0, 0) in
    c.in_ok-push.ensures.items ∙ ap (λ (number : ℕ). c.loop-pair.indices.items ++ (number, one.1) ∷ []) c.from.ensures
    ∙ ap (λ (front : List (ℕ × ℕ)). front ++ (one.1, one.1) ∷ []) c.loop-pair.invariant
    ∙ sym (front-more (λ (pair : ℕ × ℕ). (pair.1, pair.1)) c.args.pairs.now c.loop-pair.pair-index (0, 0) c.loop-pair-test.true)

pub returns : goal.returns
returns c = c.loop-pair.invariant ∙ ap (map (λ (pair : ℕ × ℕ). (pair.1, pair.1))) (take_all c.loop-pair.pair-index c.args.pairs.now c.loop-pair-test.false)
