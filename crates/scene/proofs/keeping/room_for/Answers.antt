use Rattle.std.proofs.Common.{◌<◌, ◌≤◌, ◌+◌, ℕ, All, take, get_or, sym, subst, arith}
use Rattle.std.proofs.lemmas.List.{take_more, take_all}
use Rattle.std.proofs.lemmas.List.Elements.{All-push, All-weaker}
use Rattle.scene.proofs.KeptPlaceLemmas.{max-above}
use Rattle.scene.proofs.keeping.room_for.Goals as goal

pub loop-pair-preserved : goal.loop-pair-preserved
loop-pair-preserved c =
    let pairs = c.args.pairs.now in
    let front = take c.loop-pair.pair-index pairs in
    let one = get_or pairs c.loop-pair.pair-index (0, 0) in
    let greatest = max-above c.loop-pair.count (one.1 + 1) in
    let above : (one.1 < c.max-count.result) × (c.loop-pair.count ≤ c.max-count.result) = (omega (arith, c.max-count.ensures, greatest.1), omega (arith, c.max-count.ensures, greatest.0)) in
    subst (All (λ (pair : ℕ × ℕ). pair.1 < c.max-count.result)) (sym (take_more pairs c.loop-pair.pair-index (0, 0) c.loop-pair-test.true))
    (All-push (λ (pair : ℕ × ℕ). pair.1 < c.max-count.result) front one
    (All-weaker (λ (pair : ℕ × ℕ). pair.1 < c.loop-pair.count) (λ (pair : ℕ × ℕ). pair.1 < c.max-count.result) (λ pair below. omega (arith, below, above.1)) front c.loop-pair.invariant)
    above.0)

pub returns : goal.returns
returns c = subst (All (λ (pair : ℕ × ℕ). pair.1 < c.loop-pair.count)) (take_all c.loop-pair.pair-index c.args.pairs.now c.loop-pair-test.false) c.loop-pair.invariant
