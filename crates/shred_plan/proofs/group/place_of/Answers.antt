use Rattle.std.proofs.Common.{arith}
use Rattle.shred_plan.proofs.RestLemmas.{without-at, without-nowhere}
use Rattle.shred_plan.proofs.group.place_of.Goals as goal

pub returns-then-other-number : goal.returns-then-other-number
returns-then-other-number c = (omega arith, without-at c.args.numbers.now c.args.number c.loop-place.place (omega arith) c.if-other-number.true c.loop-place.invariant)

pub returns : goal.returns
returns c = without-nowhere c.args.numbers.now c.args.number (λ k h. c.loop-place.invariant k (omega arith))
