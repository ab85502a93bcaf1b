use Rattle.std.proofs.Common.{arith}
use Rattle.hibitset_sets.proofs.bit_set.BitSet.reserve.Goals as goal

pub returns-clause-succeeds : goal.returns-clause-succeeds
returns-clause-succeeds c = λ below. c.grow.ensures.succeeds (omega arith)
