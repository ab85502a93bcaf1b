use Rattle.hibitset_sets.specs.Extend.{Extends}
use Rattle.hibitset_sets.proofs.bit_set.BitSet.extend_indices.Given as goal

abbrev pub invariant-loop-i : goal.invariant-loop-i
invariant-loop-i g l = Extends l.fn.self l.yielded l.self
