use Rattle.hibitset_sets.specs.Extend.{ExtendsRef}
use Rattle.hibitset_sets.proofs.bit_set.BitSet.extend_indices_by_ref.Given as goal

abbrev pub invariant-loop-i : goal.invariant-loop-i
invariant-loop-i g l = ExtendsRef l.fn.self l.yielded l.self
