use Rattle.hibitset_sets.specs.BitSet.{has_member}
use Rattle.hibitset_sets.specs.Iter.{left_of}
use Rattle.scene_basics.proofs.AskedLemmas.{Choosing}
use Rattle.scene_basics.proofs.asking.indices_in.Given as goal

abbrev pub invariant-loop-index : goal.invariant-loop-index
invariant-loop-index g l = Choosing l.ask l.mask (g.L.UnprotectedStorage.part_at l.layout) l.indices.items (left_of (λ b. has_member b.now) l.index-iterator)
