use Rattle.std.proofs.Common.{◌≡◌, ◌++◌}
use Rattle.std.specs.FinSet as set
use Rattle.hibitset_sets.specs.Iter.{left_of}
use Rattle.hibitset_sets.specs.BitSet.{has_member}
use Rattle.hibitset_sets.specs.Walk.{walk}
use Rattle.specs_entity.proofs.least.indices_in.Given as goal

abbrev pub invariant-loop-index : goal.invariant-loop-index
invariant-loop-index l = l.indices.items ++ left_of (λ s. has_member s.now) l.index-iterator ≡ walk (set.contains l.marked.members)
