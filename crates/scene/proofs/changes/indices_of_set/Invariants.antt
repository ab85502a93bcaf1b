use Rattle.hibitset_sets.specs.BitSet.{has_member}
use Rattle.hibitset_sets.specs.Iter.{left_of}
use Rattle.scene.proofs.LoopLemmas.{Listing}
use Rattle.scene.proofs.changes.indices_of_set.Given as goal

-- the members so far, each behind itself
abbrev pub invariant-loop-index : goal.invariant-loop-index
invariant-loop-index l = Listing (has_member l.set) l.indices.items (left_of (λ b. has_member b.now) l.index-iterator)
