use Rattle.hibitset_sets.specs.BitSet.{has_member}
use Rattle.hibitset_sets.specs.Iter.{left_of}
use Rattle.scene.proofs.KeepLemmas.{Pairing}
use Rattle.scene.proofs.taking.pairs_of.Given as goal

abbrev pub invariant-loop-index : goal.invariant-loop-index
invariant-loop-index l = Pairing l.markers l.pairs.items (left_of (λ b. has_member b.now) l.index-iterator)
