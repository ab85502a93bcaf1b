-- What contracts see of a walk over a set for several threads.
use Rattle.hibitset_sets.specs.declared.iter.BitIter.{BitIter}
use Rattle.hibitset_sets.specs.BitSet.{SetWithRoom}
use Rattle.hibitset.specs.declared.atomic_ops.AtomicBitSetIter.{AtomicBitSetIter}

-- the walk over a set that it owns
abbrev pub owned_walk : AtomicBitSetIter → BitIter SetWithRoom
owned_walk it = it.walk
