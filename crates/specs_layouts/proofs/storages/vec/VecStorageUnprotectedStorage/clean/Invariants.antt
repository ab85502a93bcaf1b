use Rattle.std.proofs.Common.{ℕ, length, IsSome}
use Rattle.hibitset_sets.specs.Iter.{left_of}
use Rattle.specs_layouts.specs.Slots.{slot_at}
use Rattle.specs_layouts.specs.ToCome.{IsToCome}
use Rattle.specs_layouts.proofs.storages.vec.VecStorageUnprotectedStorage.clean.Given as goal

abbrev pub invariant-loop-id : goal.invariant-loop-id
invariant-loop-id g l = (index : ℕ) → IsSome (slot_at l.self.slots.items index) → IsToCome index (left_of g.B.BitSetLike.members l.left)

abbrev pub decreases-loop-id : goal.decreases-loop-id
decreases-loop-id g l = length (left_of g.B.BitSetLike.members l.left)
