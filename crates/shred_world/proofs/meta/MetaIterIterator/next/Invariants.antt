use Rattle.std.proofs.Common.{◌≡◌, length}
use Rattle.shred_world.specs.Worlds.{values_of_kinds}
use Rattle.shred_world.proofs.meta.MetaIterIterator.next.Given as goal

abbrev pub invariant-loop-kind : goal.invariant-loop-kind
invariant-loop-kind g l = (l.self.world.now ≡ l.initial.self.world.now) × (values_of_kinds l.self.world.now l.self.kinds.now ≡ values_of_kinds l.initial.self.world.now l.initial.self.kinds.now)

abbrev pub decreases-loop-kind : goal.decreases-loop-kind
decreases-loop-kind g l = length l.self.kinds.now
