use Rattle.std.proofs.Common.{◌≡◌, length}
use Rattle.shred_world.specs.Worlds.{from_first_held}
use Rattle.shred_world.proofs.meta.MetaIterMut.advance.Given as goal

abbrev pub invariant-loop-kind : goal.invariant-loop-kind
invariant-loop-kind g l = from_first_held l.world l.self.kinds.now ≡ from_first_held l.world l.initial.self.kinds.now

abbrev pub decreases-loop-kind : goal.decreases-loop-kind
decreases-loop-kind g l = length l.self.kinds.now
