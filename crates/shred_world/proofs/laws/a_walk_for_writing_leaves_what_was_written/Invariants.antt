use Rattle.std.proofs.Common.{◌≡◌, length}
use Rattle.shred_world.specs.Worlds.{Slots, ChangesInTurn}
use Rattle.shred_world.proofs.laws.a_walk_for_writing_leaves_what_was_written.Given as goal

abbrev pub invariant-loop-walk : goal.invariant-loop-walk
invariant-loop-walk g l =
    (w' : Slots _) → ChangesInTurn (λ was now. (lent : _) × (lent.now ≡ was) × goal.F-post g l.change lent now) l.world l.walk.kinds.now w'
    → ChangesInTurn (λ was now. (lent : _) × (lent.now ≡ was) × goal.F-post g l.change lent now) l.fn.world l.table w'

abbrev pub decreases-loop-walk : goal.decreases-loop-walk
decreases-loop-walk g l = length l.walk.kinds.now
