use Rattle.std.proofs.Common.{false}
use Rattle.std.specs.List.{All}
use Rattle.shred_world.specs.Sharing.{TellsByClone}
use Rattle.shred_world.proofs.intersection.check_intersection.Given as goal

abbrev pub invariant-loop-item : goal.invariant-loop-item
invariant-loop-item g l = All (λ item. TellsByClone g.T.PartialEq.eq g.J.Iterator.next_gives g.J.Clone.is_clone l.right false item.now) l.yielded
