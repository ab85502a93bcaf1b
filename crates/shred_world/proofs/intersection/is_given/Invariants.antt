use Rattle.std.proofs.Common.{◌≡◌, false}
use Rattle.std.specs.List.{All}
use Rattle.shred_world.proofs.intersection.is_given.Given as goal

abbrev pub invariant-loop-other : goal.invariant-loop-other
invariant-loop-other g l = All (λ other. g.T.PartialEq.eq l.item other.now ≡ false) l.yielded
