use Rattle.std.proofs.Common.{◌-◌, ◌^◌}
use Rattle.specs_world.specs.Resources.{place}
use Rattle.specs_world.specs.Queues.{NoneBelow}
use Rattle.specs_world.proofs.queues.first_number.Given as goal

abbrev pub invariant-loop-number : goal.invariant-loop-number
invariant-loop-number g l = NoneBelow (place g.bound-1.part g.bound-1.wrapped g.bound-1.kind_number) l.world l.next

abbrev pub decreases-loop-number : goal.decreases-loop-number
decreases-loop-number g l = 2 ^ 64 - l.next
