use Rattle.std.proofs.Common.{◌≡◌}
use Rattle.specs.specs.Asking.{with_queues}
use Rattle.specs_world.specs.Resources.{place}
use Rattle.specs.proofs.asking.add_queues_for.Given as goal

-- the queues under the numbers so far are there
abbrev pub invariant-loop-place : goal.invariant-loop-place
invariant-loop-place g l = record { made : l.world ≡ with_queues (place g.bound-1.part g.bound-1.wrapped g.bound-1.kind_number) l.fn.world l.place }
