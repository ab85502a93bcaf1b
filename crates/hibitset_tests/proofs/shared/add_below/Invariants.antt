use Rattle.std.proofs.Common.{◌≡◌}
use Rattle.hibitset.specs.SharedSets.{IsSeatOf, view_of_seat}
use Rattle.hibitset_tests.proofs.shared.add_below.Given as goal

abbrev pub invariant-loop-id : goal.invariant-loop-id
invariant-loop-id l = record {
  seat : IsSeatOf l.fn.set l.seat;
  parts : (view_of_seat l.seat).parts ≡ (view_of_seat l.fn.seat).parts;
}
