use Rattle.std.proofs.Common.{◌≡◌}
use Rattle.shred_crew.proofs.seat.Seat.settle.Given as goal

abbrev pub invariant-loop : goal.invariant-loop
invariant-loop g l = record {
  next : (goal.iterator-loop g).can_next l.iterator';
  finite : (goal.iterator-loop g).is_finite l.iterator';
  asked : l.self ≡ l.initial.self;
}
