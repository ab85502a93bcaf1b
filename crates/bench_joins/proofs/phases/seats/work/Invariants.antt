use Rattle.specs_entity.specs.PhaseSeats.{StaysIn}
use Rattle.bench_joins.proofs.phases.seats.work.Given as goal

abbrev pub invariant-loop : goal.invariant-loop
invariant-loop l = StaysIn l.fn.seat l.seat
