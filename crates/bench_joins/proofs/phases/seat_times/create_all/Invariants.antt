use Rattle.specs_entity.specs.PhaseSeats.{StaysIn}
use Rattle.bench_joins.proofs.phases.seat_times.create_all.Given as goal

abbrev pub invariant-loop : goal.invariant-loop
invariant-loop l = StaysIn l.fn.seat l.seat
