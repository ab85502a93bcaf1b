use Rattle.hibitset.specs.SharedSets.{IsSeatOf}
use Rattle.bench_joins.proofs.phases.set_times.find_all.Given as goal

abbrev pub invariant-loop-id : goal.invariant-loop-id
invariant-loop-id l = IsSeatOf l.fn.set l.seat
