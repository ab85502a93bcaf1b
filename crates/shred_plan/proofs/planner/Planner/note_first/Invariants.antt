use Rattle.shred_plan.specs.Seats.{KeepsSeats}
use Rattle.shred_plan.proofs.planner.Planner.note_first.Given as goal

abbrev pub invariant-loop-system : goal.invariant-loop-system
invariant-loop-system g l = KeepsSeats g.K.Ord.cmp g.K.PartialEq.eq l.seats l.self.stages
