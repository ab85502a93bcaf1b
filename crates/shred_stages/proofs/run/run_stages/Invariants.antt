use Rattle.std.proofs.Common.{ℕ, drop, Option}
use Rattle.shred_stages.specs.declared.stop.Stop.{Stop}
use Rattle.shred_stages.specs.Runs.{State, StagesRun}
use Rattle.shred_stages.specs.Seats.{SeatsKept, state_of}
use Rattle.shred_stages.proofs.run.run_stages.Given as goal

abbrev pub invariant-loop-stage : goal.invariant-loop-stage
invariant-loop-stage g l = record {
  runs : (refused : Option (ℕ × Stop)) (after : State g.row.V.Denot g.row.S.Denot) → StagesRun g.S.System.meets (drop l.stage-index l.stages) (state_of l.staged (g.W.Holder.slots l.world)) refused after
      → StagesRun g.S.System.meets l.stages (state_of l.initial.staged (g.W.Holder.slots l.initial.world)) refused after;
  seats : SeatsKept l.initial.staged l.staged;
}
