use Rattle.std.proofs.Common.{ℕ, drop, Option}
use Rattle.std.specs.Option.{option_or}
use Rattle.shred_stages.specs.declared.stop.Stop.{Stop}
use Rattle.shred_stages.specs.Runs.{State, StageRuns}
use Rattle.shred_stages.specs.Seats.{SeatsKept, state_of, refusal_of}
use Rattle.shred_stages.proofs.run.run_stage.Given as goal

abbrev pub invariant-loop-group : goal.invariant-loop-group
invariant-loop-group g l = record {
  runs : (later : Option (ℕ × Stop)) (after : State g.row.V.Denot g.row.S.Denot) → StageRuns g.S.System.meets (drop l.group-index l.stage) (state_of l.staged (g.W.Holder.slots l.world)) later after
      → StageRuns g.S.System.meets l.stage (state_of l.initial.staged (g.W.Holder.slots l.initial.world)) (option_or (refusal_of l.outcome) later) after;
  seats : SeatsKept l.initial.staged l.staged;
}
