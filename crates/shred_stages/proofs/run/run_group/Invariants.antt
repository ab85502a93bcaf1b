use Rattle.std.proofs.Common.{ℕ, drop, Option}
use Rattle.shred_stages.specs.declared.stop.Stop.{Stop}
use Rattle.shred_stages.specs.Runs.{State, GroupRuns}
use Rattle.shred_stages.specs.Seats.{SeatsKept, state_of}
use Rattle.shred_stages.proofs.run.run_group.Given as goal

abbrev pub invariant-loop-adding : goal.invariant-loop-adding
invariant-loop-adding g l = record {
  runs : (refused : Option (ℕ × Stop)) (after : State g.row.V.Denot g.row.S.Denot) → GroupRuns g.S.System.meets (drop l.adding-index l.group) (state_of l.staged (g.W.Holder.slots l.world)) refused after
      → GroupRuns g.S.System.meets l.group (state_of l.initial.staged (g.W.Holder.slots l.initial.world)) refused after;
  seats : SeatsKept l.initial.staged l.staged;
}
