use Rattle.std.proofs.Common.{◌≡◌, ℕ, ◌-◌, Option}
use Rattle.shred_stages.specs.declared.stop.Stop.{Stop}
use Rattle.shred_stages.specs.Views.{Leaves}
use Rattle.shred_stages.specs.Runs.{State}
use Rattle.shred.specs.Batches.{TimesRun}
use Rattle.shred.proofs.multi.run_times.Given as goal

abbrev pub invariant-loop-time : goal.invariant-loop-time
invariant-loop-time g l = record {
  plan : l.stages.planning ≡ l.initial.stages.planning;
  runs : (refused : Option (ℕ × Stop)) (after : State g.row.V.Denot g.row.S.Denot)
      → TimesRun g.S.System.meets (l.times - l._time) l.initial.stages.planning.stages (record { systems = l.stages.systems; held = g.W.Holder.slots l.view }) refused after
      → TimesRun g.S.System.meets l.times l.initial.stages.planning.stages (record { systems = l.initial.stages.systems; held = g.W.Holder.slots l.initial.view }) refused after;
  leaves : Leaves (g.W.Holder.slots l.initial.view) (g.W.Holder.slots l.view);
}
