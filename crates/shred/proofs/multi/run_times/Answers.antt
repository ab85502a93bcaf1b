use Rattle.std.proofs.Common.{ap}
use Rattle.shred_stages.proofs.CallerLemmas.{leaves-leaves}
use Rattle.shred.proofs.BatchLemmas.{times-next, times-stop}
use Rattle.std.proofs.Common.{◌∙◌}
use Rattle.shred.proofs.multi.run_times.Goals as goal

pub returns-in-Err-clause-runs : goal.returns-in-Err-clause-runs
returns-in-Err-clause-runs g c =
    times-stop g.S.System.meets c.args.stages.now.planning.stages c.args.times c.loop-time._time c.loop-time-test.true _ _ _ c.loop-time.stages.planning.stages (ap (λ p. p.stages) c.loop-time.invariant.plan)
    c.loop-time.invariant.runs _ c.in-Err.ensures.runs

pub loop-time-preserved : goal.loop-time-preserved
loop-time-preserved g c = record {
  plan = c.run.ensures.plan ∙ c.loop-time.invariant.plan;
  runs = times-next g.S.System.meets c.args.stages.now.planning.stages c.args.times c.loop-time._time c.loop-time-test.true _ _ _ c.loop-time.stages.planning.stages (ap (λ p. p.stages) c.loop-time.invariant.plan)
      c.loop-time.invariant.runs c.in-Ok.ensures.runs;
  leaves = leaves-leaves _ _ _ c.loop-time.invariant.leaves c.run.ensures.leaves;
}
