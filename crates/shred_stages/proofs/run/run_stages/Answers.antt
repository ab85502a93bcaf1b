use Rattle.shred_stages.proofs.RunLemmas.{stages-next, stages-stop}
use Rattle.shred_stages.proofs.run.run_stages.Goals as goal

pub returns-in-Err-clause-runs : goal.returns-in-Err-clause-runs
returns-in-Err-clause-runs g c =
    stages-stop g.S.System.meets c.args.stages.now c.loop-stage.stage-index c.stage-item.result _ _ _ _ _
    c.loop-stage-test.true c.stage-item.is c.loop-stage.invariant.runs c.groups.ensures c.in-Err.ensures.runs

pub loop-stage-preserved : goal.loop-stage-preserved
loop-stage-preserved g c = record {
  runs = stages-next g.S.System.meets c.args.stages.now c.loop-stage.stage-index c.stage-item.result _ _ _ _
      c.loop-stage-test.true c.stage-item.is c.loop-stage.invariant.runs c.groups.ensures c.in-Ok.ensures.runs;
  seats = λ one seated. c.run_stage.ensures.seats one (c.loop-stage.invariant.seats one seated);
}
