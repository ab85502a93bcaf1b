use Rattle.shred_stages.proofs.RunLemmas.{stage-next, stage-ends}
use Rattle.shred_stages.proofs.run.run_stage.Goals as goal

pub loop-group-preserved : goal.loop-group-preserved
loop-group-preserved g c = record {
  runs = stage-next g.S.System.meets c.args.stage.now c.loop-group.group-index c.group-item.result _ _ _ _ _ _ _ c.loop-group-test.true c.group-item.is c.loop-group.invariant.runs c.systems.ensures c.run_group.ensures.runs c.first_of-outcome.ensures;
  seats = λ one seated. c.run_group.ensures.seats one (c.loop-group.invariant.seats one seated);
}

pub returns-clause-runs : goal.returns-clause-runs
returns-clause-runs g c = stage-ends g.S.System.meets _ _ _ _ _ c.loop-group-test.false c.loop-group.invariant.runs
