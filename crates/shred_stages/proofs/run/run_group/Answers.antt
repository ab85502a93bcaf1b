use Rattle.shred_stages.proofs.RunLemmas.{group-next, group-stops}
use Rattle.shred_stages.proofs.run.run_group.Goals as goal

pub returns-in-Err-clause-runs : goal.returns-in-Err-clause-runs
returns-in-Err-clause-runs g c =
    group-stops g.S.System.meets c.args.group.now c.loop-adding.adding-index c.adding-item.result _ _ _ _ _
    c.loop-adding-test.true c.adding-item.is c.loop-adding.invariant.runs c.in-Err.ensures.runs c.in-Err.ensures.number

pub loop-adding-preserved : goal.loop-adding-preserved
loop-adding-preserved g c = record {
  runs = group-next g.S.System.meets c.args.group.now c.loop-adding.adding-index c.adding-item.result _ _ _
      c.loop-adding-test.true c.adding-item.is c.loop-adding.invariant.runs c.in-Ok.ensures.runs;
  seats = λ one seated. c.run_turn.ensures.seats one (c.loop-adding.invariant.seats one seated);
}
