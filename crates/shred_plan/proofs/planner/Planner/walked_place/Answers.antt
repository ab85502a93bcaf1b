use Rattle.shred_plan.proofs.PlaceLemmas.{read-found, read-room, read-passed}
use Rattle.shred_plan.proofs.planner.Planner.walked_place.Goals as goal

pub returns-in-Some-clause-value : goal.returns-in-Some-clause-value
returns-in-Some-clause-value g c =
    read-found g.K.PartialEq.eq c.args.adding.now _ _ _ _ _ _ _ _ _ _ c.stages-stage-items.ensures c.stage-item.is c.loop-index-test.true c.loop-index.invariant c.deref.ensures.value c.in_ok-way.ensures c.in-Some.is

pub returns-in-Some-clause-fits : goal.returns-in-Some-clause-fits
returns-in-Some-clause-fits g c =
    read-room g.K.PartialEq.eq c.args.adding.now _ _ _ _ _ _ _ _ _ c.stages-stage-items.ensures c.stage-item.is c.loop-index-test.true c.deref.ensures.value c.in_ok-way.ensures c.in-Some.is

pub loop-index-preserved : goal.loop-index-preserved
loop-index-preserved g c =
    read-passed g.K.PartialEq.eq c.args.adding.now _ _ _ _ _ _ _ _ _ c.stage-item.is c.loop-index-test.true c.loop-index.invariant c.deref.ensures.value c.in_ok-way.ensures c.in_default.is c.strike.ensures
