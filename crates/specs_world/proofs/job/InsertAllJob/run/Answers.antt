use Rattle.specs_world.specs.Resources.{place}
use Rattle.specs_world.specs.Jobs.{PutsPair}
use Rattle.specs_world.proofs.JobLemmas.{left-first, left-on}
use Rattle.specs_world.proofs.job.InsertAllJob.run.Goals as goal

pub loop-entity-init : goal.loop-entity-init
loop-entity-init g c =
    let storage = g.C.Storage.UnprotectedStorage in
    let births_at = place g.bound-5.part g.bound-5.wrapped g.bound-5.kind_number in
    let at = place g.bound-7.part g.bound-7.wrapped g.bound-7.kind_number in
    left-first (PutsPair births_at at storage.part_at storage.events storage.emits) c.args.self.pairs.items c.args.world.now _ c.into_iter-entity-iterator.ensures.into_iter_gives.0

pub loop-entity-preserved : goal.loop-entity-preserved
loop-entity-preserved g c =
    let storage = g.C.Storage.UnprotectedStorage in
    let births_at = place g.bound-5.part g.bound-5.wrapped g.bound-5.kind_number in
    let at = place g.bound-7.part g.bound-7.wrapped g.bound-7.kind_number in
    left-on (PutsPair births_at at storage.part_at storage.events storage.emits) c.args.self.pairs.items c.args.world.now _ c.loop-entity.refused c.loop-entity.world c.loop-entity.invariant
    (c.in-Some.entity, c.in-Some.part) _ c.in-Some.ensures.steps.0 _ c.run-outcome.new.world c.run-outcome.ensures c.in_ok-refused.ensures.ok.0 _ c.in_ok-refused.ensures.ok.1
