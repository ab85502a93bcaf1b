use Rattle.std.proofs.Common.{All, ap, ◌∙◌, subst}
use Rattle.std.specs.FinMap as map
use Rattle.std.proofs.lemmas.List.{take_all}
use Rattle.scene_dispatch.specs.Opened.{HasEmptyQueue}
use Rattle.scene_dispatch.proofs.StoodLemmas.{queues-more, else-more, else-all, opened-scene}
use Rattle.scene_dispatch.proofs.opening.open_queues.Goals as goal

pub loop-position-preserved : goal.loop-position-preserved
loop-position-preserved g c = record {
  queues = queues-more g.R.Value.SceneValue.places c.args.positions.now c.loop-position.position-index c.loop-position-test.true c.args.world.now c.loop-position.world c.open_queue.new.world c.loop-position.invariant.queues c.in_ok-open_queue.ensures.queue
      c.in_ok-open_queue.ensures.others;
  others = else-more g.R.Value.SceneValue.places c.args.positions.now c.loop-position.position-index c.loop-position-test.true c.args.world.now c.loop-position.world c.open_queue.new.world c.loop-position.invariant.others c.in_ok-open_queue.ensures.others;
}

-- a queue that isn't put in leaves the world
pub returns-in_err-open_queue-clause-others : goal.returns-in_err-open_queue-clause-others
returns-in_err-open_queue-clause-others g c = λ id other.
    ap (λ m. map.get m id) c.in_err-open_queue.ensures.err
    ∙ else-all g.R.Value.SceneValue.places c.args.positions.now c.loop-position.position-index c.args.world.now c.loop-position.world c.loop-position.invariant.others id other

pub returns-in_err-open_queue-clause-scene : goal.returns-in_err-open_queue-clause-scene
returns-in_err-open_queue-clause-scene g c =
    opened-scene g.R.Value.SceneValue.places g.R.DocumentRules.part_of g.R.WorldRules.columns g.met.R.WorldRules.apart c.args.positions.now c.args.world.now c.open_queue.new.world
    (λ id other. ap (λ m. map.get m id) c.in_err-open_queue.ensures.err
    ∙ else-all g.R.Value.SceneValue.places c.args.positions.now c.loop-position.position-index c.args.world.now c.loop-position.world c.loop-position.invariant.others id other)

pub returns-clause-queues : goal.returns-clause-queues
returns-clause-queues g c = subst (All (HasEmptyQueue g.R.Value.SceneValue.places c.loop-position.world)) (take_all c.loop-position.position-index c.args.positions.now c.loop-position-test.false) c.loop-position.invariant.queues

pub returns-clause-others : goal.returns-clause-others
returns-clause-others g c = else-all g.R.Value.SceneValue.places c.args.positions.now c.loop-position.position-index c.args.world.now c.loop-position.world c.loop-position.invariant.others

pub returns-clause-scene : goal.returns-clause-scene
returns-clause-scene g c =
    opened-scene g.R.Value.SceneValue.places g.R.DocumentRules.part_of g.R.WorldRules.columns g.met.R.WorldRules.apart c.args.positions.now c.args.world.now c.loop-position.world
    (else-all g.R.Value.SceneValue.places c.args.positions.now c.loop-position.position-index c.args.world.now c.loop-position.world c.loop-position.invariant.others)
