use Rattle.std.proofs.Common.{get_or, ◌∷◌, ◌++◌, [], map, take, refl, ap, sym, ◌∙◌, subst}
use Rattle.std.proofs.lemmas.List.{map-append, take_all, get_or_default}
use Rattle.scene_model.specs.Queues.{plain_commands, waiting}
use Rattle.scene_model.proofs.CallerLemmas.{front_at}
use Rattle.scene_world.specs.Standing.{commands_of}
use Rattle.scene_world.specs.Places.{kinds_of}
use Rattle.scene_commands.specs.Acts.{seen_of}
use Rattle.scene.specs.Waiting.{StaysBeside}
use Rattle.scene.proofs.WorldLemmas.{waits-yet, beside-more}
use Rattle.scene.proofs.queues.take_queues.Goals as goal

pub loop-place-init : goal.loop-place-init
loop-place-init g c = record { queues = ap (map (λ queue. plain_commands g.R.DocumentRules.part_of (waiting queue))) c.new-queues.ensures.items; beside = λ id none. refl }

pub loop-place-preserved : goal.loop-place-preserved
loop-place-preserved g c =
    let yet = waits-yet (kinds_of g.R.Value.SceneValue.places g.R.DocumentRules.part_of g.R.WorldRules.columns) g.met.R.WorldRules.apart c.args.places.now c.requires.ascend c.loop-place.place-index (get_or c.args.places.now c.loop-place.place-index 0) c.loop-place-test.true (get_or_default c.args.places.now c.loop-place.place-index 0 (get_or c.args.places.now c.loop-place.place-index 0) c.loop-place-test.true) c.args.world.now c.loop-place.world c.loop-place.invariant.beside in
    record {
      queues = ap (map (λ one. plain_commands g.R.DocumentRules.part_of (waiting one))) c.in_ok-push.ensures.items ∙ map-append (λ one. plain_commands g.R.DocumentRules.part_of (waiting one)) c.loop-place.queues.items (c.in_ok-queue.queue ∷ [])
          ∙ ap (λ first. first ++ plain_commands g.R.DocumentRules.part_of (waiting c.in_ok-queue.queue) ∷ []) c.loop-place.invariant.queues
          ∙ ap (λ last. map (commands_of (kinds_of g.R.Value.SceneValue.places g.R.DocumentRules.part_of g.R.WorldRules.columns) (seen_of c.args.world.now)) (take c.loop-place.place-index c.args.places.now) ++ last ∷ []) (c.in_ok-queue.ensures.queue ∙ yet)
          ∙ sym (front_at (commands_of (kinds_of g.R.Value.SceneValue.places g.R.DocumentRules.part_of g.R.WorldRules.columns) (seen_of c.args.world.now)) c.args.places.now c.loop-place.place-index (get_or c.args.places.now c.loop-place.place-index 0) c.loop-place-test.true (get_or_default c.args.places.now c.loop-place.place-index 0 (get_or c.args.places.now c.loop-place.place-index 0) c.loop-place-test.true));
      beside = beside-more (kinds_of g.R.Value.SceneValue.places g.R.DocumentRules.part_of g.R.WorldRules.columns) c.args.places.now c.loop-place.place-index (get_or c.args.places.now c.loop-place.place-index 0) c.loop-place-test.true (get_or_default c.args.places.now c.loop-place.place-index 0 (get_or c.args.places.now c.loop-place.place-index 0) c.loop-place-test.true) c.args.world.now c.loop-place.world c.take_queue.new.world c.loop-place.invariant.beside c.in_ok-queue.ensures.beside;
    }

pub returns-clause-queues : goal.returns-clause-queues
returns-clause-queues g c = c.loop-place.invariant.queues ∙ ap (map (commands_of (kinds_of g.R.Value.SceneValue.places g.R.DocumentRules.part_of g.R.WorldRules.columns) (seen_of c.args.world.now))) (take_all c.loop-place.place-index c.args.places.now c.loop-place-test.false)

pub returns-clause-beside : goal.returns-clause-beside
returns-clause-beside g c = subst (λ places. StaysBeside (kinds_of g.R.Value.SceneValue.places g.R.DocumentRules.part_of g.R.WorldRules.columns) places c.args.world.now c.loop-place.world) (take_all c.loop-place.place-index c.args.places.now c.loop-place-test.false) c.loop-place.invariant.beside
