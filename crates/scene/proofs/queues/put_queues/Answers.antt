use Rattle.std.proofs.Common.{get_or, ◌≡◌, [], refl, subst}
use Rattle.std.proofs.lemmas.List.{take_all, get_or_default}
use Rattle.std.proofs.lemmas.List.Elements.{All-nil}
use Rattle.scene_world.specs.Standing.{commands_of}
use Rattle.scene_world.specs.Places.{kinds_of}
use Rattle.scene_commands.specs.Acts.{seen_of}
use Rattle.scene.specs.Waiting.{NoneWaitsAt, StaysBeside}
use Rattle.scene.proofs.WorldLemmas.{beside-more, empty-more}
use Rattle.scene.proofs.queues.put_queues.Goals as goal

pub loop-place-init : goal.loop-place-init
loop-place-init g c = record { empty = All-nil (λ place. commands_of (kinds_of g.R.Value.SceneValue.places g.R.DocumentRules.part_of g.R.WorldRules.columns) (seen_of c.args.world.now) place ≡ []); beside = λ id none. refl }

pub loop-place-preserved : goal.loop-place-preserved
loop-place-preserved g c = record {
  empty = empty-more (kinds_of g.R.Value.SceneValue.places g.R.DocumentRules.part_of g.R.WorldRules.columns) g.met.R.WorldRules.apart c.args.places.now c.requires.ascend c.loop-place.place-index (get_or c.args.places.now c.loop-place.place-index 0) c.loop-place-test.true (get_or_default c.args.places.now c.loop-place.place-index 0 (get_or c.args.places.now c.loop-place.place-index 0) c.loop-place-test.true) c.loop-place.world c.put_queue.new.world c.loop-place.invariant.empty c.in_ok-put_queue.ensures.empty c.in_ok-put_queue.ensures.beside;
  beside = beside-more (kinds_of g.R.Value.SceneValue.places g.R.DocumentRules.part_of g.R.WorldRules.columns) c.args.places.now c.loop-place.place-index (get_or c.args.places.now c.loop-place.place-index 0) c.loop-place-test.true (get_or_default c.args.places.now c.loop-place.place-index 0 (get_or c.args.places.now c.loop-place.place-index 0) c.loop-place-test.true) c.args.world.now c.loop-place.world c.put_queue.new.world c.loop-place.invariant.beside c.in_ok-put_queue.ensures.beside;
}

pub returns-clause-empty : goal.returns-clause-empty
returns-clause-empty g c = subst (λ places. NoneWaitsAt (kinds_of g.R.Value.SceneValue.places g.R.DocumentRules.part_of g.R.WorldRules.columns) places (seen_of c.loop-place.world)) (take_all c.loop-place.place-index c.args.places.now c.loop-place-test.false) c.loop-place.invariant.empty

pub returns-clause-beside : goal.returns-clause-beside
returns-clause-beside g c = subst (λ places. StaysBeside (kinds_of g.R.Value.SceneValue.places g.R.DocumentRules.part_of g.R.WorldRules.columns) places c.args.world.now c.loop-place.world) (take_all c.loop-place.place-index c.args.places.now c.loop-place-test.false) c.loop-place.invariant.beside
