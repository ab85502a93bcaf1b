use Rattle.std.proofs.Common.{◌≡◌, false, [], None, ap, ◌∙◌}
use Rattle.std.proofs.lemmas.List.Elements.{All-head}
use Rattle.shred_world.specs.ResourceIds.{same_id}
use Rattle.shred_world.proofs.CallerLemmas.{slot-is-out}
use Rattle.scene.proofs.WorldLemmas.{put-else}
use Rattle.scene.proofs.queues.take_queue.Goals as goal

pub put_back-requires : goal.put_back-requires
put_back-requires g c = record { is_out = slot-is-out c.args.world.now c.take_raw.new.self c.queue_id-id.result c.in-Some.ensures.out }

pub returns-in-Ok-clause-beside : goal.returns-in-Ok-clause-beside
returns-in-Ok-clause-beside g c = λ id none.
    put-else c.args.world.now c.take_raw.new.self c.queue_id-id.result id None c.in-Some.ensures.out
    (ap (same_id id) c.queue_id-id.ensures ∙ All-head (λ place. same_id id (g.R.Value.SceneValue.places.queue_id place) ≡ false) c.args.place [] none)
