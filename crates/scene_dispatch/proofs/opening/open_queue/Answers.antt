use Rattle.std.proofs.Common.{Some, ap, ◌∙◌}
use Rattle.std.specs.FinMap as map
use Rattle.scene_dispatch.proofs.StoodLemmas.{put-queue, put-else}
use Rattle.scene_dispatch.proofs.opening.open_queue.Goals as goal

pub returns-in-Ok-clause-queue : goal.returns-in-Ok-clause-queue
returns-in-Ok-clause-queue g c =
    put-queue g.V.SceneValue.places c.args.world.now c.insert_raw.new.self c.args.position c.new.result c.wrap_queue-value.result c.new.ensures c.wrap_queue-value.ensures.read
    (c.in-Ok.ensures.ok ∙ ap (λ id. map.insert c.args.world.now id (Some c.wrap_queue-value.result)) c.queue_id-id.ensures)

pub returns-in-Ok-clause-others : goal.returns-in-Ok-clause-others
returns-in-Ok-clause-others g c =
    put-else g.V.SceneValue.places c.args.world.now c.insert_raw.new.self c.args.position c.wrap_queue-value.result
    (c.in-Ok.ensures.ok ∙ ap (λ id. map.insert c.args.world.now id (Some c.wrap_queue-value.result)) c.queue_id-id.ensures)
