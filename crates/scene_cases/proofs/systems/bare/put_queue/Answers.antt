use Rattle.std.proofs.Common.{Some, ap, ◌∙◌}
use Rattle.std.specs.FinMap as map
use Rattle.scene_cases.proofs.systems.bare.put_queue.Goals as goal

pub returns-in-Ok : goal.returns-in-Ok
returns-in-Ok c = (c.wrap_queue-queue.result, c.in-Ok.ensures.ok ∙ ap (λ id. map.insert c.args.world.now id (Some c.wrap_queue-queue.result)) c.queue_id-id.ensures)
