use Rattle.std.proofs.Common.{◌≡◌, false, [], Some, ap, sym, ◌∙◌}
use Rattle.std.specs.Option.{option_map_or}
use Rattle.std.proofs.lemmas.List.Elements.{All-head}
use Rattle.shred_world.specs.ResourceIds.{same_id}
use Rattle.scene_model.specs.Queues.{plain_commands, waiting}
use Rattle.scene_commands.specs.Acts.{seen_of}
use Rattle.scene.proofs.WorldLemmas.{put-else}
use Rattle.scene.proofs.queues.put_queue.Goals as goal
use Rattle.scene_commands.proofs.CallerLemmas.{sees-now}

pub returns-in-Ok-clause-empty : goal.returns-in-Ok-clause-empty
returns-in-Ok-clause-empty g c =
    ap (λ held. option_map_or (λ v. option_map_or (λ queue. plain_commands g.R.DocumentRules.part_of (waiting queue)) (g.R.Value.SceneValue.places.queue v) []) held []) (ap (seen_of c.insert_raw.new.self) (sym c.queue_id-id.ensures) ∙ sees-now c.args.world.now c.insert_raw.new.self c.queue_id-id.result c.wrap_queue.result c.in-Ok.ensures.ok)
    ∙ ap (λ found. option_map_or (λ queue. plain_commands g.R.DocumentRules.part_of (waiting queue)) found []) c.wrap_queue.ensures.read
    ∙ ap (plain_commands g.R.DocumentRules.part_of) c.clear.ensures

pub returns-in-Ok-clause-beside : goal.returns-in-Ok-clause-beside
returns-in-Ok-clause-beside g c = λ id none.
    put-else c.args.world.now c.insert_raw.new.self c.queue_id-id.result id (Some c.wrap_queue.result) c.in-Ok.ensures.ok
    (ap (same_id id) c.queue_id-id.ensures ∙ All-head (λ place. same_id id (g.R.Value.SceneValue.places.queue_id place) ≡ false) c.args.place [] none)
