use Rattle.std.proofs.Common.{Some, ap, ◌∙◌}
use Rattle.std.specs.FinMap as map
use Rattle.shred_world.specs.ResourceIds.{id_of}
use Rattle.scene_cases.specs.declared.turns.values.Value.TheVariants.{EntitiesValue, AllocatorValue}
use Rattle.scene_cases.proofs.BareLemmas.{put-scene}
use Rattle.scene_cases.proofs.systems.bare.bare_world.Goals as goal

pub returns : goal.returns
returns c =
    put-scene 16777216 2147483647 c.no_markers.result c.no_markers.ensures c.put.new.world c.put-2.new.world c.put-3.new.world c.put_queue.new.world c.put_queue-2.new.world
    c.in_ok-put_queue.ensures.0 c.in_ok-put_queue-2.ensures.0
    (c.in_ok-put.ensures ∙ ap (λ w. map.insert w (id_of 0 0) (Some (EntitiesValue c.new.result))) c.empty-world.ensures ∙ ap (λ births. map.insert map.empty (id_of 0 0) (Some (EntitiesValue births))) c.new.ensures)
    c.in_ok-put-2.ensures
    (c.in_ok-put-3.ensures ∙ ap (λ noting. map.insert c.put-2.new.world (id_of 2 0) (Some (AllocatorValue noting))) c.new-2.ensures)
    c.in_ok-put_queue.ensures.1 c.in_ok-put_queue-2.ensures.1
