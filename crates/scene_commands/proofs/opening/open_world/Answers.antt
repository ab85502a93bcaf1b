use Rattle.std.proofs.Common.{Some, ap, ◌∙◌, subst}
use Rattle.std.specs.Prelude.{min}
use Rattle.std.specs.Option.{option_flatten}
use Rattle.std.specs.FinMap as slots
use Rattle.shred_world.specs.ResourceIds.{id_cmp}
use Rattle.shred_world.specs.Worlds.{value_at}
use Rattle.scene_world.specs.Putting.{Registers}
use Rattle.scene_commands.proofs.OpenLemmas.{seated-is, open-may, open-births, open-quiet, open-scene}
use Rattle.scene_commands.proofs.opening.open_world.Goals as goal

pub returns-clause-may : goal.returns-clause-may
returns-clause-may g c =
    open-may g.R.Value.SceneValue.places g.R.DocumentRules.part_of g.R.WorldRules.columns g.met.R.WorldRules.apart c.empty-world.result c.register.new.world c.wrap_entities.result c.wrap_markers.result c.wrap_allocator.result
    (subst (λ w. Registers g.R.WorldRules.columns w c.register.new.world)
    (seated-is g.R.Value.SceneValue.places g.R.DocumentRules.part_of g.R.WorldRules.columns g.met.R.WorldRules.apart c.empty-world.result c.register.new.world c.wrap_entities.result c.wrap_markers.result c.wrap_allocator.result
    c.insert_raw.new.self c.insert_raw-2.new.self c.insert_raw-3.new.self c.entities_id.result c.markers_id.result c.allocator_id.result c.entities_id.ensures c.markers_id.ensures c.allocator_id.ensures
    c.in-Ok.ensures.ok c.in-Ok-insert_raw.ensures.ok c.in-Ok-insert_raw-2.ensures.ok)
    c.in_ok-register.ensures)
    (min c.args.limits.0 16777216) (min c.args.limits.1 2147483647) c.args.next
    (c.wrap_entities.ensures ∙ ap (λ b. Some b) c.with_limits-entities.ensures)
    (λ index. c.wrap_markers.ensures.markers index ∙ c.no_markers.ensures.none index)
    (c.wrap_allocator.ensures ∙ ap (λ n. Some n) c.new.ensures)

pub returns-clause-births : goal.returns-clause-births
returns-clause-births g c =
    open-births g.R.Value.SceneValue.places g.R.DocumentRules.part_of g.R.WorldRules.columns g.met.R.WorldRules.apart c.empty-world.result c.register.new.world c.wrap_entities.result c.wrap_markers.result c.wrap_allocator.result
    (subst (λ w. Registers g.R.WorldRules.columns w c.register.new.world)
    (seated-is g.R.Value.SceneValue.places g.R.DocumentRules.part_of g.R.WorldRules.columns g.met.R.WorldRules.apart c.empty-world.result c.register.new.world c.wrap_entities.result c.wrap_markers.result c.wrap_allocator.result
    c.insert_raw.new.self c.insert_raw-2.new.self c.insert_raw-3.new.self c.entities_id.result c.markers_id.result c.allocator_id.result c.entities_id.ensures c.markers_id.ensures c.allocator_id.ensures
    c.in-Ok.ensures.ok c.in-Ok-insert_raw.ensures.ok c.in-Ok-insert_raw-2.ensures.ok)
    c.in_ok-register.ensures)
    (min c.args.limits.0 16777216) (min c.args.limits.1 2147483647) (c.wrap_entities.ensures ∙ ap (λ b. Some b) c.with_limits-entities.ensures)

pub returns-clause-quiet : goal.returns-clause-quiet
returns-clause-quiet g c =
    open-quiet g.R.Value.SceneValue.places g.R.DocumentRules.part_of g.R.WorldRules.columns g.met.R.WorldRules.apart c.empty-world.result c.register.new.world c.wrap_entities.result c.wrap_markers.result c.wrap_allocator.result
    (subst (λ w. Registers g.R.WorldRules.columns w c.register.new.world)
    (seated-is g.R.Value.SceneValue.places g.R.DocumentRules.part_of g.R.WorldRules.columns g.met.R.WorldRules.apart c.empty-world.result c.register.new.world c.wrap_entities.result c.wrap_markers.result c.wrap_allocator.result
    c.insert_raw.new.self c.insert_raw-2.new.self c.insert_raw-3.new.self c.entities_id.result c.markers_id.result c.allocator_id.result c.entities_id.ensures c.markers_id.ensures c.allocator_id.ensures
    c.in-Ok.ensures.ok c.in-Ok-insert_raw.ensures.ok c.in-Ok-insert_raw-2.ensures.ok)
    c.in_ok-register.ensures)
    (λ id. ap (λ w. value_at w id) c.empty-world.ensures ∙ ap option_flatten (slots.get-empty id_cmp id))

pub returns-clause-scene : goal.returns-clause-scene
returns-clause-scene g c =
    open-scene g.R.Value.SceneValue.places g.R.DocumentRules.part_of g.R.WorldRules.columns g.met.R.WorldRules.apart c.empty-world.result c.register.new.world c.wrap_entities.result c.wrap_markers.result c.wrap_allocator.result
    (subst (λ w. Registers g.R.WorldRules.columns w c.register.new.world)
    (seated-is g.R.Value.SceneValue.places g.R.DocumentRules.part_of g.R.WorldRules.columns g.met.R.WorldRules.apart c.empty-world.result c.register.new.world c.wrap_entities.result c.wrap_markers.result c.wrap_allocator.result
    c.insert_raw.new.self c.insert_raw-2.new.self c.insert_raw-3.new.self c.entities_id.result c.markers_id.result c.allocator_id.result c.entities_id.ensures c.markers_id.ensures c.allocator_id.ensures
    c.in-Ok.ensures.ok c.in-Ok-insert_raw.ensures.ok c.in-Ok-insert_raw-2.ensures.ok)
    c.in_ok-register.ensures)
    (λ id. ap (λ w. value_at w id) c.empty-world.ensures ∙ ap option_flatten (slots.get-empty id_cmp id))
    (min c.args.limits.0 16777216) (min c.args.limits.1 2147483647) c.args.next
    (c.wrap_entities.ensures ∙ ap (λ b. Some b) c.with_limits-entities.ensures)
    (λ index. c.wrap_markers.ensures.markers index ∙ c.no_markers.ensures.none index)
    (c.wrap_allocator.ensures ∙ ap (λ n. Some n) c.new.ensures)
