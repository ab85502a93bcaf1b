use Rattle.std.proofs.Common.{◌<◌, sym, subst, arith}
use Rattle.scene_world.specs.Places.{kinds_of}
use Rattle.scene_commands.proofs.LendLemmas.{held-before, held-after, held-elsewhere}
use Rattle.scene_commands.proofs.BirthLemmas.{comes-to-life}
use Rattle.scene_commands.proofs.births.bring_to_life.Goals as goal

pub returns-in-Ok-clause-ok : goal.returns-in-Ok-clause-ok
returns-in-Ok-clause-ok g c =
    comes-to-life (kinds_of g.R.Value.SceneValue.places g.R.DocumentRules.part_of g.R.WorldRules.columns) c.args.world.now _ c.in-Some.entities.now c.allocate.new.self
    (held-before c.args.world.now _ g.R.Value.SceneValue.places.entities_id c.entities_id-place.result c.entities_id-place.ensures g.R.Value.SceneValue.places.births g.R.Value.SceneValue.places.entities_value c.in-Some.ensures.seen c.entities_at.result c.in-Some.entities c.in-Some.is c.entities_at.ensures.value
    c.allocate.new.self (c.entities_at.follows.holds c.allocate.new.self))
    (held-after c.args.world.now _ g.R.Value.SceneValue.places.entities_id c.entities_id-place.result c.entities_id-place.ensures g.R.Value.SceneValue.places.births g.R.Value.SceneValue.places.entities_value c.in-Some.ensures.seen c.entities_at.result c.in-Some.entities c.in-Some.is c.entities_at.ensures.value
    c.allocate.new.self (c.entities_at.follows.holds c.allocate.new.self))
    (held-elsewhere c.args.world.now _ g.R.Value.SceneValue.places.entities_id c.entities_id-place.result c.entities_id-place.ensures g.R.Value.SceneValue.places.births g.R.Value.SceneValue.places.entities_value c.in-Some.ensures.seen c.entities_at.result c.in-Some.entities c.in-Some.is c.entities_at.ensures.value
    c.allocate.new.self (c.entities_at.follows.holds c.allocate.new.self))
    c.in-Ok.entity (subst (λ entity. 0 < entity.generation.number) (sym c.in-Ok.ensures.value) (omega arith))
    c.in-Ok.ensures.new c.in-Ok.ensures.alive c.in-Ok.ensures.lives c.in-Ok.ensures.live_on c.in-Ok.ensures.continues
    c.in-Ok.ensures.value c.in-Ok.ensures.ok
