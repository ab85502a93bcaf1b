use Rattle.scene_world.specs.Places.{kinds_of}
use Rattle.scene_commands.proofs.LendLemmas.{held-before, held-after, held-elsewhere}
use Rattle.scene_commands.proofs.DeathLemmas.{falls}
use Rattle.scene_commands.proofs.owning.fallen_with.Goals as goal

pub returns-in-Ok : goal.returns-in-Ok
returns-in-Ok g c =
    falls (kinds_of g.R.Value.SceneValue.places g.R.DocumentRules.part_of g.R.WorldRules.columns) c.args.world.now _ c.in-Some.entities.now c.closure.new.self
    (held-before c.args.world.now _ g.R.Value.SceneValue.places.entities_id c.entities_id-place.result c.entities_id-place.ensures g.R.Value.SceneValue.places.births g.R.Value.SceneValue.places.entities_value c.in-Some.ensures.seen c.entities_at.result c.in-Some.entities c.in-Some.is c.entities_at.ensures.value
    c.closure.new.self (c.entities_at.follows.holds c.closure.new.self))
    (held-after c.args.world.now _ g.R.Value.SceneValue.places.entities_id c.entities_id-place.result c.entities_id-place.ensures g.R.Value.SceneValue.places.births g.R.Value.SceneValue.places.entities_value c.in-Some.ensures.seen c.entities_at.result c.in-Some.entities c.in-Some.is c.entities_at.ensures.value
    c.closure.new.self (c.entities_at.follows.holds c.closure.new.self))
    (held-elsewhere c.args.world.now _ g.R.Value.SceneValue.places.entities_id c.entities_id-place.result c.entities_id-place.ensures g.R.Value.SceneValue.places.births g.R.Value.SceneValue.places.entities_value c.in-Some.ensures.seen c.entities_at.result c.in-Some.entities c.in-Some.is c.entities_at.ensures.value
    c.closure.new.self (c.entities_at.follows.holds c.closure.new.self))
    c.closure.ensures.same c.args.entity c.args.pairs.now c.in-Ok.fallen.items c.in-Ok.ensures.value
