use Rattle.scene_world.specs.Places.{kinds_of}
use Rattle.scene_commands.proofs.LendLemmas.{held-before, held-after, held-elsewhere}
use Rattle.scene_commands.proofs.DeathLemmas.{lets-die}
use Rattle.scene_commands.proofs.deaths.let_die.Goals as goal

pub returns-in-Ok : goal.returns-in-Ok
returns-in-Ok g c =
    lets-die (kinds_of g.R.Value.SceneValue.places g.R.DocumentRules.part_of g.R.WorldRules.columns) c.args.world.now _ c.in-Some.entities.now c.kill.new.self
    (held-before c.args.world.now _ g.R.Value.SceneValue.places.entities_id c.entities_id-place.result c.entities_id-place.ensures g.R.Value.SceneValue.places.births g.R.Value.SceneValue.places.entities_value c.in-Some.ensures.seen c.entities_at.result c.in-Some.entities c.in-Some.is c.entities_at.ensures.value
    c.kill.new.self (c.entities_at.follows.holds c.kill.new.self))
    (held-after c.args.world.now _ g.R.Value.SceneValue.places.entities_id c.entities_id-place.result c.entities_id-place.ensures g.R.Value.SceneValue.places.births g.R.Value.SceneValue.places.entities_value c.in-Some.ensures.seen c.entities_at.result c.in-Some.entities c.in-Some.is c.entities_at.ensures.value
    c.kill.new.self (c.entities_at.follows.holds c.kill.new.self))
    (held-elsewhere c.args.world.now _ g.R.Value.SceneValue.places.entities_id c.entities_id-place.result c.entities_id-place.ensures g.R.Value.SceneValue.places.births g.R.Value.SceneValue.places.entities_value c.in-Some.ensures.seen c.entities_at.result c.in-Some.entities c.in-Some.is c.entities_at.ensures.value
    c.kill.new.self (c.entities_at.follows.holds c.kill.new.self))
    c.args.entity c.in-Ok.ensures.lives c.in-Ok.ensures.continues c.in-Ok.ensures.ok
