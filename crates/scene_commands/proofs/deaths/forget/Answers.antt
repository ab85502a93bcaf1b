use Rattle.scene_world.specs.Places.{kinds_of}
use Rattle.scene_commands.proofs.LendLemmas.{held-before, held-after, held-elsewhere}
use Rattle.scene_commands.proofs.DeathLemmas.{forgets}
use Rattle.scene_commands.proofs.deaths.forget.Goals as goal

pub returns : goal.returns
returns g c =
    forgets (kinds_of g.R.Value.SceneValue.places g.R.DocumentRules.part_of g.R.WorldRules.columns) c.args.world.now _ c.in-Some.allocator.now c.forget.new.self
    (held-before c.args.world.now _ g.R.Value.SceneValue.places.allocator_id c.allocator_id-place.result c.allocator_id-place.ensures g.R.Value.SceneValue.places.noting g.R.Value.SceneValue.places.allocator_value c.in-Some.ensures.seen c.allocator_at.result c.in-Some.allocator c.in-Some.is c.allocator_at.ensures.value
    c.forget.new.self (c.allocator_at.follows.holds c.forget.new.self))
    (held-after c.args.world.now _ g.R.Value.SceneValue.places.allocator_id c.allocator_id-place.result c.allocator_id-place.ensures g.R.Value.SceneValue.places.noting g.R.Value.SceneValue.places.allocator_value c.in-Some.ensures.seen c.allocator_at.result c.in-Some.allocator c.in-Some.is c.allocator_at.ensures.value
    c.forget.new.self (c.allocator_at.follows.holds c.forget.new.self))
    (held-elsewhere c.args.world.now _ g.R.Value.SceneValue.places.allocator_id c.allocator_id-place.result c.allocator_id-place.ensures g.R.Value.SceneValue.places.noting g.R.Value.SceneValue.places.allocator_value c.in-Some.ensures.seen c.allocator_at.result c.in-Some.allocator c.in-Some.is c.allocator_at.ensures.value
    c.forget.new.self (c.allocator_at.follows.holds c.forget.new.self))
    c.args.id c.forget.ensures
