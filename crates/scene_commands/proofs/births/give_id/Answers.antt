use Rattle.std.proofs.Common.{None, sym, subst}
use Rattle.specs_markers.specs.Simple.{Gives}
use Rattle.scene_world.specs.Places.{kinds_of}
use Rattle.scene_commands.proofs.LendLemmas.{held-before, held-after, held-elsewhere}
use Rattle.scene_commands.proofs.BirthLemmas.{notes}
use Rattle.scene_commands.proofs.births.give_id.Goals as goal

pub returns-in-Ok : goal.returns-in-Ok
returns-in-Ok g c =
    notes (kinds_of g.R.Value.SceneValue.places g.R.DocumentRules.part_of g.R.WorldRules.columns) c.args.world.now _ c.in-Some.allocator.now c.allocate.new.self
    (held-before c.args.world.now _ g.R.Value.SceneValue.places.allocator_id c.allocator_id-place.result c.allocator_id-place.ensures g.R.Value.SceneValue.places.noting g.R.Value.SceneValue.places.allocator_value c.in-Some.ensures.seen c.allocator_at.result c.in-Some.allocator c.in-Some.is c.allocator_at.ensures.value
    c.allocate.new.self (c.allocator_at.follows.holds c.allocate.new.self))
    (held-after c.args.world.now _ g.R.Value.SceneValue.places.allocator_id c.allocator_id-place.result c.allocator_id-place.ensures g.R.Value.SceneValue.places.noting g.R.Value.SceneValue.places.allocator_value c.in-Some.ensures.seen c.allocator_at.result c.in-Some.allocator c.in-Some.is c.allocator_at.ensures.value
    c.allocate.new.self (c.allocator_at.follows.holds c.allocate.new.self))
    (held-elsewhere c.args.world.now _ g.R.Value.SceneValue.places.allocator_id c.allocator_id-place.result c.allocator_id-place.ensures g.R.Value.SceneValue.places.noting g.R.Value.SceneValue.places.allocator_value c.in-Some.ensures.seen c.allocator_at.result c.in-Some.allocator c.in-Some.is c.allocator_at.ensures.value
    c.allocate.new.self (c.allocator_at.follows.holds c.allocate.new.self))
    c.args.entity None c.id.result
    (subst (λ id. Gives c.in-Some.allocator.now c.args.entity None id c.allocate.new.self) (sym c.id.ensures) c.in-Ok.ensures.value)
