use Rattle.shred_world.proofs.WorldLemmas.{on_some}
use Rattle.specs_layouts.specs.Drops.{ids_of}
use Rattle.specs_world.proofs.DroppingLemmas.{lent-there, lent-dropped, lent-others}
use Rattle.specs_world.proofs.dropping.drop_at.Goals as goal

pub returns-in-Ok-clause-here : goal.returns-in-Ok-clause-here
returns-in-Ok-clause-here g c =
    lent-dropped c.args.world.now _ c.args.id c.in-Some.value.now _ (lent-there c.args.world.now c.args.id c.get_mut_raw.result c.in-Some.value c.in-Some.is c.get_mut_raw.ensures.value)
    (on_some c.get_mut_raw.result c.in-Some.value _ c.in-Some.is (c.get_mut_raw.follows.holds c.drop.new.self)) g.V.AnyStorage.drops (ids_of c.args.entities.now) c.in-Ok.ensures.ok

pub returns-in-Ok-clause-others : goal.returns-in-Ok-clause-others
returns-in-Ok-clause-others g c =
    lent-others c.args.world.now _ c.args.id c.in-Some.value.now _ (lent-there c.args.world.now c.args.id c.get_mut_raw.result c.in-Some.value c.in-Some.is c.get_mut_raw.ensures.value)
    (on_some c.get_mut_raw.result c.in-Some.value _ c.in-Some.is (c.get_mut_raw.follows.holds c.drop.new.self))
