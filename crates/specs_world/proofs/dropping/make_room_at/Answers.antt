use Rattle.shred_world.proofs.WorldLemmas.{on_some}
use Rattle.std.proofs.Common.{[]}
use Rattle.specs_world.proofs.DroppingLemmas.{lent-there, lent-dropped, lent-others, lent-room}
use Rattle.specs_world.proofs.dropping.make_room_at.Goals as goal

pub returns-in-Ok-clause-room : goal.returns-in-Ok-clause-room
returns-in-Ok-clause-room g c =
    lent-room c.args.world.now _ c.args.id c.in-Some.value.now _ (lent-there c.args.world.now c.args.id c.get_mut_raw.result c.in-Some.value c.in-Some.is c.get_mut_raw.ensures.value)
    (on_some c.get_mut_raw.result c.in-Some.value _ c.in-Some.is (c.get_mut_raw.follows.holds c.make_room.new.self)) g.V.AnyStorage.has_room c.args.count c.in-Ok.ensures.ok

pub returns-in-Ok-clause-rests : goal.returns-in-Ok-clause-rests
returns-in-Ok-clause-rests g c =
    lent-dropped c.args.world.now _ c.args.id c.in-Some.value.now _ (lent-there c.args.world.now c.args.id c.get_mut_raw.result c.in-Some.value c.in-Some.is c.get_mut_raw.ensures.value)
    (on_some c.get_mut_raw.result c.in-Some.value _ c.in-Some.is (c.get_mut_raw.follows.holds c.make_room.new.self)) g.V.AnyStorage.drops [] c.in-Ok.ensures.same

pub returns-in-Ok-clause-others : goal.returns-in-Ok-clause-others
returns-in-Ok-clause-others g c =
    lent-others c.args.world.now _ c.args.id c.in-Some.value.now _ (lent-there c.args.world.now c.args.id c.get_mut_raw.result c.in-Some.value c.in-Some.is c.get_mut_raw.ensures.value)
    (on_some c.get_mut_raw.result c.in-Some.value _ c.in-Some.is (c.get_mut_raw.follows.holds c.make_room.new.self))

pub returns-in-Err-clause-rests : goal.returns-in-Err-clause-rests
returns-in-Err-clause-rests g c =
    lent-dropped c.args.world.now _ c.args.id c.in-Some.value.now _ (lent-there c.args.world.now c.args.id c.get_mut_raw.result c.in-Some.value c.in-Some.is c.get_mut_raw.ensures.value)
    (on_some c.get_mut_raw.result c.in-Some.value _ c.in-Some.is (c.get_mut_raw.follows.holds c.make_room.new.self)) g.V.AnyStorage.drops [] c.in-Err.ensures.same

pub returns-in-Err-clause-others : goal.returns-in-Err-clause-others
returns-in-Err-clause-others g c =
    lent-others c.args.world.now _ c.args.id c.in-Some.value.now _ (lent-there c.args.world.now c.args.id c.get_mut_raw.result c.in-Some.value c.in-Some.is c.get_mut_raw.ensures.value)
    (on_some c.get_mut_raw.result c.in-Some.value _ c.in-Some.is (c.get_mut_raw.follows.holds c.make_room.new.self))
