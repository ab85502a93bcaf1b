use Rattle.std.proofs.Common.{subst}
use Rattle.specs_layouts.specs.Drops.{ids_of}
use Rattle.specs_world.specs.Dropping.{DropsIn}
use Rattle.specs_world.proofs.DeletingLemmas.{rests-then-drops, drops-out}
use Rattle.specs_world.proofs.deleting.merge_with_parts.Goals as goal

pub returns-clause-parts : goal.returns-clause-parts
returns-clause-parts g c =
    rests-then-drops g.V.AnyStorage.drops g.met.V.AnyStorage.drops_append c.args.kinds.now (ids_of c.in_ok-deleted.deleted.items) c.args.world.now c.make_room_in.new.world c.drop_in.new.world
    c.in_ok-make_room_in.ensures.rests c.in_ok-make_room_in.ensures.others
    (subst (λ entities. DropsIn g.V.AnyStorage.drops c.args.kinds.now (ids_of entities) c.make_room_in.new.world c.drop_in.new.world) c.deref.ensures.value c.drop_in.ensures)

pub returns-clause-outs : goal.returns-clause-outs
returns-clause-outs g c =
    drops-out g.V.AnyStorage.drops c.args.kinds.now (ids_of c.in_ok-deleted.deleted.items) c.args.world.now c.drop_in.new.world (returns-clause-parts g c)
