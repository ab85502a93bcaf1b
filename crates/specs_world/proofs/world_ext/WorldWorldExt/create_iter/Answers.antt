use Rattle.shred_world.specs.ResourceIds.{id_of}
use Rattle.specs_world.specs.Resources.{AreBirths}
use Rattle.specs_world.proofs.ResourceLemmas.{lent-becomes, lent-same}
use Rattle.specs_world.proofs.world_ext.WorldWorldExt.create_iter.Goals as goal

pub returns-in-Ok-clause-ok : goal.returns-in-Ok-clause-ok
returns-in-Ok-clause-ok g c =
    lent-becomes g.bound-2.part g.bound-2.wrapped c.args.self.now _ (id_of g.bound-2.kind_number 0) c.get_mut.result c.in-Some.entities c.allocate_iter.new.self c.in-Some.is c.get_mut.ensures.value
    (c.get_mut.follows.holds c.allocate_iter.new.self) (AreBirths c.args.count c.in-Ok.entities)
    (record { births = c.in-Ok.ensures.ok; value = c.in-Ok.ensures.value; new = c.in-Ok.ensures.new; live_on = c.in-Ok.ensures.live_on; continues = c.in-Ok.ensures.continues })

pub returns-in-Err-clause-err : goal.returns-in-Err-clause-err
returns-in-Err-clause-err g c =
    lent-same g.bound-2.part g.bound-2.wrapped c.args.self.now _ (id_of g.bound-2.kind_number 0) c.get_mut.result c.in-Some.entities c.allocate_iter.new.self c.in-Some.is c.get_mut.ensures.value
    (c.get_mut.follows.holds c.allocate_iter.new.self) g.bound-2-met.only_wrapped c.in-Err.ensures.err
