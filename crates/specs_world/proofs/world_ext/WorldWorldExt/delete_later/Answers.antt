use Rattle.shred_world.specs.ResourceIds.{id_of}
use Rattle.specs_world.proofs.ResourceLemmas.{lent-deletes}
use Rattle.specs_world.proofs.world_ext.WorldWorldExt.delete_later.Goals as goal

pub returns-in-Some : goal.returns-in-Some
returns-in-Some g c =
    lent-deletes g.bound-2.part g.bound-2.wrapped c.args.self.now _ (id_of g.bound-2.kind_number 0) c.get_mut.result c.in-Some.entities c.delete.new.self c.in-Some.is c.get_mut.ensures.value
    (c.get_mut.follows.holds c.delete.new.self) g.bound-2-met.only_wrapped c.args.entity c.delete.result c.delete.ensures.ok c.delete.ensures.err c.delete.ensures.succeeds
