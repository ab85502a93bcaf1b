use Rattle.std.proofs.Common.{◌≡◌, Some, sym, ap, ◌∙◌}
use Rattle.shred_world.proofs.CallerLemmas.{slot-is-out}
use Rattle.shred_world.specs.ResourceIds.{id_of}
use Rattle.shred_world.specs.Worlds.{resource_at}
use Rattle.specs_world.proofs.ResourceLemmas.{resource-value, taken-and-put}
use Rattle.specs_world.proofs.world_ext.WorldWorldExt.open_phase.Goals as goal

pub put_in-requires : goal.put_in-requires
put_in-requires g c = record { is_out = slot-is-out c.args.self.now c.take_out.new.world (id_of g.bound-2.kind_number 0) c.in-Some.ensures.out }

pub returns-in-Err-clause-err : goal.returns-in-Err-clause-err
returns-in-Err-clause-err g c =
    let id = id_of g.bound-2.kind_number 0 in
    let there : resource_at g.bound-2.part c.args.self.now id ≡ Some c.in-Some.entities = sym c.take_out.ensures.value ∙ c.in-Some.is in
    taken-and-put c.args.self.now c.take_out.new.world c.put_in.new.world id (g.bound-2.wrapped c.in-Some.entities) (g.bound-2.wrapped c.in-Err.entities)
    (sym (resource-value g.bound-2.part g.bound-2.wrapped g.bound-2-met.only_wrapped c.args.self.now id c.in-Some.entities there))
    c.in-Some.ensures.out (ap g.bound-2.wrapped c.in-Err.ensures.0) c.put_in.ensures
