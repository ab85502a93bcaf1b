use Rattle.shred_world.specs.ResourceIds.{id_of}
use Rattle.specs_world.specs.Inserting.{Keeps}
use Rattle.specs_world.specs.Jobs.{IsDropped}
use Rattle.specs_world.proofs.ResourceLemmas.{lent-becomes}
use Rattle.specs_world.proofs.removing.drop_part.Goals as goal

pub returns-in-Ok-clause-ok : goal.returns-in-Ok-clause-ok
returns-in-Ok-clause-ok g c =
    let storage = g.C.Storage.UnprotectedStorage in
    lent-becomes g.bound-4.part g.bound-4.wrapped c.args.world.now _ (id_of g.bound-4.kind_number 0) c.get_mut.result c.in-Some.storage c.drop.new.self c.in-Some.is c.get_mut.ensures.value
    (c.get_mut.follows.holds c.drop.new.self) (IsDropped storage.part_at storage.events storage.emits c.args.id)
    (record { parts = c.in-Ok.ensures.ok; told = c.in-Ok.ensures.events; emission = c.in-Ok.ensures.emission })

pub returns-in-Err-clause-err : goal.returns-in-Err-clause-err
returns-in-Err-clause-err g c =
    let storage = g.C.Storage.UnprotectedStorage in
    lent-becomes g.bound-4.part g.bound-4.wrapped c.args.world.now _ (id_of g.bound-4.kind_number 0) c.get_mut.result c.in-Some.storage c.drop.new.self c.in-Some.is c.get_mut.ensures.value
    (c.get_mut.follows.holds c.drop.new.self) (Keeps storage.part_at storage.events storage.emits)
    (record { parts = c.in-Err.ensures.err; told = c.in-Err.ensures.silent; emission = c.in-Err.ensures.emission })
