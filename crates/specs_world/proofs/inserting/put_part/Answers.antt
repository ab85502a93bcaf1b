use Rattle.std.proofs.Common.{inr}
use Rattle.shred_world.specs.ResourceIds.{id_of}
use Rattle.specs_world.specs.Inserting.{IsPut, Keeps}
use Rattle.specs_world.proofs.ResourceLemmas.{lent-becomes}
use Rattle.specs_world.proofs.inserting.put_part.Goals as goal

pub returns-in-Ok-clause-ok : goal.returns-in-Ok-clause-ok
returns-in-Ok-clause-ok g c =
    let storage = g.T.Storage.UnprotectedStorage in
    lent-becomes g.bound-4.part g.bound-4.wrapped c.args.world.now _ (id_of g.bound-4.kind_number 0) c.get_mut.result c.in-Some.storage c.insert.new.self c.in-Some.is c.get_mut.ensures.value
    (c.get_mut.follows.holds c.insert.new.self) (IsPut storage.part_at storage.events storage.emits c.args.id c.args.part c.in-Ok.had)
    (record { parts = c.in-Ok.ensures.ok; replaced = c.in-Ok.ensures.value; told = c.in-Ok.ensures.events; emission = c.in-Ok.ensures.emission })

pub returns-in-Err-clause-err : goal.returns-in-Err-clause-err
returns-in-Err-clause-err g c =
    let storage = g.T.Storage.UnprotectedStorage in
    inr (lent-becomes g.bound-4.part g.bound-4.wrapped c.args.world.now _ (id_of g.bound-4.kind_number 0) c.get_mut.result c.in-Some.storage c.insert.new.self c.in-Some.is c.get_mut.ensures.value
    (c.get_mut.follows.holds c.insert.new.self) (Keeps storage.part_at storage.events storage.emits)
    (record { parts = c.in-Err.ensures.err; told = c.in-Err.ensures.silent; emission = c.in-Err.ensures.emission }))
