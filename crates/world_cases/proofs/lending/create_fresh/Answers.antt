use Rattle.std.proofs.Common.{Some, ap, ◌∙◌}
use Rattle.std.specs.Prelude.{is_ok}
use Rattle.std.specs.FinMap as map
use Rattle.shred_world.specs.ResourceIds.{id_of}
use Rattle.shred_world.proofs.WorldLemmas.{insert_value_same}
use Rattle.specs_world.proofs.ResourceLemmas.{resource-value}
use Rattle.world_cases.proofs.lending.create_fresh.Goals as goal

pub returns-in-Ok-create-clause-ok : goal.returns-in-Ok-create-clause-ok
returns-in-Ok-create-clause-ok g c =
    (c.in-Ok.entities.now, c.create.new.self, c.in-Ok.ensures.ok, c.in-Ok-create.ensures.ok, c.write_resource.follows.holds c.create.new.self (ap is_ok c.in-Ok.is))

pub returns-in-Err-create-clause-err : goal.returns-in-Err-create-clause-err
returns-in-Err-create-clause-err g c =
    let before = g.W.WorldExt.slots c.args.world.now in
    let id = id_of g.bound-3.kind_number 0 in
    let stood = resource-value g.bound-3.part g.bound-3.wrapped g.bound-3-met.only_wrapped before id c.in-Ok.entities.now c.in-Ok.ensures.ok in
    c.write_resource.follows.holds c.create.new.self (ap is_ok c.in-Ok.is)
    ∙ ap (λ births. map.insert before id (Some (g.bound-3.wrapped births))) c.in-Err-create.ensures.err
    ∙ insert_value_same before id (g.bound-3.wrapped c.in-Ok.entities.now) stood
