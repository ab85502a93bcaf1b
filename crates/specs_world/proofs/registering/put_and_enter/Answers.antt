use Rattle.std.proofs.Common.{is_some, ap, ◌∙◌}
use Rattle.std.specs.FinMap as map
use Rattle.shred_world.specs.ResourceIds.{id_of}
use Rattle.shred_world.specs.Worlds.{resource_at}
use Rattle.specs_world.specs.Resources.{without_put}
use Rattle.specs_world.proofs.ResourceLemmas.{resource-put, resource-kept, put-back-out, default-put}
use Rattle.specs_world.proofs.registering.put_and_enter.Goals as goal

pub enter_or_take_back-requires-clause-there : goal.enter_or_take_back-requires-clause-there
enter_or_take_back-requires-clause-there g c =
    let made = c.in_ok-put.ensures.ok in
    let id = id_of g.bound-5.kind_number 0 in
    ap (λ w. is_some (resource_at g.bound-5.part w id)) made.2 ∙ ap is_some (resource-put g.bound-5.part g.bound-5.wrapped g.bound-5-met.seen c.args.world.now id made.0)

pub enter_or_take_back-requires-clause-table : goal.enter_or_take_back-requires-clause-table
enter_or_take_back-requires-clause-table g c =
    let made = c.in_ok-put.ensures.ok in
    ap (λ w. is_some (resource_at g.bound-4.part w (id_of g.bound-4.kind_number 0))) made.2
    ∙ resource-kept g.bound-4.part c.args.world.now (id_of g.bound-5.kind_number 0) (g.bound-5.wrapped made.0) (id_of g.bound-4.kind_number 0) c.requires.absent c.requires.table

pub returns-in-Ok-clause-ok : goal.returns-in-Ok-clause-ok
returns-in-Ok-clause-ok g c =
    let made = c.in_ok-put.ensures.ok in
    (c.put.new.world, default-put _ g.bound-5.wrapped (id_of g.bound-5.kind_number 0) c.args.world.now c.put.new.world made.0 c.requires.absent made.1 made.2, c.in-Ok.ensures.ok)

pub returns-in-Err-clause-err : goal.returns-in-Err-clause-err
returns-in-Err-clause-err g c =
    let made = c.in_ok-put.ensures.ok in
    let id = id_of g.bound-5.kind_number 0 in
    c.in-Err.ensures.err ∙ ap (λ w. without_put w id c.has_slot-had_slot.result) made.2
    ∙ put-back-out c.args.world.now id (g.bound-5.wrapped made.0) c.has_slot-had_slot.result (c.has_slot-had_slot.ensures ∙ ap (λ q. is_some (map.get c.args.world.now q)) c.new.ensures) c.requires.absent
