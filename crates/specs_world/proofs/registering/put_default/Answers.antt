use Rattle.std.proofs.Common.{sym, ◌∙◌}
use Rattle.specs_world.proofs.ResourceLemmas.{default-put, is-new}
use Rattle.specs_world.proofs.registering.put_default.Goals as goal
use Rattle.specs_storage.proofs.PartLemmas.{none-of}

pub returns-in_ok-put-in-Ok-clause-ok : goal.returns-in_ok-put-in-Ok-clause-ok
returns-in_ok-put-in-Ok-clause-ok g c =
    let made = c.in_ok-put-in-Ok.ensures.ok in
    default-put _ _ _ c.args.world.now c.put.new.world made.0 (none-of _ (sym c.has_value.ensures ∙ c.if-has_value.false))
    (is-new g.T.Storage.TryDefault.is_default g.T.Storage.UnprotectedStorage.part_at c.in-Ok.layout c.in-Ok.ensures.value made.0 made.1) made.2
