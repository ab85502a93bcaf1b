use Rattle.std.proofs.Common.{sym, ◌∙◌}
use Rattle.std.proofs.lemmas.Result.{on_ok_weaker}
use Rattle.specs_world.proofs.ResourceLemmas.{default-there, default-weaker, is-new}
use Rattle.specs_world.proofs.world_ext.WorldWorldExt.register_with_storage.Goals as goal

pub returns-then-has_value-clause-ok : goal.returns-then-has_value-clause-ok
returns-then-has_value-clause-ok g c =
    on_ok_weaker c.enter_there.result (λ entered. (c.args.self.now, default-there _ _ _ c.args.self.now (sym c.has_value.ensures ∙ c.if-has_value.true), entered)) c.enter_there.ensures.ok

pub returns-clause-ok : goal.returns-clause-ok
returns-clause-ok g c =
    let made = c.in_ok-put_and_enter.ensures.ok in
    (made.0, default-weaker _ _ _ _ _ _ (is-new _ g.T.Storage.UnprotectedStorage.part_at c.make.result c.make.ensures) made.1, made.2)
