use Rattle.std.proofs.Common.{sym, ◌∙◌}
use Rattle.std.proofs.lemmas.Result.{on_ok_weaker}
use Rattle.specs_world.proofs.ResourceLemmas.{default-there, default-weaker, is-new}
use Rattle.specs_world.proofs.registering.register_default.Goals as goal

pub returns-then-has_value-clause-ok : goal.returns-then-has_value-clause-ok
returns-then-has_value-clause-ok g c =
    on_ok_weaker c.enter.result (λ entered. (c.args.world.now, default-there _ _ _ c.args.world.now (sym c.has_value.ensures ∙ c.if-has_value.true), entered)) c.enter.ensures.ok

pub returns-in-Ok-clause-ok : goal.returns-in-Ok-clause-ok
returns-in-Ok-clause-ok g c =
    on_ok_weaker c.put_and_enter.result
    (λ made. (made.0, default-weaker _ _ _ _ _ _ (is-new g.T.Storage.TryDefault.is_default g.T.Storage.UnprotectedStorage.part_at c.in-Ok.layout c.in-Ok.ensures.value) made.1, made.2))
    c.put_and_enter.ensures.ok
