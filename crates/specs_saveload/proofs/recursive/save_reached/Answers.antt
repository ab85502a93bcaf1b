use Rattle.std.proofs.Common.{inr}
use Rattle.std.proofs.lemmas.Result.{IfErr-weaker, IfOk-weaker}
use Rattle.specs_saveload.proofs.AskLemmas.{leaves-all}
use Rattle.specs_saveload.proofs.RecursionLemmas.{only-memory, saves-reached}
use Rattle.specs_saveload.proofs.recursive.save_reached.Goals as goal

pub returns-in-Ok-clause-ok : goal.returns-in-Ok-clause-ok
returns-in-Ok-clause-ok g c =
    IfOk-weaker c.save_each.result _ _
    (λ saved is. saves-reached _ _ _ _ _ _ _ _ _ _ _ c.in-Ok.ensures.ok c.in-Ok.ensures.asks saved.items is)
    c.save_each.ensures.ok

pub returns-in-Ok-clause-refused : goal.returns-in-Ok-clause-refused
returns-in-Ok-clause-refused g c =
    IfErr-weaker c.save_each.result _ _ (λ error memory. inr memory)
    (only-memory g.S.SerializeComponents.plain g.S.SerializeComponents.refers_to g.met.S.SerializeComponents.named (g.S.SerializeComponents.parts_at c.args.storages.now) c.args.entities.now _ _ _ c.in-Ok.ensures.ok c.save_each.result c.save_each.ensures.unmarked c.save_each.ensures.refused)

pub returns-in-Ok-clause-leaves : goal.returns-in-Ok-clause-leaves
returns-in-Ok-clause-leaves g c =
    let reached = c.in-Ok.ensures.ok in
    IfErr-weaker c.save_each.result _ _ (λ error why. leaves-all _ _ _ _ _ _ _ _ error reached.0 _ _ _ reached.1 reached.2.entities c.in-Ok.ensures.asks) c.save_each.ensures.refused
