use Rattle.std.proofs.Common.{sym, subst}
use Rattle.std.proofs.lemmas.Result.{on_ok_weaker}
use Rattle.specs_layouts.specs.Parts.{HasNone}
use Rattle.specs_world.proofs.registering.put.Goals as goal

pub returns-clause-ok : goal.returns-clause-ok
returns-clause-ok g c =
    on_ok_weaker c.insert.result (λ is.
    (c.new.result, record { layout = c.new.ensures; parts = subst (λ layout. HasNone (g.T.Storage.UnprotectedStorage.part_at layout)) (sym c.new.ensures) c.requires.empty }, is))
    c.insert.ensures.ok
