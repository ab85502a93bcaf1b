use Rattle.std.proofs.Common.{sym, subst}
use Rattle.specs_entity.specs.Births.{CanKill, living}
use Rattle.specs_world.proofs.DeletingLemmas.{fall-refused}
use Rattle.specs_world.proofs.deleting.close_registered.Goals as goal

pub returns-in-Err-clause-refused : goal.returns-in-Err-clause-refused
returns-in-Err-clause-refused g c =
    fall-refused c.args.births.now c.closure.new.self _ _ c.args.roots.now c.deref.result.now c.in-Err.error c.closure.ensures.same
    (subst (CanKill (living c.args.births.now)) (sym c.deref.ensures.value) c.in_ok-entities.ensures.killable) c.in_ok-entities.ensures.value.rooted c.in-Err.ensures.refused
