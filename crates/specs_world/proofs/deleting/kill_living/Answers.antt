use Rattle.std.proofs.Common.{sym, subst}
use Rattle.specs_entity.specs.Births.{CanKill, living}
use Rattle.specs_world.proofs.DeletingLemmas.{whole-refused}
use Rattle.specs_world.proofs.deleting.kill_living.Goals as goal

pub returns-clause-refused : goal.returns-clause-refused
returns-clause-refused g c =
    whole-refused c.args.births.now _ _ c.deref.result.now c.in-Err.error (subst (CanKill (living c.args.births.now)) (sym c.deref.ensures.value) c.in_ok-entities.ensures.killable) c.in-Err.ensures.refused
