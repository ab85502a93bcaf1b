use Rattle.std.proofs.Common.{subst}
use Rattle.specs_entity.specs.Layout.{AreBirths}
use Rattle.specs_entity.proofs.LawLemmas.{delete-continues, bury-continues, settle-continues}
use Rattle.specs_entity.proofs.laws.each_step_continues.Goals as goal

pub returns-clause-delete : goal.returns-clause-delete
returns-clause-delete c = delete-continues c.args.entities.now

pub returns-clause-bury : goal.returns-clause-bury
returns-clause-bury c = λ index lives. bury-continues c.args.entities.now index (subst AreBirths c.entities.view_is c.entities.invariant.births) lives

pub returns-clause-settle : goal.returns-clause-settle
returns-clause-settle c = λ index is. settle-continues c.args.entities.now index (subst AreBirths c.entities.view_is c.entities.invariant.births) is
