use Rattle.std.proofs.Common.{rules, subst, sym}
use Rattle.specs_entity.specs.Births.{CanKill, living}
use Rattle.specs_entity.proofs.DeathLemmas.{living-killable}
use Rattle.specs_entity.proofs.entities_res.EntitiesRes.living_entities.Goals as goal

pub returns-clause-value : goal.returns-clause-value
returns-clause-value c = search rules

pub returns-clause-killable : goal.returns-clause-killable
returns-clause-killable c = subst (CanKill (living c.args.self.now)) (sym (returns-clause-value c)) (living-killable c.args.self.now)
