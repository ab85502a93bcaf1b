use Rattle.std.proofs.Common.{subst}
use Rattle.specs_entity.specs.Births.{Births, LivesBut, is_named}
use Rattle.specs_entity.proofs.entities_res.EntitiesRes.kill.Goals as goal

pub returns-in-Ok-clause-lives : goal.returns-in-Ok-clause-lives
returns-in-Ok-clause-lives c = subst (λ (b : Births). LivesBut (is_named c.args.entities.now) b c.bury_each.new.self) c.test_kill.ensures.same c.bury_each.ensures.lives
