use Rattle.std.proofs.Common.{rules, subst}
use Rattle.specs_entity.specs.Layout.{AreBirths}
use Rattle.specs_entity.proofs.NewLemmas.{created-lives, create-continues, created-brings, still-lives}
use Rattle.specs_entity.proofs.entities_res.EntitiesRes.next_entity.Goals as goal

pub returns-clause-left : goal.returns-clause-left
returns-clause-left c = search rules

pub returns-clause-lives : goal.returns-clause-lives
returns-clause-lives c = created-lives c.args.self.now (subst AreBirths c.self.view_is c.self.invariant.births) (returns-clause-left c)

pub returns-clause-continues : goal.returns-clause-continues
returns-clause-continues c = create-continues c.args.self.now (subst AreBirths c.self.view_is c.self.invariant.births) (returns-clause-left c)

pub returns-clause-brings : goal.returns-clause-brings
returns-clause-brings c = created-brings c.args.self.now (subst AreBirths c.self.view_is c.self.invariant.births) (returns-clause-left c)

pub returns-clause-live_on : goal.returns-clause-live_on
returns-clause-live_on c = still-lives c.args.self.now (subst AreBirths c.self.view_is c.self.invariant.births) (returns-clause-left c)
