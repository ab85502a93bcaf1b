use Rattle.std.proofs.Common.{subst}
use Rattle.specs_entity.specs.Layout.{AreBirths}
use Rattle.specs_entity.proofs.NewLemmas.{is-new, allocated-lives, allocate-continues, created-lives, create-continues}
use Rattle.specs_entity.proofs.laws.a_birth_is_new.Goals as goal

pub returns-clause-new : goal.returns-clause-new
returns-clause-new c = λ left. is-new c.args.entities.now (subst AreBirths c.entities.view_is c.entities.invariant.births) left

pub returns-clause-allocated : goal.returns-clause-allocated
returns-clause-allocated c = λ left.
    let kept = subst AreBirths c.entities.view_is c.entities.invariant.births in
    (allocated-lives c.args.entities.now kept left, allocate-continues c.args.entities.now kept left)

pub returns-clause-created : goal.returns-clause-created
returns-clause-created c = λ left.
    let kept = subst AreBirths c.entities.view_is c.entities.invariant.births in
    (created-lives c.args.entities.now kept left, create-continues c.args.entities.now kept left)
