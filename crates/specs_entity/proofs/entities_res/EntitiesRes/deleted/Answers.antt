use Rattle.std.proofs.Common.{eqb, ap, ◌∙◌, rules, subst, sym}
use Rattle.std.specs.List.{list_any}
use Rattle.specs_entity.specs.Births.{CanKill, indices_of, living}
use Rattle.specs_entity.specs.Layout.{AreBirths}
use Rattle.specs_entity.proofs.DeathLemmas.{deleted-indices, deleted-killable, walked-deletions}
use Rattle.specs_entity.proofs.entities_res.EntitiesRes.deleted.Goals as goal

pub returns-clause-value : goal.returns-clause-value
returns-clause-value c = search rules

pub returns-clause-killable : goal.returns-clause-killable
returns-clause-killable c =
    subst (CanKill (living c.args.self.now)) (sym (returns-clause-value c))
    (deleted-killable c.args.self.now (subst AreBirths c.self.view_is c.self.invariant.births))

pub returns-clause-named : goal.returns-clause-named
returns-clause-named c = λ index.
    ap (λ entities. list_any (λ other. eqb index other) (indices_of entities)) (returns-clause-value c)
    ∙ (ap (list_any (λ other. eqb index other)) (deleted-indices c.args.self.now)
    ∙ walked-deletions c.args.self.now (subst AreBirths c.self.view_is c.self.invariant.births) index)
