use Rattle.std.proofs.Common.{IfOk, ap, subst, ◌∙◌}
use Rattle.std.specs.List.{AllZip}
use Rattle.hibitset.proofs.CallerLemmas.{if_ok, zip-map}
use Rattle.specs_join.specs.Collected.{Answers}
use Rattle.specs_join.proofs.CollectLemmas.{members-joined}
use Rattle.specs_join.proofs.join.par_join.JoinParIter.collect.Goals as goal

pub returns-clause-each : goal.returns-clause-each
returns-clause-each g c =
    subst (λ shown. IfOk c.in_ok-fold_parts.field-0 (λ v. AllZip (Answers g.J.Join.show (λ item t. goal.F-post g c.args.f item t)) shown v.items))
    (members-joined (g.J.Mask.BitSetLike.members c.open-mask.result.0) (g.J.Join.joins c.args.self.0) (g.J.Join.value_at c.open-mask.result.1) c.open-mask.ensures.mask c.open-mask.ensures.values)
    c.in_ok-fold_parts.ensures

pub returns-clause-plain : goal.returns-clause-plain
returns-clause-plain g c = λ answer determined. if_ok c.in_ok-fold_parts.field-0 (returns-clause-each g c) (λ v each.
    zip-map _ answer (λ shown t given. determined given.0 t given.2 ∙ ap answer given.1) _ v.items each)
