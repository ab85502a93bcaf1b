use Rattle.std.proofs.Common.{rules, Some}
use Rattle.hibitset.proofs.CallerLemmas.{if_ok}
use Rattle.specs_join.proofs.join.par_join.answer_next.Goals as goal

pub returns : goal.returns
returns g c = if_ok c.with_answer.result c.with_answer.ensures (λ v is.
    (c.in_ok-list.list, Some c.in-Some.item, (let was = c.in_ok-list.was in let same = c.in_ok-list.is in search rules), c.in-Some.ensures, (c.f.result, c.f.ensures, is)))
