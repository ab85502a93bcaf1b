use Rattle.std.proofs.Common.{◌∙◌}
use Rattle.world_cases.proofs.RoundLemmas.{apart-more}
use Rattle.world_cases.proofs.saving.round.+are_apart.Goals as goal

pub returns-then-lacks : goal.returns-then-lacks
returns-then-lacks g t c is =
    apart-more c.args.list.now c.in-Some.rest.now c.in-Some.first.now c.in-Some.ensures.cases.0
    (λ other among same. c.lacks.ensures c.if-lacks.true other among (c.id.ensures ∙ same)) (c.are_apart.ensures is)
