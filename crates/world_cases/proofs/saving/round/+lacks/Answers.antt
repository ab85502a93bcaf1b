use Rattle.std.proofs.Common.{sym, ◌∙◌}
use Rattle.world_cases.proofs.RoundLemmas.{lacks-more}
use Rattle.world_cases.proofs.saving.round.+lacks.Goals as goal

pub returns-then-id : goal.returns-then-id
returns-then-id g t c is =
    lacks-more c.args.list.now c.in-Some.rest.now c.in-Some.first.now c.in-Some.ensures.cases.0 c.args.id (λ same. c.if-id.true (same ∙ sym c.id.ensures)) (c.lacks.ensures is)
