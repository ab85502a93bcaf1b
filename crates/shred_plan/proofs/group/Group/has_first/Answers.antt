use Rattle.std.proofs.Common.{sym, ◌∙◌}
use Rattle.shred_plan.proofs.RestLemmas.{completes-missing}
use Rattle.shred_plan.proofs.group.Group.has_first.Goals as goal

pub returns-in-Some : goal.returns-in-Some
returns-in-Some g c = λ no.
    completes-missing c.args.self.now c.args.rest.now c.in-Some.first.now (c.in-Some.ensures.item.3.0) (c.in-Some.ensures.item.1) (sym c.has_number.ensures ∙ no)
