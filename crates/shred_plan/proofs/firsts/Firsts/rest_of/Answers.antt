use Rattle.std.proofs.Common.{ap, sym, ◌∙◌}
use Rattle.shred_plan.specs.Index.{stood_before}
use Rattle.shred_plan.proofs.TableLemmas.{rest-kept, rest-left}
use Rattle.shred_plan.proofs.firsts.Firsts.rest_of.Goals as goal
use Rattle.shred_plan.proofs.firsts.Firsts.rest_of.Goals.{then-not-stood_before+in_ok-push, else-not-stood_before}

pub loop-number-preserved : goal.loop-number-preserved
loop-number-preserved c =
    let numbers = c.args.numbers.now in
    let i = c.loop-number.number-index in
    let rest = c.loop-number.rest.items in
    elim c.if-not-stood_before.branch [
      | then-not-stood_before+in_ok-push w ↦
          ap (λ list. list.items) w.rest-is ∙ w.in_ok-push.ensures.items
          ∙ rest-kept (λ n. stood_before c.args.self.now.stages n c.args.stage) numbers rest i c.loop-number-test.true c.loop-number.invariant (sym c.stood_before.ensures ∙ w.if-not-stood_before.true)
      | else-not-stood_before w ↦
          ap (λ list. list.items) w.rest-is
          ∙ rest-left (λ n. stood_before c.args.self.now.stages n c.args.stage) numbers rest i c.loop-number-test.true c.loop-number.invariant (sym c.stood_before.ensures ∙ w.if-not-stood_before.false)
    ]
