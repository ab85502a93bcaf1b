use Rattle.std.proofs.Common.{◌/◌, sym, ap, ◌∙◌, arith}
use Rattle.std.specs.Int.{bit_at}
use Rattle.shred_plan.proofs.StageSetLemmas.{sixteen-of, is_in-bit}
use Rattle.shred_plan.proofs.stage_set.StageSet.sixteen.Goals as goal

pub returns-clause-of : goal.returns-clause-of
returns-clause-of c = λ bit is.
    let within = sixteen-of c.word.result c.args.stage bit is in
    omega (arith, within.0, within.1)

pub returns-clause-is_in : goal.returns-clause-is_in
returns-clause-is_in c = λ bit is.
    let within = sixteen-of c.word.result c.args.stage bit is in
    is_in-bit c.args.self.now.words.items (c.args.stage / 4) bit (omega (arith, within.1)) (ap (λ word. bit_at word bit) (sym c.word.ensures) ∙ within.2)
