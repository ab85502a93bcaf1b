use Rattle.std.proofs.Common.{arith}
use Rattle.std.proofs.lemmas.Bool.{not-true, eqb-false}
use Rattle.shred_plan.proofs.StageSetLemmas.{two-bits}
use Rattle.shred_plan.proofs.stage_set.has_two_bits.Goals as goal

pub returns : goal.returns
returns c = λ more.
    let word = c.args.word in
    two-bits word (omega arith) c.if-word-eq0.false (eqb-false _ 0 (not-true _ more))
