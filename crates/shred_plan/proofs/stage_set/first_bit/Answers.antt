use Rattle.std.proofs.Common.{arith}
use Rattle.shred_plan.proofs.StageSetLemmas.{none-left, first-left}
use Rattle.shred_plan.proofs.stage_set.first_bit.Goals as goal

pub returns-then-rest-eq0-clause-passed : goal.returns-then-rest-eq0-clause-passed
returns-then-rest-eq0-clause-passed c = λ bit from upto. none-left c.args.word c.args.from bit (omega (arith, c.if-rest-eq0.true)) from

pub returns-else-rest-eq0-clause-end : goal.returns-else-rest-eq0-clause-end
returns-else-rest-eq0-clause-end c = (first-left c.args.word c.args.from c.ranges.word.fits c.if-rest-eq0.false).end

pub returns-else-rest-eq0-clause-passed : goal.returns-else-rest-eq0-clause-passed
returns-else-rest-eq0-clause-passed c = (first-left c.args.word c.args.from c.ranges.word.fits c.if-rest-eq0.false).passed

pub returns-else-rest-eq0-clause-found : goal.returns-else-rest-eq0-clause-found
returns-else-rest-eq0-clause-found c = λ below. (first-left c.args.word c.args.from c.ranges.word.fits c.if-rest-eq0.false).found
