use Rattle.std.proofs.Common.{sym, arith}
use Rattle.shred_plan.proofs.RestLemmas.{completes-longer}
use Rattle.shred_plan.proofs.group.Group.completes.Goals as goal

pub returns-then-rest-len : goal.returns-then-rest-len
returns-then-rest-len g c = sym (completes-longer c.args.self.now c.args.rest.now (omega arith))
