use Rattle.shred_plan.proofs.WaitLemmas.{systems-wait}
use Rattle.shred_plan.proofs.laws.systems_wait.Goals as goal

pub returns : goal.returns
returns g c = systems-wait g.K.PartialEq.eq
