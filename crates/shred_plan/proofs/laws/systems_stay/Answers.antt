use Rattle.shred_plan.proofs.StayLemmas.{systems-stay}
use Rattle.shred_plan.proofs.laws.systems_stay.Goals as goal

pub returns : goal.returns
returns g c = systems-stay g.K.PartialEq.eq
