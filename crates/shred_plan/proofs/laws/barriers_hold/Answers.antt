use Rattle.shred_plan.proofs.StayLemmas.{fences-hold}
use Rattle.shred_plan.proofs.laws.barriers_hold.Goals as goal

pub returns : goal.returns
returns g c = fences-hold g.K.PartialEq.eq
