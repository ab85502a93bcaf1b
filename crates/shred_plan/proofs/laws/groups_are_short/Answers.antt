use Rattle.shred_plan.proofs.LawLemmas.{groups-short}
use Rattle.shred_plan.proofs.laws.groups_are_short.Goals as goal

pub returns : goal.returns
returns g c = groups-short g.K.PartialEq.eq
