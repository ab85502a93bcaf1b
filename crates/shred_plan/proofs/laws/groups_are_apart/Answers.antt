use Rattle.shred_plan.proofs.LawLemmas.{groups-apart}
use Rattle.shred_plan.proofs.laws.groups_are_apart.Goals as goal

pub returns : goal.returns
returns g c = groups-apart g.K.PartialEq.eq
