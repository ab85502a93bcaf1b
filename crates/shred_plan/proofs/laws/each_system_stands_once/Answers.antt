use Rattle.shred_plan.proofs.LawLemmas.{stands-once}
use Rattle.shred_plan.proofs.laws.each_system_stands_once.Goals as goal

pub returns : goal.returns
returns g c = stands-once g.K.PartialEq.eq
