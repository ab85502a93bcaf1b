use Rattle.shred.specs.Building.{nothing_built}
use Rattle.shred.proofs.HistoryLemmas.{planned}
use Rattle.shred.proofs.laws.builders_plan.Goals as goal

pub returns : goal.returns
returns g c list = planned _ nothing_built list
