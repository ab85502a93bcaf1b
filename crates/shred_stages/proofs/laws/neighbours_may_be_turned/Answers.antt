use Rattle.shred_stages.proofs.NeighbourLemmas.{same-itself, same-turned, same-again}
use Rattle.shred_stages.proofs.laws.neighbours_may_be_turned.Goals as goal

pub returns-clause-itself : goal.returns-clause-itself
returns-clause-itself g c = same-itself _

pub returns-clause-turned : goal.returns-clause-turned
returns-clause-turned g c early late one other free = same-turned _ one other late free early

pub returns-clause-again : goal.returns-clause-again
returns-clause-again g c = same-again _
