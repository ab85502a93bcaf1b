use Rattle.std.proofs.Common.{None, refl}
use Rattle.shred_stages.proofs.CallerLemmas.{neighbours-commute, turns-commute}
use Rattle.shred.proofs.laws.systems_apart_commute.Goals as goal

pub returns-clause-turns : goal.returns-clause-turns
returns-clause-turns g c one other before between after stop stop2 differ apart = turns-commute _ one other differ apart before between after stop stop2

pub returns-clause-neighbours : goal.returns-clause-neighbours
returns-clause-neighbours g c early late one other before after differ apart = neighbours-commute _ one other differ apart early late before after None refl
