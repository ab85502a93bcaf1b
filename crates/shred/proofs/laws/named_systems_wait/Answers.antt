use Rattle.shred.proofs.HistoryLemmas.{named-wait}
use Rattle.shred.proofs.laws.named_systems_wait.Goals as goal

pub returns : goal.returns
returns g c list = named-wait _ list
