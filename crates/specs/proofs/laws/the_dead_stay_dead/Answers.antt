use Rattle.specs.proofs.HistoryLemmas.{dead-along}
use Rattle.specs.proofs.laws.the_dead_stay_dead.Goals as goal

pub returns : goal.returns
returns c = dead-along c.args.entity
