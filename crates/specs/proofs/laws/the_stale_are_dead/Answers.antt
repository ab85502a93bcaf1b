use Rattle.specs.proofs.HistoryLemmas.{stale-along}
use Rattle.specs.proofs.laws.the_stale_are_dead.Goals as goal

pub returns : goal.returns
returns c = stale-along c.args.stale c.args.newer
