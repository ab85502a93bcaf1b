use Rattle.specs.proofs.HistoryLemmas.{along}
use Rattle.specs.proofs.laws.calls_continue.Goals as goal

pub returns : goal.returns
returns c = along
