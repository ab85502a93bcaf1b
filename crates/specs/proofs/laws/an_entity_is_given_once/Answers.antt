use Rattle.specs.proofs.HistoryLemmas.{born-along}
use Rattle.specs.proofs.laws.an_entity_is_given_once.Goals as goal

pub returns : goal.returns
returns c = born-along c.args.entity
