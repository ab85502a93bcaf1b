use Rattle.shred.proofs.HistoryLemmas.{none-passed-over}
use Rattle.shred.proofs.laws.no_name_is_passed_over.Goals as goal

pub returns : goal.returns
returns g c building name after e = none-passed-over building name after e
