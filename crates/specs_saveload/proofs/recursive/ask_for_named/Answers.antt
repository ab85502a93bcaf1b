use Rattle.specs_saveload.proofs.AskLemmas.{some-none}
use Rattle.specs_saveload.proofs.recursive.ask_for_named.Goals as goal

pub returns-in-Err-clause-leaves : goal.returns-in-Err-clause-leaves
returns-in-Err-clause-leaves g c = some-none _ _ _ _ _ _ _ _ _
