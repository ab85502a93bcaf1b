use Rattle.specs_saveload.proofs.RetrieveLemmas.{none-retrieved}
use Rattle.specs_saveload.proofs.deserialize.find_one.Goals as goal

pub returns-in-Err-clause-leaves : goal.returns-in-Err-clause-leaves
returns-in-Err-clause-leaves g c = none-retrieved _ _ _ _ _ _ _ _
