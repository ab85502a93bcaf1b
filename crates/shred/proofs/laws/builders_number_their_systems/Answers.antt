use Rattle.shred.proofs.WaitLemmas.{built-planned}
use Rattle.shred.proofs.laws.builders_number_their_systems.Goals as goal

pub returns : goal.returns
returns g c list = built-planned _ list
