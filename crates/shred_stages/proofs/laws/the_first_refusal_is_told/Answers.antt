use Rattle.shred_stages.proofs.ListLemmas.{stages-refused}
use Rattle.shred_stages.proofs.laws.the_first_refusal_is_told.Goals as goal

pub returns : goal.returns
returns g c = stages-refused _
