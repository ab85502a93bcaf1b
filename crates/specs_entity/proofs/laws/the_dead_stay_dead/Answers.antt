use Rattle.specs_entity.proofs.LawLemmas.{dead-stays}
use Rattle.specs_entity.proofs.laws.the_dead_stay_dead.Goals as goal

pub returns : goal.returns
returns c = dead-stays c.args.entity
