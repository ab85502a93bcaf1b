use Rattle.specs_entity.proofs.NewLemmas.{born-stays}
use Rattle.specs_entity.proofs.laws.the_born_stay_born.Goals as goal

pub returns : goal.returns
returns c = λ before after goes born. born-stays before after c.args.entity goes born
