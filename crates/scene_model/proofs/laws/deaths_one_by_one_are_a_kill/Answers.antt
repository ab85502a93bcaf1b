use Rattle.scene_model.proofs.DeathLemmas.{each-killed}
use Rattle.scene_model.proofs.laws.deaths_one_by_one_are_a_kill.Goals as goal

pub returns : goal.returns
returns c owning scene id ids alive least = each-killed owning scene id ids least alive
