use Rattle.scene_basics.specs.Systems.{system_named}
use Rattle.scene_basics.proofs.LawLemmas.{Makes-same}
use Rattle.scene_basics.proofs.laws.a_turn_has_one_outcome.Goals as goal

pub returns : goal.returns
returns c = λ kind config facts is old sound one other. Makes-same facts.access (system_named kind) old one other
