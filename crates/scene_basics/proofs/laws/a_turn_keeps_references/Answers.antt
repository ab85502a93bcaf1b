use Rattle.scene_basics.specs.Systems.{system_named}
use Rattle.scene_basics.proofs.LawLemmas.{Makes-keeps}
use Rattle.scene_basics.proofs.laws.a_turn_keeps_references.Goals as goal

pub returns : goal.returns
returns c = λ kind config old left commands. Makes-keeps (system_named kind) old left commands
