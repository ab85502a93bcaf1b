use Rattle.scene_world.proofs.BirthLemmas.{born-roll, born-scene}
use Rattle.scene_world.proofs.laws.a_birth_is_a_spawn.Goals as goal

pub returns-clause-roll : goal.returns-clause-roll
returns-clause-roll g c kinds w later entity parts is below bears = born-roll kinds w later is below entity parts bears

pub returns-clause-scene : goal.returns-clause-scene
returns-clause-scene g c owning kinds w later entity parts given is below bears live left same = born-scene kinds w later is below entity parts bears owning given live left same
