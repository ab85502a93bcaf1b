use Rattle.scene_world.proofs.DeathLemmas.{buried-roll, buried-lived, buried-scene}
use Rattle.scene_world.proofs.laws.a_death_takes_one_out.Goals as goal

pub returns-clause-roll : goal.returns-clause-roll
returns-clause-roll g c kinds w later id index is there buries = buried-roll kinds w later is id index there buries

pub returns-clause-lived : goal.returns-clause-lived
returns-clause-lived g c kinds w id index is there = buried-lived kinds w is id index there

pub returns-clause-scene : goal.returns-clause-scene
returns-clause-scene g c kinds w later id index is there buries = buried-scene kinds w later is id index there buries
