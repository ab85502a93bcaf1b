use Rattle.scene_world.proofs.RollLemmas.{alive-reaches, stale-gone}
use Rattle.scene_world.proofs.laws.an_entity_is_the_reference_to_its_id.Goals as goal

pub returns-clause-alive : goal.returns-clause-alive
returns-clause-alive c roll entity id alive marks = alive-reaches roll entity id alive marks

pub returns-clause-stale : goal.returns-clause-stale
returns-clause-stale c roll entity dead = stale-gone roll entity dead
