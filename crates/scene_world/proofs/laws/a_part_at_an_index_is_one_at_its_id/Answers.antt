use Rattle.scene_world.proofs.PartLemmas.{scene-set}
use Rattle.scene_world.proofs.laws.a_part_at_an_index_is_one_at_its_id.Goals as goal

pub returns : goal.returns
returns g c kinds w later kind id index part is known there sets = scene-set kinds w later is kind known id index there part sets
