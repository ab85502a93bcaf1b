use Rattle.scene_world.proofs.StandingLemmas.{left-scene}
use Rattle.scene_world.proofs.laws.what_comes_back_is_put_in.Goals as goal

pub returns : goal.returns
returns g c kinds access position reads writes w after later lent whole left back = left-scene kinds access position reads writes lent w whole after later left back
