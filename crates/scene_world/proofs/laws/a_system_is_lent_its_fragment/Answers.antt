use Rattle.scene_world.proofs.PlaceLemmas.{lent-ids}
use Rattle.scene_world.proofs.StandingLemmas.{lent-fragment}
use Rattle.scene_world.proofs.laws.a_system_is_lent_its_fragment.Goals as goal

pub returns-clause-lent : goal.returns-clause-lent
returns-clause-lent g c kinds access position apart known = lent-ids kinds apart access position known

pub returns-clause-fragment : goal.returns-clause-fragment
returns-clause-fragment g c kinds access position reads writes w lent whole = lent-fragment kinds access position reads writes lent w whole
