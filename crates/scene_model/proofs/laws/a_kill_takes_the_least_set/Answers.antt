use Rattle.scene_model.proofs.DeathLemmas.{dying-least, dying-live, least-killed}
use Rattle.scene_model.specs.Deaths.{dies_with}
use Rattle.scene_model.proofs.laws.a_kill_takes_the_least_set.Goals as goal

pub returns-clause-least : goal.returns-clause-least
returns-clause-least c owning scene id = dying-least owning scene id

pub returns-clause-living : goal.returns-clause-living
returns-clause-living c owning scene id one alive dies = dying-live owning scene id alive one dies

pub returns-clause-killed : goal.returns-clause-killed
returns-clause-killed c owning scene id alive = least-killed owning scene id (dies_with owning scene id) (dying-least owning scene id) alive
