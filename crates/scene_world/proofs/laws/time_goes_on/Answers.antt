use Rattle.scene_world.proofs.AgeLemmas.{ages-none, ages-both, ages-by-death, ages-by-birth}
use Rattle.scene_world.proofs.laws.time_goes_on.Goals as goal

pub returns-clause-none : goal.returns-clause-none
returns-clause-none c roll = ages-none roll

pub returns-clause-both : goal.returns-clause-both
returns-clause-both c first second third one two = ages-both first second third one two

pub returns-clause-death : goal.returns-clause-death
returns-clause-death c before after index births lives marker = ages-by-death before after index births lives marker

pub returns-clause-birth : goal.returns-clause-birth
returns-clause-birth c before after entity given unborn births lives marker = ages-by-birth before after entity given unborn births lives marker
