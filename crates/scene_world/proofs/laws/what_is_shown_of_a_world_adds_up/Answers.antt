use Rattle.scene_world.proofs.ShownLemmas.{world-stays, world-both, tells-on}
use Rattle.scene_world.proofs.laws.what_is_shown_of_a_world_adds_up.Goals as goal

pub returns-clause-none : goal.returns-clause-none
returns-clause-none g c kinds w = world-stays kinds w

pub returns-clause-both : goal.returns-clause-both
returns-clause-both g c kinds first second third one two = world-both kinds first second third one two

pub returns-clause-telling : goal.returns-clause-telling
returns-clause-telling g c kinds w later shown tells = tells-on kinds w later shown tells
