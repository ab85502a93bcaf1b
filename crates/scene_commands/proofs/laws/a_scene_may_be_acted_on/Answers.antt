use Rattle.scene_world.specs.Places.{kinds_of}
use Rattle.scene_commands.proofs.StandLemmas.{may-begin}
use Rattle.scene_commands.proofs.laws.a_scene_may_be_acted_on.Goals as goal

pub returns : goal.returns
returns g c w stands = may-begin (kinds_of g.R.Value.SceneValue.places g.R.DocumentRules.part_of g.R.WorldRules.columns) (g.R.DocumentRules.book c.args.rules.now) w stands
