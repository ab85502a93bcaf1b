use Rattle.scene_world.specs.Places.{kinds_of}
use Rattle.scene_commands.proofs.StandLemmas.{may-stand}
use Rattle.scene_commands.proofs.laws.a_scene_stands_after_commands.Goals as goal

pub returns : goal.returns
returns g c w may admitted readable none = may-stand (kinds_of g.R.Value.SceneValue.places g.R.DocumentRules.part_of g.R.WorldRules.columns) (g.R.DocumentRules.book c.args.rules.now) w (g.met.R.WorldRules.named_so c.args.rules.now).parts may admitted readable none
