use Rattle.scene_world.specs.Places.{kinds_of}
use Rattle.scene_world.specs.Standing.{plain_of}
use Rattle.scene_commands.specs.Acts.{seen_of}
use Rattle.scene.proofs.SpareLemmas.{none-found}
use Rattle.scene.proofs.commands.look.Goals as goal

pub returns-then-not-kills-clause-ok : goal.returns-then-not-kills-clause-ok
returns-then-not-kills-clause-ok g c = none-found (g.R.DocumentRules.book c.args.rules.now) (plain_of (kinds_of g.R.Value.SceneValue.places g.R.DocumentRules.part_of g.R.WorldRules.columns) (seen_of c.args.world.now)) (c.requires.spared c.if-not-kills.true)
