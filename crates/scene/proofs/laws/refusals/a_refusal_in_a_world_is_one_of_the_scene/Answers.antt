use Rattle.scene_world.specs.Places.{kinds_of}
use Rattle.scene_world.proofs.CallerLemmas.{same-owning}
use Rattle.scene.proofs.CommandLemmas.{refused-plain}
use Rattle.scene.proofs.laws.refusals.a_refusal_in_a_world_is_one_of_the_scene.Goals as goal

pub returns : goal.returns
returns g c = refused-plain (kinds_of g.R.Value.SceneValue.places g.R.DocumentRules.part_of g.R.WorldRules.columns) (g.R.DocumentRules.book c.args.rules.now) (same-owning g.R.Value.SceneValue.places g.R.DocumentRules.part_of g.R.WorldRules.columns (g.R.DocumentRules.book c.args.rules.now) (g.met.R.WorldRules.named_so c.args.rules.now))
