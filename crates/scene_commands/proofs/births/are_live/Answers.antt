use Rattle.std.proofs.Common.{ap, ◌∙◌}
use Rattle.scene_model.specs.Laws.{refs_to}
use Rattle.scene_world.specs.Places.{kinds_of}
use Rattle.scene_world.specs.Standing.{roll_of}
use Rattle.scene_commands.specs.Acts.{seen_of}
use Rattle.scene_commands.proofs.LookLemmas.{found-live}
use Rattle.scene_commands.proofs.births.are_live.Goals as goal

pub returns : goal.returns
returns g c =
    c.is_some.ensures ∙ found-live (roll_of (kinds_of g.R.Value.SceneValue.places g.R.DocumentRules.part_of g.R.WorldRules.columns) (seen_of c.args.world.now)) c.as_slice.result.now c.in_ok-found.found (g.R.DocumentRules.part_of c.args.datum.now) (ap refs_to c.as_slice.ensures.value ∙ c.in_ok-refs.ensures) c.in_ok-found.ensures
