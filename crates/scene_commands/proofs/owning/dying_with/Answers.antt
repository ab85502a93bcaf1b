use Rattle.std.proofs.Common.{ap, ◌∙◌}
use Rattle.scene_world.specs.Places.{kinds_of}
use Rattle.scene_model.specs.Declaring.{texts}
use Rattle.scene_commands.specs.Acts.{seen_of}
use Rattle.scene_commands.specs.Owning.{pairs_among}
use Rattle.scene_commands.proofs.FallLemmas.{fallen-dying}
use Rattle.scene_commands.proofs.owning.dying_with.Goals as goal

pub returns : goal.returns
returns g c =
    let kinds = kinds_of g.R.Value.SceneValue.places g.R.DocumentRules.part_of g.R.WorldRules.columns in
    fallen-dying kinds g.met.R.WorldRules.apart c.args.world.now c.fallen_with.new.world c.requires.may (texts c.args.names.now) c.requires.alike c.args.entity
    c.in_ok-reached.reached.entities.items c.in_ok-pairs.pairs.items c.as_slice-2.result.now c.in_ok-entities.entities.items c.as_slice-3.result.now c.in_ok-ids.ids.items
    c.in_ok-reached.ensures (c.in_ok-pairs.ensures ∙ ap (pairs_among kinds (seen_of c.args.world.now) (texts c.args.names.now)) c.as_slice.ensures.value) c.as_slice-2.ensures.value c.in_ok-entities.ensures c.as_slice-3.ensures.value c.in_ok-ids.ensures
