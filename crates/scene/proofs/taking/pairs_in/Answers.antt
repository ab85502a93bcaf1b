use Rattle.std.proofs.Common.{IfOk}
use Rattle.std.proofs.lemmas.Result.{IfOk-weaker}
use Rattle.scene_world.specs.Places.{kinds_of}
use Rattle.scene_commands.specs.Acts.{seen_of}
use Rattle.scene_world.specs.Standing.{roll_of}
use Rattle.scene.proofs.KeepLemmas.{all-pairs}
use Rattle.scene.proofs.taking.pairs_in.Goals as goal

pub returns : goal.returns
returns g c =
    let roll = roll_of (kinds_of g.R.Value.SceneValue.places g.R.DocumentRules.part_of g.R.WorldRules.columns) (seen_of c.args.world.now) in
    IfOk-weaker c.pairs_of.result _ _ (λ pairs are. all-pairs roll c.requires.stands.roll c.in_ok-markers.markers.now c.in_ok-markers.ensures.each pairs.items are) c.pairs_of.ensures
