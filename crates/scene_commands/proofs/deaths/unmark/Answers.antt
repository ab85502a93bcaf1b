use Rattle.std.proofs.Common.{None}
use Rattle.scene_world.specs.Places.{kinds_of}
use Rattle.scene_commands.proofs.LendLemmas.{lent-mark}
use Rattle.scene_commands.proofs.deaths.unmark.Goals as goal

pub returns : goal.returns
returns g c =
    lent-mark (kinds_of g.R.Value.SceneValue.places g.R.DocumentRules.part_of g.R.WorldRules.columns) c.args.world.now _ c.markers_id.result c.markers_id.ensures
    c.get_mut_raw.result c.in-Some.value c.in-Some.is c.get_mut_raw.ensures.value c.drop_marker.new.value (c.get_mut_raw.follows.holds c.drop_marker.new.value) c.args.index None
    c.in_ok-drop_marker.ensures.shown c.in_ok-drop_marker.ensures.takes
