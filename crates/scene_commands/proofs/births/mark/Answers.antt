use Rattle.std.proofs.Common.{Some, subst}
use Rattle.specs_layouts.specs.Parts.{Puts}
use Rattle.scene_world.specs.Places.{kinds_of}
use Rattle.scene_commands.proofs.LendLemmas.{lent-mark}
use Rattle.scene_commands.proofs.births.mark.Goals as goal

pub returns : goal.returns
returns g c =
    lent-mark (kinds_of g.R.Value.SceneValue.places g.R.DocumentRules.part_of g.R.WorldRules.columns) c.args.world.now _ c.markers_id.result c.markers_id.ensures
    c.get_mut_raw.result c.in-Some.value c.in-Some.is c.get_mut_raw.ensures.value c.insert_marker.new.value (c.get_mut_raw.follows.holds c.insert_marker.new.value) c.args.index (Some c.args.given)
    c.in_ok-insert_marker.ensures.shown
    (subst (λ marker. Puts (g.R.Value.SceneValue.places.marker c.in-Some.value.now) c.args.index (Some marker) (g.R.Value.SceneValue.places.marker c.insert_marker.new.value)) c.new.ensures c.in_ok-insert_marker.ensures.puts)
