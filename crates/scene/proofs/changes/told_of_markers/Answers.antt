use Rattle.std.proofs.Common.{nat_cmp, ap, ◌∙◌}
use Rattle.std.specs.FinSet as set
use Rattle.scene_world.specs.Markers.{marker_log}
use Rattle.scene_world.specs.Telling.{is_told}
use Rattle.hibitset_sets.specs.BitSet.{has_member}
use Rattle.scene.proofs.LoopLemmas.{from-empty}
use Rattle.scene.proofs.changes.told_of_markers.Goals as goal

pub returns : goal.returns
returns c index =
    c.in_ok-told_indices.ensures.ok index
    ∙ from-empty (has_member c.new-told.result index) (is_told (marker_log c.args.markers.now) c.args.reader.now index) (ap (λ members. set.contains members index) c.new-told.ensures.members ∙ set.contains-empty nat_cmp index)
