use Rattle.std.proofs.Common.{◌≡◌, take}
use Rattle.scene_world.specs.Markers.{marker_at}
use Rattle.scene.specs.Taken.{marks_at}
use Rattle.scene.proofs.changes.entries_at.Given as goal

-- the ids at the indices so far
abbrev pub invariant-loop-pair : goal.invariant-loop-pair
invariant-loop-pair l = l.entries.items ≡ marks_at (marker_at l.markers) (take l.pair-index l.touched)
