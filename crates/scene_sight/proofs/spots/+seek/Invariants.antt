use Rattle.std.proofs.Common.{◌+◌, ◌*◌}
use Rattle.scene_sight.proofs.spots.+seek.Given as goal

abbrev pub decreases-seek_value : goal.decreases-seek_value
decreases-seek_value l = 2 * l.depth

abbrev pub decreases-seek_items : goal.decreases-seek_items
decreases-seek_items l = 2 * l.depth + 1

abbrev pub decreases-seek_members : goal.decreases-seek_members
decreases-seek_members l = 2 * l.depth + 1
