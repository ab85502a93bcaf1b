use Rattle.std.proofs.Common.{length}
use Rattle.specs_storage.specs.EntryCursors.{indices_left}
use Rattle.specs_tests.proofs.entries.sum.Given as goal

abbrev pub decreases-loop-cursor : goal.decreases-loop-cursor
decreases-loop-cursor g l = length (indices_left g.R.Mask.BitSetLike.members l.cursor)
