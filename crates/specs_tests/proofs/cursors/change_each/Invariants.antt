use Rattle.std.proofs.Common.{length}
use Rattle.specs_join.specs.Cursors.{CanGoOn, indices_left}
use Rattle.specs_tests.proofs.cursors.change_each.Given as goal

abbrev pub invariant-loop-cursor : goal.invariant-loop-cursor
invariant-loop-cursor g l =
    CanGoOn g.R.Mask.BitSetLike.members g.R.Join.value_at l.cursor
    × goal.F-IsAlwaysCallable g l.change

abbrev pub decreases-loop-cursor : goal.decreases-loop-cursor
decreases-loop-cursor g l = length (indices_left g.R.Mask.BitSetLike.members l.cursor)
