use Rattle.std.proofs.Common.{length, true, Some}
use Rattle.specs_join.specs.Cursors.{CanGoOn, indices_left}
use Rattle.specs_tests.proofs.changes.double.Given as goal

abbrev pub invariant-loop-cursor : goal.invariant-loop-cursor
invariant-loop-cursor l =
    CanGoOn (λ _ _. true) (λ _ _. Some (tt {0})) l.cursor

abbrev pub decreases-loop-cursor : goal.decreases-loop-cursor
decreases-loop-cursor l = length (indices_left (λ _ _. true) l.cursor)
