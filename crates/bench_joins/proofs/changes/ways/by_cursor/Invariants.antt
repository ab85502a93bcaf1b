use Rattle.std.proofs.Common.{length}
use Rattle.hibitset_sets.specs.BitSet.{has_member}
use Rattle.specs_layouts.specs.Dense.{dense_part}
use Rattle.specs_join.specs.Cursors.{CanGoOn, indices_left}
use Rattle.bench_joins.proofs.changes.ways.by_cursor.Given as goal

abbrev pub invariant-loop-cursor : goal.invariant-loop-cursor
invariant-loop-cursor l = CanGoOn (λ mask. has_member mask.now) (λ inner. dense_part inner.now) l.cursor

abbrev pub decreases-loop-cursor : goal.decreases-loop-cursor
decreases-loop-cursor l = length (indices_left (λ mask. has_member mask.now) l.cursor)
