use Rattle.std.proofs.Common.{length}
use Rattle.hibitset_sets.specs.BitSet.{has_member}
use Rattle.specs_storage.specs.EntryCursors.{indices_left}
use Rattle.bench_joins.proofs.changes.ways.by_entries.Given as goal

abbrev pub decreases-loop-cursor : goal.decreases-loop-cursor
decreases-loop-cursor l = length (indices_left (λ mask. has_member mask.now) l.cursor)
