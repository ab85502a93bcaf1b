use Rattle.std.proofs.Common.{ℕ, List, ◌++◌}
use Rattle.std.specs.Vec.Iter.{into_iter_items, into_iter_len}
use Rattle.hibitset.specs.Split.{AreJoined}
use Rattle.hibitset.proofs.par_iter.join_all.Given as goal

abbrev pub invariant-loop-list : goal.invariant-loop-list
invariant-loop-list l = (more : List ℕ) → AreJoined (into_iter_items l.rest) more → AreJoined l.fn.lists.items (l.all.items ++ more)

abbrev pub decreases-loop-list : goal.decreases-loop-list
decreases-loop-list l = into_iter_len l.rest
