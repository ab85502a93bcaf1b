use Rattle.std.proofs.Common.{◌≡◌, ◌++◌}
use Rattle.hibitset_sets.specs.Iter.{left_of}
use Rattle.hibitset.specs.Producer.{items_of}
use Rattle.hibitset.proofs.par_iter.collect_items.Given as goal

abbrev pub invariant-loop-i : goal.invariant-loop-i
invariant-loop-i g l = l.list.items ++ left_of (λ s. g.T.BitSetLike.members s.now) l.walk ≡ items_of g.T.BitSetLike.members l.fn.whole
