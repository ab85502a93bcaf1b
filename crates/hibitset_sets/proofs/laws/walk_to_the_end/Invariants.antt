use Rattle.std.proofs.Common.{◌≡◌, ◌+◌, length}
use Rattle.hibitset_sets.specs.Iter.{left_of, unread}
use Rattle.hibitset_sets.proofs.laws.walk_to_the_end.Given as goal

abbrev pub invariant-loop : goal.invariant-loop
invariant-loop g l = record {
  counted : l.steps + unread g.T.BitSetLike.reads g.T.BitSetLike.words l.walk ≡ l.initial.steps + unread g.T.BitSetLike.reads g.T.BitSetLike.words l.initial.walk;
}

abbrev pub decreases-loop : goal.decreases-loop
decreases-loop g l = length (left_of g.T.BitSetLike.members l.walk)
