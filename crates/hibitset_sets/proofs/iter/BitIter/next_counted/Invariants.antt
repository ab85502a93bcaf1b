use Rattle.std.proofs.Common.{◌≡◌, ◌-◌, ◌≤◌}
use Rattle.hibitset_sets.specs.Walk.{words_left}
use Rattle.hibitset_sets.specs.Iter.{left_of, unread}
use Rattle.hibitset_sets.proofs.iter.BitIter.next_counted.Given as goal

abbrev pub invariant-loop-self : goal.invariant-loop-self
invariant-loop-self g l = record {
  set : l.self.set ≡ l.initial.self.set;
  items : left_of g.T.BitSetLike.members l.self ≡ left_of g.T.BitSetLike.members l.initial.self;
  fewer : unread g.T.BitSetLike.reads g.T.BitSetLike.words l.self ≤ unread g.T.BitSetLike.reads g.T.BitSetLike.words l.initial.self;
  counted : g.C.Counter.ticked l.initial.count (unread g.T.BitSetLike.reads g.T.BitSetLike.words l.initial.self - unread g.T.BitSetLike.reads g.T.BitSetLike.words l.self) l.count;
}

abbrev pub decreases-loop-self : goal.decreases-loop-self
decreases-loop-self g l = words_left (λ _. 1) (g.T.BitSetLike.words l.self.set) l.self.masks l.self.prefix
