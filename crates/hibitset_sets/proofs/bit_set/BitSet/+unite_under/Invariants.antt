use Rattle.std.proofs.Common.{◌≡◌}
use Rattle.hibitset_sets.specs.BitSet.{has_member}
use Rattle.hibitset_sets.proofs.UniteLemmas.{IsUniting}
use Rattle.hibitset_sets.proofs.bit_set.BitSet.+unite_under.Given as goal

abbrev pub decreases-unite_under : goal.decreases-unite_under
decreases-unite_under g l = l.layer

abbrev pub invariant-loop-left : goal.invariant-loop-left
invariant-loop-left g l = record {
  room : l.self.room ≡ l.fn.self.room;
  uniting : IsUniting (g.B.BitSetLike.members l.rhs) l.layer l.number l.left (has_member l.fn.self) (has_member l.self);
}

abbrev pub decreases-loop-left : goal.decreases-loop-left
decreases-loop-left g l = l.left
