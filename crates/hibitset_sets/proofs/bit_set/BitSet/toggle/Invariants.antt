use Rattle.std.proofs.Common.{◌≡◌}
use Rattle.hibitset_sets.specs.Operators.{differs}
use Rattle.hibitset_sets.specs.BitSet.{has_member}
use Rattle.hibitset_sets.proofs.AssignLemmas.{IsAssigned}
use Rattle.hibitset_sets.proofs.bit_set.BitSet.toggle.Given as goal

abbrev pub invariant-loop-place : goal.invariant-loop-place
invariant-loop-place g l = record {
  room : l.self.room ≡ l.initial.self.room;
  assigned : IsAssigned differs (has_member l.initial.self) (g.B.BitSetLike.members l.rhs) l.place (has_member l.self);
}
