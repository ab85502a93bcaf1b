use Rattle.std.proofs.Common.{◌≡◌, [], length, replicate, vec_capacity}
use Rattle.shred_crew.specs.Deals.{lists}
use Rattle.shred_crew.proofs.cutting.empty_lists.Given as goal

abbrev pub invariant-loop-list : goal.invariant-loop-list
invariant-loop-list l = (lists l.made.items ≡ replicate l._list []) × (length l.made.items ≡ l._list) × (vec_capacity l.made ≡ l.count)
