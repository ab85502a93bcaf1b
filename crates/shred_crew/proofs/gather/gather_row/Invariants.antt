use Rattle.std.proofs.Common.{◌≡◌, length, vec_capacity}
use Rattle.shred_crew.specs.Deals.{returned}
use Rattle.shred_crew.proofs.gather.gather_row.Given as goal

abbrev pub invariant-loop-one : goal.invariant-loop-one
invariant-loop-one g l = record {
  on : returned l.row.items l.slots.items ≡ returned l.initial.row.items l.initial.slots.items;
  slots_room : vec_capacity l.slots ≡ vec_capacity l.initial.slots;
  row_room : vec_capacity l.row ≡ vec_capacity l.initial.row;
}

abbrev pub decreases-loop-one : goal.decreases-loop-one
decreases-loop-one g l = length l.row.items
