use Rattle.std.proofs.Common.{◌≡◌, ◌≤◌, ◌+◌, ◌++◌, length, vec_capacity}
use Rattle.std.specs.Vec.Iter.{into_iter_items, into_iter_len}
use Rattle.shred_stages.specs.Away.{systems_in}
use Rattle.shred_stages.proofs.slots.empty_slots.Given as goal

abbrev pub invariant-loop-slot : goal.invariant-loop-slot
invariant-loop-slot g l = record {
  on : l.systems.items ++ systems_in (into_iter_items l.rest) ≡ systems_in (into_iter_items l.initial.rest);
  capacity : vec_capacity l.systems ≡ vec_capacity l.initial.systems;
  few : length l.systems.items + length (into_iter_items l.rest) ≤ vec_capacity l.initial.systems;
}

abbrev pub decreases-loop-slot : goal.decreases-loop-slot
decreases-loop-slot g l = into_iter_len l.rest
