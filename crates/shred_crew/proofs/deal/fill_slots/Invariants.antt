use Rattle.std.proofs.Common.{◌≡◌, ◌≤◌, ◌+◌, ◌++◌, Some, length, map, vec_capacity}
use Rattle.std.specs.Vec.Iter.{drain_items, drain_len, DrainKeeps}
use Rattle.shred_crew.proofs.deal.fill_slots.Given as goal

abbrev pub invariant-loop-load : goal.invariant-loop-load
invariant-loop-load g l = record {
  on : l.slots.items ++ map Some (drain_items l.rest) ≡ map Some (drain_items l.initial.rest);
  capacity : vec_capacity l.slots ≡ vec_capacity l.initial.slots;
  few : length l.slots.items + length (drain_items l.rest) ≤ vec_capacity l.initial.slots;
  keeps : DrainKeeps l.initial.rest l.rest;
}

abbrev pub decreases-loop-load : goal.decreases-loop-load
decreases-loop-load g l = drain_len l.rest
