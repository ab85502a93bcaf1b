use Rattle.std.proofs.Common.{◌≡◌, ◌≤◌, ◌+◌, ◌++◌, length, vec_capacity}
use Rattle.std.specs.Vec.Iter.{drain_items, drain_len, DrainKeeps}
use Rattle.shred_crew.specs.Deals.{loads_in}
use Rattle.shred_crew.proofs.gather.empty_slots.Given as goal

abbrev pub invariant-loop-slot : goal.invariant-loop-slot
invariant-loop-slot g l = record {
  on : l.loads.items ++ loads_in (drain_items l.rest) ≡ loads_in (drain_items l.initial.rest);
  capacity : vec_capacity l.loads ≡ vec_capacity l.initial.loads;
  few : length l.loads.items + length (drain_items l.rest) ≤ vec_capacity l.initial.loads;
  keeps : DrainKeeps l.initial.rest l.rest;
}

abbrev pub decreases-loop-slot : goal.decreases-loop-slot
decreases-loop-slot g l = drain_len l.rest
