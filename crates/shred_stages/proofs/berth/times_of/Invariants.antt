use Rattle.std.proofs.Common.{◌≡◌, ◌≤◌, length, map, take, vec_capacity}
use Rattle.shred_plan.specs.Plan.{time_of}
use Rattle.shred_stages.proofs.berth.times_of.Given as goal

abbrev pub invariant-loop-group : goal.invariant-loop-group
invariant-loop-group l = record {
  times : l.times.items ≡ map time_of (take l.group-index l.stage);
  few : length l.times.items ≡ l.group-index;
  room : length l.stage ≤ vec_capacity l.times;
}
