use Rattle.std.proofs.Common.{◌≡◌, ◌≤◌, length, take, vec_capacity}
use Rattle.shred_stages.proofs.berth.make_berths.Given as goal

abbrev pub invariant-loop-stage : goal.invariant-loop-stage
invariant-loop-stage g l = record {
  made : l.berths.items ≡ take l.stage-index l.stages;
  few : length l.berths.items ≡ l.stage-index;
  room : length l.stages ≤ vec_capacity l.berths;
}
