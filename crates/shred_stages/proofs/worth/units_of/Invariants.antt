use Rattle.std.proofs.Common.{◌≡◌, ◌≤◌, ◌*◌, take}
use Rattle.std.specs.List.{sum_by}
use Rattle.shred_plan.specs.Plan.{time_of}
use Rattle.shred_stages.proofs.worth.units_of.Given as goal

abbrev pub invariant-loop-group : goal.invariant-loop-group
invariant-loop-group l = record {
  units : l.units ≡ sum_by time_of (take l.group-index l.stage);
  most : l.units ≤ 20 * l.group-index;
}
