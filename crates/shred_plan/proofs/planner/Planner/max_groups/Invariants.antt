use Rattle.std.proofs.Common.{◌≡◌, take}
use Rattle.shred_plan.specs.Plan.{most_groups}
use Rattle.shred_plan.proofs.planner.Planner.max_groups.Given as goal

abbrev pub invariant-loop-stage : goal.invariant-loop-stage
invariant-loop-stage g l = l.most ≡ most_groups (take l.stage-index l.stage-items)
