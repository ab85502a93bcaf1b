use Rattle.std.proofs.Common.{◌≡◌, map, take}
use Rattle.shred_plan.specs.Plan.{plan_order}
use Rattle.shred_plan.proofs.planner.Planner.order.Given as goal

abbrev pub invariant-loop-stage : goal.invariant-loop-stage
invariant-loop-stage g l = l.list.items ≡ map (λ system. system.number) (plan_order (take l.stage-index l.stage-items))
