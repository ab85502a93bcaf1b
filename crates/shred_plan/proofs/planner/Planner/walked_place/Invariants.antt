use Rattle.std.proofs.Common.{◌≡◌, ◌++◌, ◌-◌, take, drop}
use Rattle.shred_plan.specs.Plan.{placed}
use Rattle.shred_plan.proofs.planner.Planner.walked_place.Given as goal

abbrev pub invariant-loop-index : goal.invariant-loop-index
invariant-loop-index g l =
    placed g.K.PartialEq.eq l.self.first l.adding l.adding.after l.self.stages
    ≡ take l.index l.stage-items ++ placed g.K.PartialEq.eq (l.self.first - l.index) l.adding l.rest.items (drop l.index l.stage-items)
