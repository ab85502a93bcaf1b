use Rattle.std.proofs.Common.{◌-◌, ◌≤◌}
use Rattle.shred_plan.specs.Index.{NoneAdmits}
use Rattle.shred_plan.proofs.planner.Planner.place_joined.Given as goal

abbrev pub invariant-loop-place : goal.invariant-loop-place
invariant-loop-place g l = (l.start ≤ l.place) × (l.place ≤ l.end) × NoneAdmits g.K.PartialEq.eq l.self.first l.adding l.self.stages l.start l.place

abbrev pub decreases-loop-place : goal.decreases-loop-place
decreases-loop-place g l = l.end - l.place
