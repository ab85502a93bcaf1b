use Rattle.std.proofs.Common.{◌≡◌, ℕ, ◌-◌, ◌<◌, ◌≤◌, false}
use Rattle.shred_plan.specs.Index.{has_stage}
use Rattle.shred_plan.proofs.stage_set.StageSet.first_inside.Given as goal

abbrev pub invariant-loop-stage : goal.invariant-loop-stage
invariant-loop-stage l = (l.from ≤ l.stage) × (l.stage ≤ l.end) × ((place : ℕ) → l.from ≤ place → place < l.stage → has_stage l.self place ≡ false)

abbrev pub decreases-loop-stage : goal.decreases-loop-stage
decreases-loop-stage l = l.end - l.stage
