use Rattle.std.proofs.Common.{◌≡◌, take}
use Rattle.std.specs.Prelude.{string_bytes}
use Rattle.shred_plan.specs.PlanText.{plan_text}
use Rattle.shred_plan.proofs.planner.Planner.print_par_seq.Given as goal

abbrev pub invariant-loop-stage : goal.invariant-loop-stage
invariant-loop-stage g l = string_bytes l.text ≡ plan_text (take l.stage-index l.stage-items)
