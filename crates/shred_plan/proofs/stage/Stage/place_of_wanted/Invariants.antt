use Rattle.std.proofs.Common.{◌≡◌, false, ◌&&◌, take}
use Rattle.std.specs.List.{list_any}
use Rattle.shred_plan.specs.Plan.{completes, joins}
use Rattle.shred_plan.proofs.stage.Stage.place_of_wanted.Given as goal

abbrev pub invariant-loop-place : goal.invariant-loop-place
invariant-loop-place g l = list_any (λ group. completes l.rest group && joins l.adding l.self group) (take l.place l.group-items) ≡ false
