use Rattle.std.proofs.Common.{◌≡◌, ◌++◌, map, take}
use Rattle.shred_plan.specs.Plan.{systems_of}
use Rattle.shred_plan.proofs.stage.Stage.list_numbers.Given as goal

abbrev pub invariant-loop-group : goal.invariant-loop-group
invariant-loop-group g l = l.list.items ≡ l.initial.list.items ++ map (λ system. system.number) (systems_of (take l.group-index l.group-items))
