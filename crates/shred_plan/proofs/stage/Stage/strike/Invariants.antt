use Rattle.std.proofs.Common.{◌≡◌, take}
use Rattle.shred_plan.specs.Plan.{rest_after, systems_of}
use Rattle.shred_plan.proofs.stage.Stage.strike.Given as goal

abbrev pub invariant-loop-group : goal.invariant-loop-group
invariant-loop-group g l = l.rest.items ≡ rest_after l.initial.rest.items (systems_of (take l.group-index l.group-items))
