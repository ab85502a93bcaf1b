use Rattle.std.proofs.Common.{◌≡◌, take}
use Rattle.shred_plan.specs.Plan.{rest_after}
use Rattle.shred_plan.proofs.group.Group.strike.Given as goal

abbrev pub invariant-loop-system : goal.invariant-loop-system
invariant-loop-system g l = l.rest.items ≡ rest_after l.initial.rest.items (take l.system-index l.system-items)
