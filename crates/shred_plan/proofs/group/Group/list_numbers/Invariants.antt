use Rattle.std.proofs.Common.{◌≡◌, ◌++◌, map, take}
use Rattle.shred_plan.proofs.group.Group.list_numbers.Given as goal

abbrev pub invariant-loop-system : goal.invariant-loop-system
invariant-loop-system g l = l.list.items ≡ l.initial.list.items ++ map (λ system. system.number) (take l.system-index l.system-items)
