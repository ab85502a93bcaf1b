use Rattle.std.proofs.Common.{◌≡◌, ◌++◌, take}
use Rattle.std.specs.List.{flat_map}
use Rattle.shred_stages.specs.Accesses.{declared_ids}
use Rattle.shred_stages.proofs.access.list_group.Given as goal

abbrev pub invariant-loop-adding : goal.invariant-loop-adding
invariant-loop-adding l = l.list.items ≡ l.initial.list.items ++ flat_map (declared_ids l.access) (take l.adding-index l.group)
