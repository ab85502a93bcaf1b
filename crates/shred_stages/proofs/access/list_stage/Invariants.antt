use Rattle.std.proofs.Common.{◌≡◌, ◌++◌, take}
use Rattle.std.specs.List.{flat_map}
use Rattle.shred_stages.specs.Accesses.{declared_ids}
use Rattle.shred_stages.proofs.access.list_stage.Given as goal

abbrev pub invariant-loop-group : goal.invariant-loop-group
invariant-loop-group l = l.list.items ≡ l.initial.list.items ++ flat_map (λ group. flat_map (declared_ids l.access) group) (take l.group-index l.stage)
