use Rattle.std.proofs.Common.{◌≡◌, take}
use Rattle.std.specs.List.{flat_map}
use Rattle.shred_stages.specs.Accesses.{declared_ids}
use Rattle.shred_stages.proofs.access.ids_in_stages.Given as goal

abbrev pub invariant-loop-stage : goal.invariant-loop-stage
invariant-loop-stage l = l.list.items ≡ flat_map (λ stage. flat_map (λ group. flat_map (declared_ids l.access) group) stage) (take l.stage-index l.stages)
