use Rattle.std.proofs.Common.{take}
use Rattle.std.specs.List.{All}
use Rattle.specs_entity.specs.Births.{IsAlive}
use Rattle.specs_entity.proofs.entities_res.EntitiesRes.first_dead.Given as goal

abbrev pub invariant-loop-place : goal.invariant-loop-place
invariant-loop-place l = All (IsAlive l.self) (take l.place l.entities)
