use Rattle.std.proofs.Common.{◌≡◌, List}
use Rattle.specs_entity.specs.Births.{Births}
use Rattle.specs.specs.Histories.{ContinuesAlong, last_of}
use Rattle.world_cases.proofs.histories.go_on.Given as goal

abbrev pub invariant-loop-each : goal.invariant-loop-each
invariant-loop-each l = (later : List Births) × ContinuesAlong l.initial.entities later × (last_of l.initial.entities later ≡ l.entities)
