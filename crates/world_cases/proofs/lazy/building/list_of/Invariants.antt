use Rattle.specs_world.specs.Stocked.{ListsOn}
use Rattle.world_cases.specs.LazyValues.{healths_kind}
use Rattle.world_cases.proofs.lazy.building.list_of.Given as goal

abbrev pub invariant-loop-health : goal.invariant-loop-health
invariant-loop-health l = record { all : ListsOn healths_kind.part_at l.healths.inner l.list.items l.health-iterator }
