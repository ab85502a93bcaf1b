use Rattle.specs_layouts.specs.Drops.{ids_of}
use Rattle.world_cases.proofs.LazyValueLemmas.{drops-health}
use Rattle.world_cases.proofs.lazy.values.ValueAnyStorage.drop.Goals as goal

pub returns-in-HealthValue-clause-ok : goal.returns-in-HealthValue-clause-ok
returns-in-HealthValue-clause-ok c =
    drops-health _ (ids_of c.args.entities.now) c.args.self.now c.drop.result c.in-HealthValue.storage c.drop.new.self c.in-HealthValue.is c.drop.ensures.ok
