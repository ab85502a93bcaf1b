use Rattle.specs_layouts.specs.Drops.{ids_of}
use Rattle.world_cases.proofs.ValueLemmas.{drops-health, drops-speed}
use Rattle.world_cases.proofs.values.ValueAnyStorage.drop.Goals as goal

pub returns-in-HealthValue-clause-ok : goal.returns-in-HealthValue-clause-ok
returns-in-HealthValue-clause-ok c =
    drops-health _ _ (ids_of c.args.entities.now) c.args.self.now c.drop.result c.in-HealthValue.storage c.drop.new.self c.in-HealthValue.is c.drop.ensures.ok

pub returns-in-SpeedValue-clause-ok : goal.returns-in-SpeedValue-clause-ok
returns-in-SpeedValue-clause-ok c =
    drops-speed _ _ (ids_of c.args.entities.now) c.args.self.now c.drop-in-SpeedValue.result c.in-SpeedValue.storage c.drop-in-SpeedValue.new.self c.in-SpeedValue.is c.drop-in-SpeedValue.ensures.ok
