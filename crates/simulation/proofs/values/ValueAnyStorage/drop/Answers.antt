use Rattle.specs.specs.ForStorages.{ids_of}
use Rattle.simulation.proofs.ValuesDropLemmas.{drops-position}
use Rattle.simulation.proofs.ValuesDropLemmas.{drops-velocity}
use Rattle.simulation.proofs.values.ValueAnyStorage.drop.Goals as goal

pub returns-in-PositionValue-clause-ok : goal.returns-in-PositionValue-clause-ok
returns-in-PositionValue-clause-ok c =
    drops-position _ _ (ids_of c.args.entities.now) c.args.self.now c.drop.result
    c.in-PositionValue.storage c.drop.new.self c.in-PositionValue.is c.drop.ensures.ok

pub returns-in-VelocityValue-clause-ok : goal.returns-in-VelocityValue-clause-ok
returns-in-VelocityValue-clause-ok c =
    drops-velocity _ _ (ids_of c.args.entities.now) c.args.self.now c.drop-in-VelocityValue.result
    c.in-VelocityValue.storage c.drop-in-VelocityValue.new.self c.in-VelocityValue.is c.drop-in-VelocityValue.ensures.ok
