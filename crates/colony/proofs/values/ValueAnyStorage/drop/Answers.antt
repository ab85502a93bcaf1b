use Rattle.specs.specs.ForStorages.{ids_of}
use Rattle.std.proofs.Common.{[]}
use Rattle.colony.proofs.ValuesDropLemmas.{keeps-position}
use Rattle.colony.proofs.ValuesDropLemmas.{drops-position}
use Rattle.colony.proofs.ValuesDropLemmas.{drops-velocity}
use Rattle.colony.proofs.ValuesDropLemmas.{drops-goal}
use Rattle.colony.proofs.ValuesDropLemmas.{drops-mark}
use Rattle.colony.proofs.values.ValueAnyStorage.drop.Goals as goal

pub returns-in-PositionValue-clause-ok : goal.returns-in-PositionValue-clause-ok
returns-in-PositionValue-clause-ok c =
    drops-position _ _ _ _ (ids_of c.args.entities.now) c.args.self.now c.drop.result
    c.in-PositionValue.storage c.drop.new.self c.in-PositionValue.is c.drop.ensures.ok

pub returns-in-VelocityValue-clause-ok : goal.returns-in-VelocityValue-clause-ok
returns-in-VelocityValue-clause-ok c =
    drops-velocity _ _ _ _ (ids_of c.args.entities.now) c.args.self.now c.drop-in-VelocityValue.result
    c.in-VelocityValue.storage c.drop-in-VelocityValue.new.self c.in-VelocityValue.is c.drop-in-VelocityValue.ensures.ok

pub returns-in-GoalValue-clause-ok : goal.returns-in-GoalValue-clause-ok
returns-in-GoalValue-clause-ok c =
    drops-goal _ _ _ _ (ids_of c.args.entities.now) c.args.self.now c.drop-in-GoalValue.result
    c.in-GoalValue.storage c.drop-in-GoalValue.new.self c.in-GoalValue.is c.drop-in-GoalValue.ensures.ok

pub returns-in-MarkValue-clause-ok : goal.returns-in-MarkValue-clause-ok
returns-in-MarkValue-clause-ok c =
    drops-mark _ _ _ _ (ids_of c.args.entities.now) c.args.self.now c.drop-in-MarkValue.result
    c.in-MarkValue.storage c.drop-in-MarkValue.new.self c.in-MarkValue.is c.drop-in-MarkValue.ensures.ok

pub returns-in-PositionValue-clause-err : goal.returns-in-PositionValue-clause-err
returns-in-PositionValue-clause-err c =
    keeps-position _ _ _ _ [] c.args.self.now c.drop.result
    c.in-PositionValue.storage c.drop.new.self c.in-PositionValue.is c.drop.ensures.err
