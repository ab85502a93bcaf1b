use Rattle.specs_layouts.specs.Drops.{ids_of}
use Rattle.world_cases.proofs.SavedValueLemmas.{drops-plain, drops-random}
use Rattle.world_cases.proofs.saving.values.ValueAnyStorage.drop.Goals as goal

pub returns-in-PlainMarksValue-clause-ok : goal.returns-in-PlainMarksValue-clause-ok
returns-in-PlainMarksValue-clause-ok c =
    drops-plain _ _ (ids_of c.args.entities.now) c.args.self.now c.drop.result c.in-PlainMarksValue.storage c.drop.new.self c.in-PlainMarksValue.is c.drop.ensures.ok

pub returns-in-RandomMarksValue-clause-ok : goal.returns-in-RandomMarksValue-clause-ok
returns-in-RandomMarksValue-clause-ok c =
    drops-random _ _ (ids_of c.args.entities.now) c.args.self.now c.drop-in-RandomMarksValue.result c.in-RandomMarksValue.storage c.drop-in-RandomMarksValue.new.self c.in-RandomMarksValue.is c.drop-in-RandomMarksValue.ensures.ok
