use Rattle.std.proofs.Common.{[], refl, sym, subst}
use Rattle.world_cases.specs.SavedValues.{value_drops}
use Rattle.world_cases.specs.declared.saving.values.Value.TheVariants.{PlainMarksValue, RandomMarksValue}
use Rattle.world_cases.proofs.saving.values.ValueAnyStorage.make_room.Goals as goal

pub returns-in-PlainMarksValue-clause-same : goal.returns-in-PlainMarksValue-clause-same
returns-in-PlainMarksValue-clause-same c =
    subst (λ v. value_drops _ _ v [] (PlainMarksValue c.make_room.new.self)) (sym c.in-PlainMarksValue.is) (c.make_room.new.self, refl, c.make_room.ensures.same)

pub returns-in-RandomMarksValue-clause-same : goal.returns-in-RandomMarksValue-clause-same
returns-in-RandomMarksValue-clause-same c =
    subst (λ v. value_drops _ _ v [] (RandomMarksValue c.make_room-in-RandomMarksValue.new.self)) (sym c.in-RandomMarksValue.is) (c.make_room-in-RandomMarksValue.new.self, refl, c.make_room-in-RandomMarksValue.ensures.same)
