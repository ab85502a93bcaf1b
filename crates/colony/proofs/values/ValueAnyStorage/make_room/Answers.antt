use Rattle.std.proofs.Common.{[], refl, sym, subst}
use Rattle.colony.specs.Values.{value_drops}
use Rattle.colony.specs.declared.values.Value.TheVariants.{PositionValue}
use Rattle.colony.specs.declared.values.Value.TheVariants.{VelocityValue}
use Rattle.colony.specs.declared.values.Value.TheVariants.{GoalValue}
use Rattle.colony.specs.declared.values.Value.TheVariants.{MarkValue}
use Rattle.colony.proofs.values.ValueAnyStorage.make_room.Goals as goal

pub returns-in-PositionValue-clause-same : goal.returns-in-PositionValue-clause-same
returns-in-PositionValue-clause-same c =
    subst (λ v. value_drops _ _ _ _ v [] (PositionValue c.make_room.new.self)) (sym c.in-PositionValue.is)
    (c.make_room.new.self, refl, c.make_room.ensures.same)

pub returns-in-VelocityValue-clause-same : goal.returns-in-VelocityValue-clause-same
returns-in-VelocityValue-clause-same c =
    subst (λ v. value_drops _ _ _ _ v [] (VelocityValue c.make_room-in-VelocityValue.new.self)) (sym c.in-VelocityValue.is)
    (c.make_room-in-VelocityValue.new.self, refl, c.make_room-in-VelocityValue.ensures.same)

pub returns-in-GoalValue-clause-same : goal.returns-in-GoalValue-clause-same
returns-in-GoalValue-clause-same c =
    subst (λ v. value_drops _ _ _ _ v [] (GoalValue c.make_room-in-GoalValue.new.self)) (sym c.in-GoalValue.is)
    (c.make_room-in-GoalValue.new.self, refl, c.make_room-in-GoalValue.ensures.same)

pub returns-in-MarkValue-clause-same : goal.returns-in-MarkValue-clause-same
returns-in-MarkValue-clause-same c =
    subst (λ v. value_drops _ _ _ _ v [] (MarkValue c.make_room-in-MarkValue.new.self)) (sym c.in-MarkValue.is)
    (c.make_room-in-MarkValue.new.self, refl, c.make_room-in-MarkValue.ensures.same)
