use Rattle.std.proofs.Common.{[], refl, sym, subst}
use Rattle.simulation.specs.Values.{value_drops}
use Rattle.simulation.specs.declared.values.Value.TheVariants.{PositionValue}
use Rattle.simulation.specs.declared.values.Value.TheVariants.{VelocityValue}
use Rattle.simulation.proofs.values.ValueAnyStorage.make_room.Goals as goal

pub returns-in-PositionValue-clause-same : goal.returns-in-PositionValue-clause-same
returns-in-PositionValue-clause-same c =
    subst (λ v. value_drops _ _ v [] (PositionValue c.make_room.new.self)) (sym c.in-PositionValue.is)
    (c.make_room.new.self, refl, c.make_room.ensures.same)

pub returns-in-VelocityValue-clause-same : goal.returns-in-VelocityValue-clause-same
returns-in-VelocityValue-clause-same c =
    subst (λ v. value_drops _ _ v [] (VelocityValue c.make_room-in-VelocityValue.new.self)) (sym c.in-VelocityValue.is)
    (c.make_room-in-VelocityValue.new.self, refl, c.make_room-in-VelocityValue.ensures.same)
