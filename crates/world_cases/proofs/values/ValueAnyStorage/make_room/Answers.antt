use Rattle.std.proofs.Common.{[], refl, sym, subst}
use Rattle.world_cases.specs.Values.{value_drops}
use Rattle.world_cases.specs.declared.values.Value.TheVariants.{HealthValue, SpeedValue}
use Rattle.world_cases.proofs.values.ValueAnyStorage.make_room.Goals as goal

pub returns-in-HealthValue-clause-same : goal.returns-in-HealthValue-clause-same
returns-in-HealthValue-clause-same c =
    subst (λ v. value_drops _ _ v [] (HealthValue c.make_room.new.self)) (sym c.in-HealthValue.is) (c.make_room.new.self, refl, c.make_room.ensures.same)

pub returns-in-SpeedValue-clause-same : goal.returns-in-SpeedValue-clause-same
returns-in-SpeedValue-clause-same c =
    subst (λ v. value_drops _ _ v [] (SpeedValue c.make_room-in-SpeedValue.new.self)) (sym c.in-SpeedValue.is) (c.make_room-in-SpeedValue.new.self, refl, c.make_room-in-SpeedValue.ensures.same)
