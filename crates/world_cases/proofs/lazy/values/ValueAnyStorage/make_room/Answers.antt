use Rattle.std.proofs.Common.{[], refl, sym, subst}
use Rattle.world_cases.specs.LazyValues.{value_drops}
use Rattle.world_cases.specs.declared.lazy.values.Value.TheVariants.{HealthValue}
use Rattle.world_cases.proofs.lazy.values.ValueAnyStorage.make_room.Goals as goal

pub returns-in-HealthValue-clause-same : goal.returns-in-HealthValue-clause-same
returns-in-HealthValue-clause-same c =
    subst (λ v. value_drops _ v [] (HealthValue c.make_room.new.self)) (sym c.in-HealthValue.is) (c.make_room.new.self, refl, c.make_room.ensures.same)
