-- What a value is after the storage in it dropped parts.
use Rattle.std.proofs.Common.{◌≡◌, ℕ, List, Result, OnOk, refl, sym, subst}
use Rattle.std.proofs.lemmas.Result.{on_ok_weaker}
use Rattle.world_cases.specs.LazyValues.{Healths, value_drops}
use Rattle.world_cases.specs.declared.lazy.values.Value.{Value}
use Rattle.world_cases.specs.declared.lazy.values.Value.TheVariants.{HealthValue}

pub drops-health : {T E : Type 0} (healths : Healths → List ℕ → Healths → Type 0) (indices : List ℕ) (value : Value) (r : Result T E) (was now : Healths) → value ≡ HealthValue was → OnOk r (healths was indices now)
    → OnOk r (value_drops healths value indices (HealthValue now))
drops-health healths indices value r was now is = on_ok_weaker r (λ dropped. subst (λ v. value_drops healths v indices (HealthValue now)) (sym is) (now, refl, dropped))
