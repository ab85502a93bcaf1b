-- What a value is after the storage in it dropped parts, as tools/values writes it from values.list.
use Rattle.std.proofs.Common.{◌≡◌, ℕ, List, Result, OnOk, refl, sym, subst}
use Rattle.std.proofs.lemmas.Result.{on_ok_weaker}
use Rattle.simulation.specs.Values.{value_drops}
use Rattle.simulation.specs.Values.{Positions}
use Rattle.simulation.specs.Values.{Velocities}
use Rattle.simulation.specs.declared.values.Value.{Value}
use Rattle.simulation.specs.declared.values.Value.TheVariants.{PositionValue}
use Rattle.simulation.specs.declared.values.Value.TheVariants.{VelocityValue}

module _ {T E : Type 0} (drops_position : Positions → List ℕ → Positions → Type 0) (drops_velocity : Velocities → List ℕ → Velocities → Type 0) (indices : List ℕ) (value : Value) (r : Result T E) where
  pub drops-position : (was now : Positions) → value ≡ PositionValue was → OnOk r (drops_position was indices now)
      → OnOk r (value_drops drops_position drops_velocity value indices (PositionValue now))
  drops-position was now is =
      on_ok_weaker r
      (λ dropped. subst (λ v. value_drops drops_position drops_velocity v indices (PositionValue now)) (sym is) (now, refl, dropped))

  pub drops-velocity : (was now : Velocities) → value ≡ VelocityValue was → OnOk r (drops_velocity was indices now)
      → OnOk r (value_drops drops_position drops_velocity value indices (VelocityValue now))
  drops-velocity was now is =
      on_ok_weaker r
      (λ dropped. subst (λ v. value_drops drops_position drops_velocity v indices (VelocityValue now)) (sym is) (now, refl, dropped))
