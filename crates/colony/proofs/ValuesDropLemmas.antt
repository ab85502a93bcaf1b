-- What a value is after the storage in it dropped parts, as tools/values writes it from values.list.
use Rattle.std.proofs.Common.{◌≡◌, ℕ, List, Result, OnOk, refl, sym, subst}
use Rattle.std.proofs.lemmas.Result.{on_ok_weaker}
use Rattle.colony.specs.Values.{value_drops}
use Rattle.std.proofs.Common.{OnErr}
use Rattle.std.proofs.lemmas.Result.{on_err_weaker}
use Rattle.colony.specs.Values.{Positions}
use Rattle.colony.specs.Values.{Velocities}
use Rattle.colony.specs.Values.{Goals}
use Rattle.colony.specs.Values.{Marks}
use Rattle.colony.specs.declared.values.Value.{Value}
use Rattle.colony.specs.declared.values.Value.TheVariants.{PositionValue}
use Rattle.colony.specs.declared.values.Value.TheVariants.{VelocityValue}
use Rattle.colony.specs.declared.values.Value.TheVariants.{GoalValue}
use Rattle.colony.specs.declared.values.Value.TheVariants.{MarkValue}

module _ {T E : Type 0} (drops_position : Positions → List ℕ → Positions → Type 0) (drops_velocity : Velocities → List ℕ → Velocities → Type 0) (drops_goal : Goals → List ℕ → Goals → Type 0) (drops_mark : Marks → List ℕ → Marks → Type 0) (indices : List ℕ) (value : Value) (r : Result T E) where
  pub drops-position : (was now : Positions) → value ≡ PositionValue was → OnOk r (drops_position was indices now)
      → OnOk r (value_drops drops_position drops_velocity drops_goal drops_mark value indices (PositionValue now))
  drops-position was now is =
      on_ok_weaker r
      (λ dropped. subst (λ v. value_drops drops_position drops_velocity drops_goal drops_mark v indices (PositionValue now)) (sym is) (now, refl, dropped))

  pub drops-velocity : (was now : Velocities) → value ≡ VelocityValue was → OnOk r (drops_velocity was indices now)
      → OnOk r (value_drops drops_position drops_velocity drops_goal drops_mark value indices (VelocityValue now))
  drops-velocity was now is =
      on_ok_weaker r
      (λ dropped. subst (λ v. value_drops drops_position drops_velocity drops_goal drops_mark v indices (VelocityValue now)) (sym is) (now, refl, dropped))

  pub drops-goal : (was now : Goals) → value ≡ GoalValue was → OnOk r (drops_goal was indices now)
      → OnOk r (value_drops drops_position drops_velocity drops_goal drops_mark value indices (GoalValue now))
  drops-goal was now is =
      on_ok_weaker r
      (λ dropped. subst (λ v. value_drops drops_position drops_velocity drops_goal drops_mark v indices (GoalValue now)) (sym is) (now, refl, dropped))

  pub drops-mark : (was now : Marks) → value ≡ MarkValue was → OnOk r (drops_mark was indices now)
      → OnOk r (value_drops drops_position drops_velocity drops_goal drops_mark value indices (MarkValue now))
  drops-mark was now is =
      on_ok_weaker r
      (λ dropped. subst (λ v. value_drops drops_position drops_velocity drops_goal drops_mark v indices (MarkValue now)) (sym is) (now, refl, dropped))

  pub keeps-position : (was now : Positions) → value ≡ PositionValue was → OnErr r (drops_position was indices now)
      → OnErr r (value_drops drops_position drops_velocity drops_goal drops_mark value indices (PositionValue now))
  keeps-position was now is =
      on_err_weaker r
      (λ kept. subst (λ v. value_drops drops_position drops_velocity drops_goal drops_mark v indices (PositionValue now)) (sym is) (now, refl, kept))
