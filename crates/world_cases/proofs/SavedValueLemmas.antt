-- What a value is after the storage of markers in it dropped some.
use Rattle.std.proofs.Common.{◌≡◌, ℕ, List, Result, OnOk, refl, sym, subst}
use Rattle.std.proofs.lemmas.Result.{on_ok_weaker}
use Rattle.world_cases.specs.SavedValues.{Plains, Randoms, value_drops}
use Rattle.world_cases.specs.declared.saving.values.Value.{Value}
use Rattle.world_cases.specs.declared.saving.values.Value.TheVariants.{PlainMarksValue, RandomMarksValue}

module _ {T E : Type 0} (plains : Plains → List ℕ → Plains → Type 0) (randoms : Randoms → List ℕ → Randoms → Type 0) (indices : List ℕ) (value : Value) (r : Result T E) where
  pub drops-plain : (was now : Plains) → value ≡ PlainMarksValue was → OnOk r (plains was indices now) → OnOk r (value_drops plains randoms value indices (PlainMarksValue now))
  drops-plain was now is = on_ok_weaker r (λ dropped. subst (λ v. value_drops plains randoms v indices (PlainMarksValue now)) (sym is) (now, refl, dropped))

  pub drops-random : (was now : Randoms) → value ≡ RandomMarksValue was → OnOk r (randoms was indices now) → OnOk r (value_drops plains randoms value indices (RandomMarksValue now))
  drops-random was now is = on_ok_weaker r (λ dropped. subst (λ v. value_drops plains randoms v indices (RandomMarksValue now)) (sym is) (now, refl, dropped))
