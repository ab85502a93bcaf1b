-- Goals, which name no entity.
use Rattle.std.proofs.Common.{◌≡◌, ◌↔◌, ℤ, [], Option, Some, IsSome, refl, sym, ap}
use Rattle.std.proofs.lemmas.Option.{same_Some}
use Rattle.specs_entity.specs.Life.{LifeAt}
use Rattle.specs_saveload.specs.Bearing.{IsAmong}
use Rattle.bench_joins.specs.declared.saving.goals.Goal.{Goal}

-- a goal that was loaded is saved as it was
pub goal-back : (number : Option ℤ) (goal : Goal) → Some (record { 0 = number }) ≡ Some goal → Some goal.0 ≡ Some number
goal-back number goal is = ap (λ (g : Goal). Some g.0) (sym (same_Some (record { 0 = number }) goal is))

-- it has data, whatever has a name
pub none-named : {M : Type 0} (names : LifeAt → Option M) (number : Option ℤ) → IsSome (Some number) ↔ ((entity : LifeAt) → IsAmong entity [] → IsSome (names entity))
none-named names number = (λ some entity none. absurd none, λ all. refl)
