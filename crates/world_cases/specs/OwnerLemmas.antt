-- Parts that name an entity, and parts that name none.
use Rattle.std.proofs.Common.{◌≡◌, ◌↔◌, ℤ, [], Option, Some, None, IsSome, option_map, refl, sym, ap}
use Rattle.std.proofs.lemmas.Option.{same_Some}
use Rattle.specs_entity.specs.Life.{LifeAt}
use Rattle.specs_saveload.specs.Bearing.{IsAmong}
use Rattle.world_cases.specs.declared.saving.kinds.Owner.{Owner}
use Rattle.world_cases.specs.declared.saving.kinds.Health.{Health}

owned : (o : Option LifeAt) (owner : Owner) → option_map (λ entity. record { 0 = entity }) o ≡ Some owner → o ≡ Some owner.0
owned None owner is = cc
owned (Some entity) owner is = ap (λ (o : Owner). Some o.0) (same_Some (record { 0 = entity }) owner is)

pub owner-kept : (one other : Option LifeAt) → ((entity : LifeAt) → one ≡ Some entity → other ≡ Some entity) → (owner : Owner) → option_map (λ entity. record { 0 = entity }) one ≡ Some owner → option_map (λ entity. record { 0 = entity }) other ≡ Some owner
owner-kept one other more owner is = ap (option_map (λ entity. record { 0 = entity })) (more owner.0 (owned one owner is))

pub owner-back : {M : Type 0} (bearer : Option LifeAt) (names : LifeAt → Option M) (marker : M) → ((entity : LifeAt) → bearer ≡ Some entity → names entity ≡ Some marker) → (owner : Owner) → option_map (λ entity. record { 0 = entity }) bearer ≡ Some owner → names owner.0 ≡ Some marker
owner-back bearer names marker same owner is = same owner.0 (owned bearer owner is)

pub number-back : (number : ℤ) (health : Health) → Some (record { 0 = number }) ≡ Some health → Some health.0 ≡ Some number
number-back number health is = ap (λ (h : Health). Some h.0) (sym (same_Some (record { 0 = number }) health is))

pub none-named : {M : Type 0} (names : LifeAt → Option M) (number : ℤ) → IsSome (Some number) ↔ ((entity : LifeAt) → IsAmong entity [] → IsSome (names entity))
none-named names number = (λ some entity none. absurd none, λ all. refl)
