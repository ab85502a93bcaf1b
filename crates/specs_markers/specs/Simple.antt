-- Whole numbers as ids of markers: a counter, and the entity last noted under each id.
use Rattle.std.specs.Prelude.{◌≡◌, ◌+◌, ◌<◌, ◌⊎◌, ℕ, max, Option, None, Some, unwrap_or, refl}
use Rattle.std.specs.Coded.{Coded, code_by, coded×, coded_ℕ}
use Rattle.std.specs.FinMap as map
use Rattle.std.specs.Ordering.{nat_cmp}
use Rattle.specs_entity.specs.Life.{LifeAt, life_code}
use Rattle.specs_entity.specs.declared.errors.Error.{Error}
use Rattle.specs_entity.specs.declared.errors.Error.TheVariants as variant

-- the id that comes next, and the entity last noted under each id
pub record Noting : Type 0 where
  pub next : ℕ
  pub noted : map.FinMap nat_cmp LifeAt

-- an entity is stored as the pair of its index and its life
abbrev pub entity_code : Coded LifeAt
entity_code = code_by _ (coded× coded_ℕ life_code) (λ e. (e.id, e.generation)) (λ p. record { id = p.0; generation = p.1 }) (λ _. refl)

-- it is stored as the pair of its fields
abbrev pub noting_code : Coded Noting
noting_code =
    code_by (ℕ × map.FinMap nat_cmp LifeAt) (coded× coded_ℕ (map.code coded_ℕ entity_code))
    (λ a. (a.next, a.noted))
    (λ p. record { next = p.0; noted = p.1 })
    (λ _. refl)

-- nothing is noted, and the first id is 0
abbrev pub none_noted : Noting
none_noted = record { next = 0; noted = map.empty }

-- the entity last noted under an id
abbrev pub noted_under : Noting → ℕ → Option LifeAt
noted_under a id = map.get a.noted id

-- the id that is given: the one asked for, else the next
abbrev pub given_id : Noting → Option ℕ → ℕ
given_id a asked = unwrap_or asked a.next

-- the entity is noted under the id that is given, and the next id is above it, and no lower than before
abbrev pub allocated : Noting → LifeAt → Option ℕ → Noting
allocated a entity asked = record {
  next = max a.next (given_id a asked + 1);
  noted = map.insert a.noted (given_id a asked) entity;
}

-- the id is the greatest that there is, after which none could come next
abbrev pub IsSpent : Noting → Option ℕ → Type 0
IsSpent a asked = given_id a asked ≡ 18446744073709551615

-- what a marker is refused for: no id is left, or there was no memory for an id under which nothing is noted
abbrev pub RefusesMarker : Noting → Option ℕ → Error → Type 0
RefusesMarker a asked error =
    ((error ≡ variant.MarkersSpent) × IsSpent a asked) ⊎ ((error ≡ variant.Memory) × ¬ (IsSpent a asked) × (noted_under a (given_id a asked) ≡ None))

-- the marker that is given, and the allocator after it
pub record Gives (a : Noting) (entity : LifeAt) (asked : Option ℕ) (marker : ℕ) (after : Noting) : Type 0 where
  pub left : ¬ (IsSpent a asked)
  pub id : marker ≡ given_id a asked
  pub allocator : after ≡ allocated a entity asked

-- each id under which an entity is noted is below the one that comes next
abbrev pub IsBelowNext : Noting → Type 0
IsBelowNext a = (id : ℕ) (entity : LifeAt) → noted_under a id ≡ Some entity → id < a.next
