-- What contracts see of a join's walk that is under way.
use Rattle.std.specs.Prelude.{◌≡◌, ℕ, ◌<◌, nat_lt, Bool, true, ◌&&◌, List, Option, None, IsSome, if◌then◌else◌, refl}
use Rattle.std.specs.Coded.{Coded, code_by, coded×, coded_ℕ, coded_list}
use Rattle.specs_layouts.specs.ToCome.{IsToCome}
use Rattle.specs_join.specs.Joins.{values_at}

-- the indices that are still to come, the join's mask, what its items are looked up in, and how many words of the mask are still to be read
pub record Joining (M V : Type 0) : Type 0 where
  pub indices : List ℕ
  pub mask : M
  pub values : V
  pub unread : ℕ

-- it is stored as the tuple of its fields
abbrev pub joining_code : {M V : Type 0} → Coded M → Coded V → Coded (Joining M V)
joining_code {M} {V} mask values =
    code_by (List ℕ × (M × (V × ℕ))) (coded× (coded_list coded_ℕ) (coded× mask (coded× values coded_ℕ)))
    (λ it. (it.indices, (it.mask, (it.values, it.unread))))
    (λ p. record { indices = p.0; mask = p.1.0; values = p.1.1.0; unread = p.1.1.1 })
    (λ _. refl)

-- what the items that are still to come show
abbrev pub items_left : {M V S : Type 0} → (V → ℕ → Option S) → Joining M V → List S
items_left value_at it = values_at (value_at it.values) it.indices

-- what is at an index below 2 ^ 24 that the mask has
abbrev pub found : {M V S : Type 0} → (M → ℕ → Bool) → (V → ℕ → Option S) → Joining M V → ℕ → Option S
found members value_at it index = if nat_lt index 16777216 && members it.mask index then value_at it.values index else None

-- the indices to come and those of the mask have a value
pub record IsJoining {S : Type 0} (members : ℕ → Bool) (values : ℕ → Option S) (indices : List ℕ) : Type 0 where
  pub known : (index : ℕ) → IsToCome index indices → IsSome (values index)
  pub complete : (index : ℕ) → index < 16777216 → members index ≡ true → IsSome (values index)
