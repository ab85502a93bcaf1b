-- What a walk over a storage and a join beside it has at its indices.
use Rattle.std.specs.Prelude.{◌≡◌, ℕ, Bool, true, List, Option, IsSome}
use Rattle.hibitset_sets.specs.BitSet.{SetWithRoom, has_member}
use Rattle.hibitset_sets.specs.Operators.{members_of_and}
use Rattle.specs_layouts.specs.ToCome.{IsToCome}

-- the indices of both masks
abbrev pub shared : {M : Type 0} → (M → ℕ → Bool) → SetWithRoom → M → ℕ → Bool
shared members parts mask = members_of_and (has_member parts) (members mask)

-- an index has a part, and a value of the join
abbrev pub IsAt : {V S : Type 0} → (V → ℕ → Option S) → SetWithRoom → V → ℕ → Type 0
IsAt value_at parts values index = (has_member parts index ≡ true) × IsSome (value_at values index)

-- each index to come has a part and a value
abbrev pub IsReady : {V S : Type 0} → (V → ℕ → Option S) → SetWithRoom → V → List ℕ → Type 0
IsReady value_at parts values left = (index : ℕ) → IsToCome index left → IsAt value_at parts values index
