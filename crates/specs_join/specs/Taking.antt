-- Changes that are taken out beside the items of a join: what is still to come.
use Rattle.std.specs.Prelude.{ℕ, Bool, List, Option, IsSome}
use Rattle.hibitset_sets.specs.BitSet.{SetWithRoom, has_member}
use Rattle.hibitset_sets.specs.Operators.{members_of_and}
use Rattle.hibitset_sets.specs.declared.ops.BitSetAnd.{BitSetAnd}
use Rattle.specs_layouts.specs.ToCome.{IsToCome}
use Rattle.specs_join.specs.Joins.{values_at, both}

-- the indices of a kept set and of another
abbrev pub in_both : {M : Type 0} → (M → ℕ → Bool) → BitSetAnd SetWithRoom M → ℕ → Bool
in_both members sets = members_of_and (has_member sets.0) (members sets.1)

-- the changes at the indices of a list, each beside the value there
abbrev pub taken_at : {T S : Type 0} → (ℕ → Option T) → (ℕ → Option S) → List ℕ → List (T × S)
taken_at changes values indices = values_at (λ index. both (changes index) (values index)) indices

-- each index of a list has a change and a value
abbrev pub HasBoth : {T S : Type 0} → (ℕ → Option T) → (ℕ → Option S) → List ℕ → Type 0
HasBoth changes values indices = (index : ℕ) → IsToCome index indices → IsSome (changes index) × IsSome (values index)
