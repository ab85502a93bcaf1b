-- The parts of a masked storage, as a finite map.
use Rattle.std.specs.Prelude.{ℕ, List, [], ◌∷◌, Option, Some, None}
use Rattle.std.specs.FinMap as map
use Rattle.std.specs.FinSet as set
use Rattle.std.specs.Ordering.{nat_cmp}
use Rattle.hibitset_sets.specs.BitSet.{SetWithRoom}

-- the map with a part more, if there is one
abbrev pub with_entry : {T : Type 0} → map.FinMap nat_cmp T → ℕ → Option T → map.FinMap nat_cmp T
with_entry parts index None = parts
with_entry parts index (Some part) = map.insert parts index part

-- the parts at the indices of a list
abbrev pub entries_at : {T : Type 0} → (ℕ → Option T) → List ℕ → map.FinMap nat_cmp T
entries_at parts [] = map.empty
entries_at parts (index ∷ indices) = with_entry (entries_at parts indices) index (parts index)

-- the parts at the members of a mask
abbrev pub parts_under : {T : Type 0} → SetWithRoom → (ℕ → Option T) → map.FinMap nat_cmp T
parts_under mask parts = entries_at parts (set.items mask.members)
