-- Parts as entries, each with its index.
use Rattle.std.specs.Prelude.{ℕ, List, Option, nat_eq}
use Rattle.std.specs.Ordering.{nat_cmp}
use Rattle.std.specs.BTreeMap.{is_at}
use Rattle.std.specs.Map.{lookup, set_value}

-- the part of the entry at an index, as a tree finds it
abbrev pub tree_part : {T : Type 0} → List (ℕ × T) → ℕ → Option T
tree_part entries index = lookup (is_at (nat_cmp index)) entries

-- the entries with a part in the entry at an index
abbrev pub with_tree_part : {T : Type 0} → List (ℕ × T) → ℕ → T → List (ℕ × T)
with_tree_part entries index part = set_value (is_at (nat_cmp index)) entries part

-- the part of the entry at an index, as a table finds it
abbrev pub table_part : {T : Type 0} → List (ℕ × T) → ℕ → Option T
table_part entries index = lookup (nat_eq index) entries

-- the entries with a part in the entry at an index
abbrev pub with_table_part : {T : Type 0} → List (ℕ × T) → ℕ → T → List (ℕ × T)
with_table_part entries index part = set_value (nat_eq index) entries part
