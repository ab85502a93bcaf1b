-- Indices that have the one value.
use Rattle.std.specs.Prelude.{ℕ, Option, Some, None, if◌then◌else◌}
use Rattle.std.specs.FinSet as set
use Rattle.std.specs.Ordering.{nat_cmp}
use Rattle.specs_layouts.specs.declared.storages.null.NullStorage.{NullStorage}

-- the indices that have it
abbrev pub flagged : {T : Type 0} → NullStorage T → set.FinSet nat_cmp
flagged s = s.present.members

-- the value, where the index has it
abbrev pub flag_part : {T : Type 0} → NullStorage T → ℕ → Option T
flag_part s index = if set.contains (flagged s) index then Some s.value else None

-- the storage with that value
abbrev pub with_flag_part : {T : Type 0} → NullStorage T → ℕ → T → NullStorage T
with_flag_part s index part = record s { value = part }
