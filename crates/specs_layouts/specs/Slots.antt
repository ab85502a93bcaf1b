-- Slots by index, each with a part or without.
use Rattle.std.specs.Prelude.{ℕ, List, Option, Some, None, slice_index_or}
use Rattle.std.specs.Vec.{with_item}
use Rattle.specs_layouts.specs.declared.storages.vec.VecStorage.{VecStorage}

-- the part in the slot of an index
abbrev pub slot_at : {T : Type 0} → List (Option T) → ℕ → Option T
slot_at slots index = slice_index_or slots index None

-- the slots of a storage
abbrev pub slots_of : {T : Type 0} → VecStorage T → List (Option T)
slots_of s = s.slots.items

-- the storage with a part in the slot of an index
abbrev pub with_part : {T : Type 0} → VecStorage T → ℕ → T → VecStorage T
with_part s index part = record s { slots = with_item s.slots index (Some part) }
