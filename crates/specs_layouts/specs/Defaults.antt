-- Slots by index that always have a value: a part, or another value.
use Rattle.std.specs.Prelude.{◌≡◌, ℕ, ◌<◌, true, List, length, Option, None, slice_get, slice_set, refl, if◌then◌else◌}
use Rattle.std.specs.FinSet as set
use Rattle.std.specs.Ordering.{nat_cmp}
use Rattle.std.specs.Coded.{Coded, code_by, coded×, coded_list, coded_ℕ}

-- the values in the slots, and the indices whose value is a part
pub record Slots (T : Type 0) : Type 0 where
  pub values : List T
  pub present : set.FinSet nat_cmp

-- it is stored as the pair of its fields
abbrev pub slots_code : {T : Type 0} → Coded T → Coded (Slots T)
slots_code {T} code =
    code_by (List T × set.FinSet nat_cmp) (coded× (coded_list code) (set.code coded_ℕ)) (λ s. (s.values, s.present)) (λ p. record { values = p.0; present = p.1 }) (λ _. refl)

-- the part of an index that has one
abbrev pub filled_part : {T : Type 0} → Slots T → ℕ → Option T
filled_part s index = if set.contains s.present index then slice_get s.values index else None

-- the slots with a value in the slot of an index
abbrev pub with_filled_part : {T : Type 0} → Slots T → ℕ → T → Slots T
with_filled_part s index part = record s { values = slice_set s.values index part }

-- each part has its slot
abbrev pub HasSlots : {T : Type 0} → List T → set.FinSet nat_cmp → Type 0
HasSlots values present = (index : ℕ) → set.contains present index ≡ true → index < length values
