-- What the slots are after a write.
use Rattle.std.proofs.Common.{◌≡◌, ℕ, ◌<◌, List, [], length, Option, Some, None, set, IsSome, is_some, get_or-set_other, get_or-set_same, sym, ◌∙◌, ap, inl, inr}
use Rattle.std.proofs.lemmas.List.{get_or_past}
use Rattle.specs_layouts.specs.declared.storages.vec.VecStorage.{VecStorage}
use Rattle.std.proofs.lemmas.Bool.{cases_lt, false≢true}
use Rattle.specs_layouts.specs.Parts.{Puts, HasNone}
use Rattle.specs_layouts.specs.Slots.{slot_at, with_part}

-- a slot with a part is not past the end
pub slot_at-within : {T : Type 0} (slots : List (Option T)) (index : ℕ) → IsSome (slot_at slots index) → index < length slots
slot_at-within slots index there = elim (cases_lt index (length slots)) [
  | inl within ↦ within
  | inr past ↦ absurd (false≢true (sym (ap is_some (get_or_past slots index None past)) ∙ there))
]

-- writing a slot
pub slots-put : {T : Type 0} (slots : List (Option T)) (index : ℕ) (part : Option T) → index < length slots → Puts (slot_at slots) index part (slot_at (set slots index part))
slots-put slots index part within =
    record {
      here = get_or-set_same slots index part None within;
      others = λ other apart. get_or-set_other slots index other part None apart;
    }

-- writing a slot that has a part
pub with_part-puts : {T : Type 0} (s : VecStorage T) (index : ℕ) (part : T) → IsSome (slot_at s.slots.items index) → Puts (slot_at s.slots.items) index (Some part) (slot_at (with_part s index part).slots.items)
with_part-puts s index part there = slots-put s.slots.items index (Some part) (slot_at-within s.slots.items index there)

-- without slots there is no part
pub slots-start : {T : Type 0} (slots : List (Option T)) → slots ≡ [] → HasNone (slot_at slots)
slots-start slots none index = ap (λ (xs : List (Option _)). slot_at xs index) none
