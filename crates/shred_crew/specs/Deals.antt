-- Loads in slots: taken out by their numbers, and put back.
use Rattle.std.specs.Global.{Vec}
use Rattle.std.specs.Prelude.{ℕ, ◌++◌, ◌≡◌, ◌≤◌, Option, None, Some, List, [], ◌∷◌, length, slice_index_or, slice_set, map, vec_capacity}
use Rattle.std.specs.List.{AllZip, flat_map}
use Rattle.shred_crew.specs.declared.numbered.Numbered.{Numbered}

-- the lists of some rows
abbrev pub lists : {T : Type 0} → List (Vec T) → List (List T)
lists rows = map (λ row. row.items) rows

-- a row has one more
abbrev pub put_at : {A : Type 0} → List (List A) → ℕ → A → List (List A)
put_at rows row a = slice_set rows row (slice_index_or rows row [] ++ a ∷ [])

-- what is in the slot of a number
abbrev pub slot_at : {A : Type 0} → List (Option A) → ℕ → Option A
slot_at slots number = slice_index_or slots number None

-- the load of a number, where there is one
abbrev pub numbered : {A : Type 0} → ℕ → Option A → List (Numbered A)
numbered number None = []
numbered number (Some load) = record { number = number; load = load } ∷ []

-- slots out of which the loads of some numbers were taken
abbrev pub vacated : {A : Type 0} → List ℕ → List (Option A) → List (Option A)
vacated [] slots = slots
vacated (number ∷ numbers) slots = vacated numbers (slice_set slots number None)

-- those loads, in the order of the numbers
abbrev pub standing : {A : Type 0} → List ℕ → List (Option A) → List (Numbered A)
standing [] slots = []
standing (number ∷ numbers) slots = numbered number (slot_at slots number) ++ standing numbers (slice_set slots number None)

-- slots into which a load was put, where that of its number is empty: a second one of a number isn't taken
abbrev pub with_load : {A : Type 0} → Numbered A → Option A → List (Option A) → List (Option A)
with_load one None slots = slice_set slots one.number (Some one.load)
with_load one (Some load) slots = slots

-- slots into which some loads were put, the last first
abbrev pub returned : {A : Type 0} → List (Numbered A) → List (Option A) → List (Option A)
returned [] slots = slots
returned (one ∷ others) slots = with_load one (slot_at (returned others slots) one.number) (returned others slots)

-- the loads that are in their slots
abbrev pub loads_in : {A : Type 0} → List (Option A) → List A
loads_in [] = []
loads_in (None ∷ slots) = loads_in slots
loads_in (Some load ∷ slots) = load ∷ loads_in slots

-- the loads of some rows, one after the other
abbrev pub all_of : {T : Type 0} → List (Vec T) → List T
all_of rows = flat_map (λ row. row.items) rows

-- an empty row for each share, with room for it
abbrev pub AreRoomy : {T : Type 0} → List (Vec ℕ) → List (Vec T) → Type 0
AreRoomy shares rows = AllZip (λ share row. (row.items ≡ []) × (length share.items ≤ vec_capacity row)) shares rows

-- rows without a load
abbrev pub AreEmpty : {T : Type 0} → List (Vec T) → Type 0
AreEmpty [] = Unit {0}
AreEmpty (row ∷ rows) = (row.items ≡ []) × AreEmpty rows

-- each row has the room that it had
abbrev pub KeepTheirRoom : {T : Type 0} → List (Vec T) → List (Vec T) → Type 0
KeepTheirRoom rows after = AllZip (λ row one. vec_capacity one ≡ vec_capacity row) rows after

-- so many loads, and the numbers of those of each worker
pub record Sharing : Type 0 where
  pub count : ℕ
  pub shares : List (List ℕ)

-- a load was worked on, and has its number still
abbrev pub IsWorkedOn : {A : Type 0} → (A → A → Type 0) → Numbered A → Numbered A → Type 0
IsWorkedOn does before after = (after.number ≡ before.number) × does before.load after.load
