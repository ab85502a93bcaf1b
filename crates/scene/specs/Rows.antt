-- What is kept of a scene, by the indices of its world.
use Rattle.std.specs.Prelude.{◌≡◌, ◌≤◌, ◌+◌, ℕ, min, List, length, Option, option_map, option_and_then, slice_get}
use Rattle.std.specs.List.{All}
use Rattle.scene_model.specs.Slots.{filled}
use Rattle.scene.specs.declared.snapshot.kept.KeptScene.{KeptScene}

-- what each index bears, from index 0 on: an id, or none
abbrev pub seats_kept : {D G : Type 0} → KeptScene D G → List (Option ℕ)
seats_kept kept = kept.seats.items

-- the id that an index bears
abbrev pub seat_at : {D G : Type 0} → KeptScene D G → ℕ → Option ℕ
seat_at kept index = filled (slice_get kept.seats.items index)

-- for how many kinds there is a row at an index
abbrev pub kinds_kept : {D G : Type 0} → KeptScene D G → ℕ
kinds_kept kept = length kept.columns.items

-- what stands at an index for the kind at a place
abbrev pub datum_at : {D G : Type 0} → KeptScene D G → ℕ → ℕ → Option D
datum_at kept place index = option_and_then (λ column. filled (slice_get column.items index)) (slice_get kept.columns.items place)

-- the entry at an index: the id that it bears, with its row
abbrev pub entry_at : {D G : Type 0} → KeptScene D G → ℕ → Option (ℕ × (ℕ → Option D))
entry_at kept index = option_map (λ id. (id, λ place. datum_at kept place index)) (seat_at kept index)

-- a change more, up to the greatest number of 64 bits
abbrev pub counted : ℕ → ℕ
counted changes = min (changes + 1) 18446744073709551615

-- there is room for so many indices
pub record HasRoom {D G : Type 0} (count : ℕ) (kept : KeptScene D G) : Type 0 where
  pub seats : count ≤ length kept.seats.items
  pub columns : All (λ column. count ≤ length column.items) kept.columns.items

-- kinds, next id and globals stay
pub record SameCourse {D G : Type 0} (before after : KeptScene D G) : Type 0 where
  pub kinds : kinds_kept after ≡ kinds_kept before
  pub next : after.next ≡ before.next
  pub globals : after.globals ≡ before.globals

-- the globals and the next id are these, and nothing else changed
pub record IsSettled {D G : Type 0} (before : KeptScene D G) (next : ℕ) (globals : G) (after : KeptScene D G) : Type 0 where
  pub next_is : after.next ≡ next
  pub globals_are : after.globals ≡ globals
  pub seats : after.seats ≡ before.seats
  pub columns : after.columns ≡ before.columns
  pub changes : after.changes ≡ before.changes
