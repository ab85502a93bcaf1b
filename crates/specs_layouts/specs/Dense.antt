-- Parts without gaps: a table tells the place of each index, and a list the owner of each place.
use Rattle.std.specs.Prelude.{◌≡◌, ℕ, ◌<◌, Bool, ◌&&◌, ◌==◌, nat_lt, List, length, Option, None, slice_get, slice_index, slice_set, if◌then◌else◌}

-- the place that the table has for each index, the index that owns each place, and the part there
pub record Dense (T : Type 0) : Type 0 where
  pub places : List ℕ
  pub owners : List ℕ
  pub parts : List T

-- whether an index owns a place: the table has a place for it, whose owner it is
abbrev pub owns : List ℕ → List ℕ → ℕ → Bool
owns places owners index =
    nat_lt index (length places) && (nat_lt (slice_index places index) (length owners) && (slice_index owners (slice_index places index) == index))

-- the part at the place of an index that owns one
abbrev pub dense_part : {T : Type 0} → Dense T → ℕ → Option T
dense_part s index =
    if owns s.places s.owners index then slice_get s.parts (slice_index s.places index) else None

-- the storage with a part in the place of an index
abbrev pub with_dense_part : {T : Type 0} → Dense T → ℕ → T → Dense T
with_dense_part s index part = record s { parts = slice_set s.parts (slice_index s.places index) part }

-- each place has a part and an owner below the end of the table, which tells that place
pub record IsDense (places owners : List ℕ) (count : ℕ) : Type 0 where
  pub same : length owners ≡ count
  pub known : (place : ℕ) → place < length owners → slice_index owners place < length places
  pub placed : (place : ℕ) → place < length owners → slice_index places (slice_index owners place) ≡ place
