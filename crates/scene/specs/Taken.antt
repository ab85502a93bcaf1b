-- What is taken off a world to be kept; no public clause cites this.
use Rattle.std.specs.Prelude.{◌≡◌, ◌<◌, ◌≤◌, ℕ, Bool, true, List, [], ◌∷◌, length, map, Option, None, Some, IsSome, option_map, ◌==◌, if◌then◌else◌}
use Rattle.std.specs.List.{All, list_any, filter_map}
use Rattle.specs_entity.specs.Life.{LifeAt}
use Rattle.specs_layouts.specs.Flagged.{Flagged}
use Rattle.specs_layouts.specs.Masked.{Masked}
use Rattle.specs_layouts.specs.declared.storages.vec.VecStorage.{VecStorage}
use Rattle.scene_world.specs.Markers.{marker_at}
use Rattle.scene_model.specs.Parts.{Name, Part, name_at}
use Rattle.scene_world.specs.Stored.{part_under}
use Rattle.scene_world.specs.Rolls.{Roll, id_at, ref_to}
use Rattle.scene_world.specs.Standing.{Sight, Kinds, roll_of, column_of}
use Rattle.scene_world.specs.Putting.{each_there}
use Rattle.scene.specs.declared.snapshot.kept.KeptScene.{KeptScene}
use Rattle.scene.specs.Rows.{seat_at, datum_at}

-- these are the ids with which the indices of entities are marked
abbrev pub AreMarkedBy : Roll → List LifeAt → List ℕ → Type 0
AreMarkedBy roll named ids = map (λ entity. roll.marker entity.id) named ≡ map (λ id. Some id) ids

-- whether a number is one of these
abbrev pub is_one_of : List ℕ → ℕ → Bool
is_one_of numbers number = list_any (λ other. number == other) numbers

-- one of these numbers
abbrev pub IsAmong : List ℕ → ℕ → Type 0
IsAmong numbers number = is_one_of numbers number ≡ true

-- numbers, each behind itself
abbrev pub behind_themselves : List ℕ → List (ℕ × ℕ)
behind_themselves numbers = map (λ number. (number, number)) numbers

-- an id and its index the other way round
abbrev pub turned : List (ℕ × ℕ) → List (ℕ × ℕ)
turned pairs = map (λ pair. (pair.1, pair.0)) pairs

-- the id with which each of these indices is marked, before the index, where it is marked
abbrev pub marks_at : (ℕ → Option ℕ) → List (ℕ × ℕ) → List (ℕ × ℕ)
marks_at marker pairs = filter_map (λ pair. option_map (λ id. (id, pair.1)) (marker pair.1)) pairs

-- these are a storage's markers, each before its index
pub record AreMarkersOf (markers : Masked (Flagged (VecStorage ℕ))) (pairs : List (ℕ × ℕ)) : Type 0 where
  pub each : All (λ pair. marker_at markers pair.1 ≡ Some pair.0) pairs
  pub below : All (λ pair. pair.1 < 16777216) pairs
  pub all : (index : ℕ) → IsSome (marker_at markers index) → IsAmong (map (λ pair. pair.1) pairs) index
  pub few : length pairs ≤ 16777216

-- these are the ids of those who live, each before the index of its entity
pub record ArePairs (roll : Roll) (pairs : List (ℕ × ℕ)) : Type 0 where
  pub each : All (λ pair. id_at roll pair.1 ≡ Some pair.0) pairs
  pub below : All (λ pair. pair.1 < 16777216) pairs
  pub all : (index : ℕ) → IsSome (id_at roll index) → IsAmong (map (λ pair. pair.1) pairs) index
  pub few : length pairs ≤ 16777216

-- what stands behind a number in a list, the last of several, or what stood there before
abbrev pub with_last : {X : Type 0} → List (ℕ × X) → (ℕ → Option X) → ℕ → Option X
with_last [] before number = before number
with_last (one ∷ others) before number = with_last others (λ other. if other == one.0 then Some one.1 else before other) number

-- nothing is kept at any index
pub record IsBare {D G : Type 0} (kept : KeptScene D G) : Type 0 where
  pub seats : (index : ℕ) → seat_at kept index ≡ None
  pub rows : (place index : ℕ) → datum_at kept place index ≡ None

-- the part of a kind at an index, where each entity that it names is a reference to its id
abbrev pub part_at : {V : Type 0} → Kinds V → Sight V → ℕ → Name → Option Part
part_at kinds w index kind = option_map (part_under (ref_to (roll_of kinds w))) (column_of kinds w kind index)

module _ {V D : Type 0} (kinds : Kinds V) (part_of : D → Part) (w : Sight V) where
  -- these are the data of a kind at the indices of pairs, each behind the id of its pair
  abbrev pub AreOfPairs : Name → List (ℕ × ℕ) → List (ℕ × Option D) → Type 0
  AreOfPairs kind pairs found = each_there (option_map part_of) found ≡ each_there (λ index. part_at kinds w index kind) pairs

  -- what is kept at an index in the row of a kind is the part there
  abbrev pub IsRowOf : {G : Type 0} → Name → ℕ → KeptScene D G → ℕ → Type 0
  IsRowOf kind place kept index = option_map part_of (datum_at kept place index) ≡ part_at kinds w index kind

  -- so it is of the first of these kinds, each at its place
  abbrev pub AreRowsOf : {G : Type 0} → List Name → ℕ → KeptScene D G → Type 0
  AreRowsOf names count kept = (place : ℕ) → place < count → (index : ℕ) → IsRowOf (name_at names place) place kept index
