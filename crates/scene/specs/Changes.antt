-- What becomes of rows that are kept, and of the entries at indices that are touched; no public clause cites this.
use Rattle.std.specs.Prelude.{◌≡◌, ◌<◌, ◌⊎◌, ℕ, Bool, true, List, length, map, Option, None, Some, slice_get, if◌then◌else◌}
use Rattle.std.specs.List.{All}
use Rattle.hibitset_sets.specs.Walk.{walk}
use Rattle.scene_model.specs.Parts.{Name, Part, name_at}
use Rattle.scene_world.specs.Putting.{each_there}
use Rattle.scene_world.specs.Standing.{Sight, Kinds}
use Rattle.scene_commands.specs.declared.watching.Watcher.{Watcher}
use Rattle.scene.specs.Rows.{seat_at}
use Rattle.scene.specs.declared.snapshot.kept.KeptScene.{KeptScene}
use Rattle.scene_commands.specs.Watching.{watcher_at}
use Rattle.scene.specs.Keeping.{part_told}
use Rattle.scene.specs.Taken.{IsAmong, is_one_of, behind_themselves, with_last, AreOfPairs}
use Rattle.scene.specs.declared.changes.RowChange.{RowChange}

module _ {V D : Type 0} (kinds : Kinds V) (part_of : D → Part) (w : Sight V) where
  -- a change of a kind's row: the indices that are told, ascending, and what stands there
  pub record IsChange (kind : Name) (told : ℕ → Bool) (change : RowChange D) : Type 0 where
    pub indices : change.indices.items ≡ behind_themselves (walk told)
    pub found : AreOfPairs kinds part_of w kind change.indices.items change.found.items

  -- changes of the rows of the first of some kinds, each by what the kind's reader is told
  pub record AreChanges (names : List Name) (watchers : List Watcher) (count : ℕ) (changes : List (RowChange D)) : Type 0 where
    pub many : length changes ≡ count
    pub each : (place : ℕ) (change : RowChange D) → slice_get changes place ≡ Some change
        → IsChange (name_at names place) (part_told kinds w (name_at names place) (watcher_at watchers place).frame) change

module _ {V : Type 0} (kinds : Kinds V) (w : Sight V) where
  -- each index of which a reader of the first of some kinds is told is touched
  abbrev pub AreTouched : List Name → List Watcher → ℕ → (ℕ → Bool) → Type 0
  AreTouched names watchers count touched = (place : ℕ) → place < count → (index : ℕ) → part_told kinds w (name_at names place) (watcher_at watchers place).frame index ≡ true → touched index ≡ true

  -- and what is touched more than before is told by such a reader
  abbrev pub OnlyTouched : List Name → List Watcher → ℕ → (ℕ → Bool) → (ℕ → Bool) → Type 0
  OnlyTouched names watchers count before after = (index : ℕ) → after index ≡ true
      → (before index ≡ true) ⊎ ((place : ℕ) × (place < count) × (part_told kinds w (name_at names place) (watcher_at watchers place).frame index ≡ true))

-- the data of a change stand at its indices, which are below a number
pub record IsSound {D : Type 0} (count : ℕ) (change : RowChange D) : Type 0 where
  pub below : All (λ pair. pair.1 < count) change.indices.items
  pub within : All (λ one. IsAmong (map (λ pair. pair.1) change.indices.items) one.0) (each_there (λ one. one) change.found.items)

-- what a row has at an index after a change, by what it had
abbrev pub row_after : {D : Type 0} → Option (RowChange D) → (ℕ → Option D) → ℕ → Option D
row_after None before index = before index
row_after (Some change) before index = with_last (each_there (λ one. one) change.found.items) (λ at. if is_one_of (map (λ pair. pair.1) change.indices.items) at then None else before at) index

-- indices bear nothing
abbrev pub AreFree : {D G : Type 0} → KeptScene D G → RowChange D → Type 0
AreFree kept change = All (λ pair. seat_at kept pair.1 ≡ None) change.indices.items
