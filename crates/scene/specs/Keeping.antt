-- What is kept of a world by its indices, and what its readers tell of the change from one world to another.
use Rattle.std.specs.Prelude.{◌≡◌, ◌≢◌, ◌<◌, ◌≤◌, ◌+◌, ◌||◌, ℕ, Bool, false, List, [], ◌∷◌, length, count_by, is_some, IsSome, Result, OnOk}
use Rattle.hibitset_sets.specs.Walk.{walk}
use Rattle.shred_world.specs.Worlds.{Slots}
use Rattle.specs_layouts.specs.Channels.{Log, CaughtUp, IsReader, unread}
use Rattle.specs_layouts.specs.Tells.{Tells}
use Rattle.specs_layouts.specs.declared.track.ComponentEvent.{ComponentEvent}
use Rattle.scene_model.specs.Parts.{Name, Part, name_at}
use Rattle.scene_model.specs.Rulebook.{Book}
use Rattle.scene_world.specs.Ages.{Ages}
use Rattle.scene_world.specs.Rolls.{id_at}
use Rattle.scene_world.specs.Standing.{Sight, Kinds, roll_of, column_in, events_in, marker_in, marker_events_in, IsSceneWorld}
use Rattle.scene_world.specs.Telling.{TellsAll, is_told}
use Rattle.scene_commands.specs.Acts.{seen_of, GoesOn}
use Rattle.scene_commands.specs.Watching.{HaveRead, reader_at, watcher_at}
use Rattle.scene_commands.specs.declared.watching.ReaderTurn.{ReaderTurn}
use Rattle.scene_commands.specs.declared.watching.Watcher.{Watcher}
use Rattle.scene_commands.specs.declared.watching.Watchers.{Watchers}
use Rattle.scene.specs.declared.snapshot.kept.KeptScene.{KeptScene}
use Rattle.scene.specs.Rows.{seat_at, datum_at, kinds_kept, SameCourse}
use Rattle.scene.specs.Taken.{IsRowOf}

-- so many changes were counted more, where their number fits 64 bits
abbrev pub CountsMore : ℕ → ℕ → ℕ → Type 0
CountsMore before more after = before + more ≤ 18446744073709551615 → after ≡ before + more

-- how many of some indices bear an entry
abbrev pub bearing : {D G : Type 0} → KeptScene D G → List ℕ → ℕ
bearing kept indices = count_by (λ index. is_some (seat_at kept index)) indices

-- how many entries leave and enter where these indices are touched: those that were there, and those that are
abbrev pub changes_at : {D G : Type 0} → List ℕ → KeptScene D G → KeptScene D G → ℕ
changes_at touched before after = bearing before touched + bearing after touched

-- of the two readers of a log the one who reads as a frame ends has read all
pub record HaveReadFrame (log : Log ComponentEvent) (watcher : Watcher) : Type 0 where
  pub frame : CaughtUp log watcher.frame
  pub next : IsReader log watcher.next
  pub differ : watcher.frame ≢ watcher.next

-- two readers of a log have the same to read
pub record HaveAlike (log : Log ComponentEvent) (watcher : Watcher) : Type 0 where
  pub frame : IsReader log watcher.frame
  pub next : IsReader log watcher.next
  pub differ : watcher.frame ≢ watcher.next
  pub alike : unread log watcher.frame ≡ unread log watcher.next

-- the same entries, data, globals and next id are kept, and no change was counted
pub record SameEntries {D G : Type 0} (before after : KeptScene D G) : Type 0 where
  pub seats : (index : ℕ) → seat_at after index ≡ seat_at before index
  pub rows : (place index : ℕ) → datum_at after place index ≡ datum_at before place index
  pub course : SameCourse before after
  pub changes : after.changes ≡ before.changes

module _ {V : Type 0} (kinds : Kinds V) where
  -- nobody lives at an index that no set can have
  abbrev pub IsBelow : Sight V → Type 0
  IsBelow w = (index : ℕ) → IsSome (id_at (roll_of kinds w) index) → index < 16777216

  -- a reader of the markers' events is told of an index, and one of those of a kind
  abbrev pub mark_told : Sight V → ℕ → ℕ → Bool
  mark_told w reader index = is_told (marker_events_in kinds (w kinds.markers_id)) reader index

  abbrev pub part_told : Sight V → Name → ℕ → ℕ → Bool
  part_told w kind reader index = is_told (events_in kinds kind (w (kinds.part_id kind))) reader index

  -- the readers of some kinds who read at a turn are told of an index
  abbrev pub parts_told : ReaderTurn → Sight V → List Name → List Watcher → ℕ → Bool
  parts_told turn w [] watchers index = false
  parts_told turn w (kind ∷ names) [] index = false
  parts_told turn w (kind ∷ names) (one ∷ watchers) index = part_told w kind (reader_at turn one) index || parts_told turn w names watchers index

  -- an index is touched: the readers of the markers or of a kind who read at a turn have yet to read an event of it
  abbrev pub is_touched : ReaderTurn → List Name → Watchers → Sight V → ℕ → Bool
  is_touched turn names watchers w index = mark_told w (reader_at turn watchers.markers) index || parts_told turn w names watchers.parts.items index

  -- the indices that are touched, ascending
  abbrev pub touched_in : ReaderTurn → List Name → Watchers → Sight V → List ℕ
  touched_in turn names watchers w = walk (is_touched turn names watchers w)

  -- this holds of the log of the markers and its two readers, and of those of the kind at each place
  pub record OfEach (holds : Log ComponentEvent → Watcher → Type 0) (names : List Name) (watchers : Watchers) (w : Sight V) : Type 0 where
    pub many : length watchers.parts.items ≡ length names
    pub markers : holds (marker_events_in kinds (w kinds.markers_id)) watchers.markers
    pub parts : (place : ℕ) → place < length names → holds (events_in kinds (name_at names place) (w (kinds.part_id (name_at names place)))) (watcher_at watchers.parts.items place)

  -- the readers who read as a frame ends tell of each marker, and of each part, that is another in a later world, and time went on
  pub record AreToldSince (names : List Name) (watchers : Watchers) (w later : Sight V) : Type 0 where
    pub markers : Tells (marker_in kinds) (marker_events_in kinds) watchers.markers.frame (w kinds.markers_id) (later kinds.markers_id)
    pub parts : (place : ℕ) → place < length names
        → Tells (column_in kinds (name_at names place)) (events_in kinds (name_at names place)) (watcher_at watchers.parts.items place).frame (w (kinds.part_id (name_at names place))) (later (kinds.part_id (name_at names place)))
    pub ages : Ages (roll_of kinds w) (roll_of kinds later)

  module _ {D G : Type 0} (part_of : D → Part) where
    -- what is kept is the full save of a world, by its indices: each bears the id of who lives there, and its row has the parts there
    pub record IsFullByIndex (names : List Name) (kept : KeptScene D G) (w : Sight V) : Type 0 where
      pub kinds_are : kinds_kept kept ≡ length names
      pub seats : (index : ℕ) → seat_at kept index ≡ id_at (roll_of kinds w) index
      pub rows : (place : ℕ) → place < length names → (index : ℕ) → IsRowOf kinds part_of w (name_at names place) place kept index

    -- a scene stands in a world and is kept in full, and the readers who read as a frame ends have read all that became of it
    pub record IsKept (book : Book) (watchers : Watchers) (kept : KeptScene D G) (w : Sight V) : Type 0 where
      pub stands : IsSceneWorld kinds book w
      pub below : IsBelow w
      pub full : IsFullByIndex book.part_names kept w
      pub watched : OfEach HaveReadFrame kinds.part_names watchers w
      pub telling : TellsAll kinds w

    -- it was so of a world, all of whose readers had read all, and whose systems have come to this outcome since
    abbrev pub IsKeptSince : {A E : Type 0} → Book → Watchers → KeptScene D G → Slots V → Result A E → Type 0
    IsKeptSince book watchers kept later outcome = (w : Slots V) × IsKept book watchers kept (seen_of w) × OfEach HaveRead kinds.part_names watchers (seen_of w) × OnOk outcome (GoesOn kinds w later)
