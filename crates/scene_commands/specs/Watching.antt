-- Readers of the events of a world, and what stays of a world as they are registered.
use Rattle.std.specs.Prelude.{◌≡◌, ◌≢◌, ◌<◌, ℕ, Bool, true, false, List, [], ◌∷◌, length, Option, IsSome, slice_index_or}
use Rattle.shred_world.specs.declared.resource_id.ResourceId.{ResourceId}
use Rattle.shred_world.specs.ResourceIds.{same_id}
use Rattle.specs_layouts.specs.Channels.{Log, CaughtUp}
use Rattle.specs_layouts.specs.Parts.{SameParts}
use Rattle.specs_layouts.specs.declared.track.ComponentEvent.{ComponentEvent}
use Rattle.scene_model.specs.Parts.{Name, is_among, name_at}
use Rattle.scene_world.specs.Standing.{Sight, Kinds, column_in, events_in, emits_in, marker_in, marker_events_in, marker_emits_in}
use Rattle.scene_world.specs.Telling.{CatchesUp, TellsAll}
use Rattle.scene_commands.specs.Elsewhere.{StaysBut}
use Rattle.scene_commands.specs.declared.watching.ReaderTurn.{ReaderTurn}
use Rattle.scene_commands.specs.declared.watching.ReaderTurn.TheVariants.{Frame, Next}
use Rattle.scene_commands.specs.declared.watching.Watcher.{Watcher}
use Rattle.scene_commands.specs.declared.watching.Watchers.{Watchers}

-- two readers of a log have read all
pub record HaveRead (log : Log ComponentEvent) (watcher : Watcher) : Type 0 where
  pub frame : CaughtUp log watcher.frame
  pub next : CaughtUp log watcher.next
  pub differ : watcher.frame ≢ watcher.next

-- the one of two readers who reads at a turn
abbrev pub reader_at : ReaderTurn → Watcher → ℕ
reader_at Frame watcher = watcher.frame
reader_at Next watcher = watcher.next

-- the readers of the kind at a place
abbrev pub watcher_at : List Watcher → ℕ → Watcher
watcher_at watchers place = slice_index_or watchers place (record { frame = 0; next = 0 })

-- there are two readers more, who have read all, as those have who had before; from now on each change is told, and no part is another
pub record GainsWatcher {S T : Type 0} (part_at : S → ℕ → Option T) (events : S → Log ComponentEvent) (emits : S → Bool) (watcher : Watcher) (before after : S) : Type 0 where
  pub read : HaveRead (events after) watcher
  pub telling : emits after ≡ true
  pub kept : (reader : ℕ) → CaughtUp (events before) reader → CaughtUp (events after) reader
  pub parts : SameParts (part_at before) (part_at after)

module _ {V : Type 0} (kinds : Kinds V) where
  -- the events of a kind have two readers more, and all else is as it was
  pub record WatchesKind (kind : Name) (watcher : Watcher) (w later : Sight V) : Type 0 where
    pub gains : GainsWatcher (column_in kinds kind) (events_in kinds kind) (emits_in kinds kind) watcher (w (kinds.part_id kind)) (later (kinds.part_id kind))
    pub others : StaysBut (kinds.part_id kind) w later

  -- so have those of the markers
  pub record WatchesMarkers (watcher : Watcher) (w later : Sight V) : Type 0 where
    pub gains : GainsWatcher (marker_in kinds) (marker_events_in kinds) (marker_emits_in kinds) watcher (w kinds.markers_id) (later kinds.markers_id)
    pub there : IsSome (later kinds.markers_id)
    pub others : StaysBut kinds.markers_id w later

  -- a reader of a kind has read all of its events, and all else is as it was
  pub record ReadsKind (kind : Name) (reader : ℕ) (w later : Sight V) : Type 0 where
    pub reads : CatchesUp (column_in kinds kind) (events_in kinds kind) (emits_in kinds kind) reader (w (kinds.part_id kind)) (later (kinds.part_id kind))
    pub others : StaysBut (kinds.part_id kind) w later

  -- so has one of the markers
  pub record ReadsMarkers (reader : ℕ) (w later : Sight V) : Type 0 where
    pub reads : CatchesUp (marker_in kinds) (marker_events_in kinds) (marker_emits_in kinds) reader (w kinds.markers_id) (later kinds.markers_id)
    pub there : IsSome (w kinds.markers_id) → IsSome (later kinds.markers_id)
    pub others : StaysBut kinds.markers_id w later

  -- at the first of some kinds those readers who read at a turn have read all
  abbrev pub KindsCatchUp : ReaderTurn → List Name → List Watcher → ℕ → Sight V → Sight V → Type 0
  KindsCatchUp turn names watchers count w later = (place : ℕ) → place < count
      → CatchesUp (column_in kinds (name_at names place)) (events_in kinds (name_at names place)) (emits_in kinds (name_at names place)) (reader_at turn (watcher_at watchers place)) (w (kinds.part_id (name_at names place))) (later (kinds.part_id (name_at names place)))

  -- those readers of the markers and of each kind who read at a turn have read all
  pub record AllCatchUp (turn : ReaderTurn) (names : List Name) (watchers : Watchers) (w later : Sight V) : Type 0 where
    pub markers : CatchesUp (marker_in kinds) (marker_events_in kinds) (marker_emits_in kinds) (reader_at turn watchers.markers) (w kinds.markers_id) (later kinds.markers_id)
    pub parts : KindsCatchUp turn names watchers.parts.items (length names) w later

  -- a kind of the rules is told of, and two readers have read all of its events
  pub record KindIsWatched (w : Sight V) (kind : Name) (watcher : Watcher) : Type 0 where
    pub known : is_among kind kinds.part_names ≡ true
    pub telling : emits_in kinds kind (w (kinds.part_id kind)) ≡ true
    pub read : HaveRead (events_in kinds kind (w (kinds.part_id kind))) watcher

  -- each of some kinds is, by two readers of its own
  abbrev pub AreWatchedIn : Sight V → List Name → List Watcher → Type 0
  AreWatchedIn w [] [] = Unit {0}
  AreWatchedIn w [] (watcher ∷ watchers) = ⊥
  AreWatchedIn w (kind ∷ names) [] = ⊥
  AreWatchedIn w (kind ∷ names) (watcher ∷ watchers) = KindIsWatched w kind watcher × AreWatchedIn w names watchers

  -- two readers have read all of the markers' events, and two of those of each kind
  pub record AreWatched (names : List Name) (watchers : Watchers) (w : Sight V) : Type 0 where
    pub markers : HaveRead (marker_events_in kinds (w kinds.markers_id)) watchers.markers
    pub parts : AreWatchedIn w names watchers.parts.items

  -- nothing in a world is another but the events that tell of its markers and parts
  pub record StaysButEvents (w later : Sight V) : Type 0 where
    pub markers : (index : ℕ) → marker_in kinds (later kinds.markers_id) index ≡ marker_in kinds (w kinds.markers_id) index
    pub there : IsSome (w kinds.markers_id) → IsSome (later kinds.markers_id)
    pub parts : (kind : Name) → is_among kind kinds.part_names ≡ true → (index : ℕ) → column_in kinds kind (later (kinds.part_id kind)) index ≡ column_in kinds kind (w (kinds.part_id kind)) index
    pub others : (id : ResourceId) → same_id id kinds.markers_id ≡ false → ((kind : Name) → is_among kind kinds.part_names ≡ true → same_id id (kinds.part_id kind) ≡ false) → later id ≡ w id

  -- readers of the events of some kinds were registered
  pub record WatchesKinds (names : List Name) (watchers : List Watcher) (w later : Sight V) : Type 0 where
    pub watched : AreWatchedIn later names watchers
    pub markers : later kinds.markers_id ≡ w kinds.markers_id
    pub stays : StaysButEvents w later

  -- those readers of some kinds who read at a turn have read all
  pub record ReadsKinds (turn : ReaderTurn) (names : List Name) (watchers : List Watcher) (w later : Sight V) : Type 0 where
    pub caught : KindsCatchUp turn names watchers (length names) w later
    pub telling : TellsAll kinds w → TellsAll kinds later
    pub markers : later kinds.markers_id ≡ w kinds.markers_id
    pub stays : StaysButEvents w later
