-- What the events of a scene's world show of the change from one world to another, and what their readers are told.
use Rattle.std.specs.Prelude.{◌≡◌, ◌≢◌, ◌<◌, ◌||◌, ◌&&◌, ◌++◌, ℕ, nat_lt, Bool, true, [], ◌∷◌, Option, length}
use Rattle.hibitset_sets.specs.BitSet.{SetWithRoom, has_member}
use Rattle.specs_layouts.specs.Blocks.{is_named}
use Rattle.specs_layouts.specs.Channels.{Log, CaughtUp, IsReader, unread}
use Rattle.specs_layouts.specs.Parts.{SameParts}
use Rattle.specs_layouts.specs.Shows.{Shows, index_of}
use Rattle.specs_layouts.specs.declared.track.ComponentEvent.{ComponentEvent}
use Rattle.scene_model.specs.Parts.{Name, is_among}
use Rattle.scene_world.specs.Standing.{Sight, Kinds, column_in, events_in, emits_in, marker_in, marker_events_in, marker_emits_in}

module _ {V : Type 0} (kinds : Kinds V) where
  -- the events of a kind show what became of its parts
  abbrev pub ShowsKind : Name → Sight V → Sight V → Type 0
  ShowsKind kind w later = Shows (column_in kinds kind) (events_in kinds kind) (emits_in kinds kind) (w (kinds.part_id kind)) (later (kinds.part_id kind))

  -- the events of the markers show what became of them
  abbrev pub ShowsMarkers : Sight V → Sight V → Type 0
  ShowsMarkers w later = Shows (marker_in kinds) (marker_events_in kinds) (marker_emits_in kinds) (w kinds.markers_id) (later kinds.markers_id)

  -- the events of a world show what became of its markers and of the parts of each kind
  pub record ShowsWorld (w later : Sight V) : Type 0 where
    pub parts : (kind : Name) → is_among kind kinds.part_names ≡ true → ShowsKind kind w later
    pub markers : ShowsMarkers w later

  -- each change of a marker or of a part is told
  pub record TellsAll (w : Sight V) : Type 0 where
    pub parts : (kind : Name) → is_among kind kinds.part_names ≡ true → emits_in kinds kind (w (kinds.part_id kind)) ≡ true
    pub markers : marker_emits_in kinds (w kinds.markers_id) ≡ true

-- a log with a reader more, who has read all
abbrev pub with_reader_more : {E : Type 0} → Log E → Log E
with_reader_more log = record { held = log.held; places = log.places ++ length log.held ∷ [] }

module _ {S T : Type 0} (part_at : S → ℕ → Option T) (events : S → Log ComponentEvent) (emits : S → Bool) where
  -- there is a reader of this number more, who has read all, and from now on each change is told; no part is another
  pub record GainsReader (reader : ℕ) (before after : S) : Type 0 where
    pub number : reader ≡ length (events before).places
    pub log : events after ≡ with_reader_more (events before)
    pub caught_up : CaughtUp (events after) reader
    pub telling : emits after ≡ true
    pub parts : SameParts (part_at before) (part_at after)

  -- a reader has read all, and the others have what they had to read; no part is another, and changes are told as before
  pub record CatchesUp (reader : ℕ) (before after : S) : Type 0 where
    pub read : unread (events after) reader ≡ []
    pub others : (other : ℕ) → other ≢ reader → unread (events after) other ≡ unread (events before) other
    pub caught_up : reader < length (events before).places → CaughtUp (events after) reader
    pub readers : (other : ℕ) → IsReader (events before) other → IsReader (events after) other
    pub emission : emits after ≡ emits before
    pub parts : SameParts (part_at before) (part_at after)

-- an index below 16,777,216 is one of which a reader has yet to read an event
abbrev pub is_told : Log ComponentEvent → ℕ → ℕ → Bool
is_told log reader index = nat_lt index 16777216 && is_named index_of (unread log reader) index

-- a set has what it had, and the indices of which a reader has yet to read events
abbrev pub TakesTold : Log ComponentEvent → ℕ → SetWithRoom → SetWithRoom → Type 0
TakesTold log reader before after = (index : ℕ) → has_member after index ≡ (has_member before index || is_told log reader index)

-- a set has what it had, and some of them
pub record TakesSome (log : Log ComponentEvent) (reader : ℕ) (before after : SetWithRoom) : Type 0 where
  pub told : (index : ℕ) → has_member after index ≡ true → (has_member before index || is_told log reader index) ≡ true
  pub kept : (index : ℕ) → has_member before index ≡ true → has_member after index ≡ true
