-- Readers of a world's events, who had read all, tell of what became of it, and what is kept of a world stays where its events alone are others.
use Rattle.std.proofs.Common.{◌≡◌, ◌<◌, ◌++◌, ℕ, zero, suc, Bool, true, nat_lt, ◌&&◌, ◌||◌, List, [], ◌∷◌, drop, length, get_or, Option, option_map, IsSome, refl, ap, sym, subst, ◌∙◌, arith}
use Rattle.std.proofs.lemmas.List.{drop_all, length-drop, get_or_default}
use Rattle.std.proofs.Math.Path.{fun_ext}
use Rattle.shred_world.specs.Worlds.{Slots}
use Rattle.shred.specs.Dispatching.{Dispatching}
use Rattle.hibitset_sets.specs.Walk.{walk}
use Rattle.specs_layouts.specs.Blocks.{is_named}
use Rattle.specs_layouts.specs.Channels.{Log, CaughtUp, IsReader, unread, with_more}
use Rattle.specs_layouts.specs.Shows.{Shows, index_of}
use Rattle.specs_layouts.specs.declared.track.ComponentEvent.{ComponentEvent}
use Rattle.specs_layouts.proofs.CallerLemmas.{caught-reads, tells-first, tells-more}
use Rattle.scene_model.specs.Parts.{Name, Part, is_among, name_at}
use Rattle.scene_model.specs.Rulebook.{Book}
use Rattle.scene_model.specs.Scenes.{PlainScene}
use Rattle.scene_world.specs.Lent.{StandApart}
use Rattle.scene_world.specs.Rolls.{id_at, ref_to}
use Rattle.scene_world.specs.Standing.{Sight, Kinds, IsSceneWorld, plain_of, roll_of, column_in, column_of, events_in, emits_in, marker_in, marker_events_in, marker_emits_in}
use Rattle.scene_world.specs.Stored.{part_under}
use Rattle.scene_world.specs.Telling.{CatchesUp, TellsAll}
use Rattle.scene_world.specs.Turns.{Meaning}
use Rattle.scene_world.proofs.CallerLemmas.{tells-on}
use Rattle.scene_commands.specs.Acts.{seen_of, GoesOn}
use Rattle.scene_commands.specs.Watching.{HaveRead, AreWatched, AreWatchedIn, KindIsWatched, AllCatchUp, StaysButEvents, watcher_at}
use Rattle.scene_commands.specs.declared.watching.ReaderTurn.TheVariants.{Frame, Next}
use Rattle.scene_commands.specs.declared.watching.Watcher.{Watcher}
use Rattle.scene_commands.specs.declared.watching.Watchers.{Watchers}
use Rattle.scene_commands.proofs.CatchLemmas.{name-known}
use Rattle.scene_commands.proofs.WatchLemmas.{roll-stays, stands-still}
use Rattle.scene.specs.declared.snapshot.kept.KeptScene.{KeptScene}
use Rattle.scene.specs.Keeping.{HaveReadFrame, HaveAlike, OfEach, IsBelow, AreToldSince, IsFullByIndex, IsKept, mark_told, parts_told, touched_in}
use Rattle.scene.specs.Waiting.{NoneWaits}
use Rattle.scene.specs.Running.{Stands}
use Rattle.scene.specs.Taken.{part_at}
use Rattle.scene.proofs.CountingLemmas.{told-same}

-- ---- the two readers of a log

module _ {E : Type 0} (log : Log E) (reader : ℕ) where
  -- who has nothing to read has read all,
  all-read : IsReader log reader → unread log reader ≡ [] → CaughtUp log reader
  all-read is none = record {
    known = is.known;
    all =
        let within = is.within in let known = is.known in
        let same = get_or_default log.places reader (length log.held) 0 known in
        let left = sym (length-drop (get_or log.places reader (length log.held)) log.held) ∙ ap length none in
        omega (arith, within, same, left);
  }

  -- and who has read all has nothing to read,
  none-left : CaughtUp log reader → unread log reader ≡ []
  none-left caught = drop_all (get_or log.places reader (length log.held)) log.held (let all = caught.all in omega (arith, all))

  -- but what comes
  comes-more : (more : List E) → CaughtUp log reader → unread (with_more log more) reader ≡ drop (length log.held) (log.held ++ more)
  comes-more more caught = ap (λ n. drop n (log.held ++ more)) (get_or_default log.places reader (length (log.held ++ more)) (length log.held) caught.known ∙ caught.all)

module _ {S T : Type 0} (part_at : S → ℕ → Option T) (events : S → Log ComponentEvent) (emits : S → Bool) (watcher : Watcher) (before after : S) where
  -- as a frame begins the other reader has read all too
  next-caught : CatchesUp part_at events emits watcher.next before after → HaveReadFrame (events before) watcher → HaveRead (events after) watcher
  next-caught catches was = record {
    frame = all-read (events after) watcher.frame (catches.readers watcher.frame (caught-reads (events before) watcher.frame was.frame)) (catches.others watcher.frame was.differ ∙ none-left (events before) watcher.frame was.frame);
    next = let is = was.next in catches.caught_up is.known;
    differ = was.differ;
  }

  -- what comes in the frame both have to read
  alike-more : emits before ≡ true → Shows part_at events emits before after → HaveRead (events before) watcher → HaveAlike (events after) watcher
  alike-more telling shown were = record {
    frame = let tells = tells-more part_at events emits watcher.frame before before after (tells-first part_at events emits watcher.frame before (caught-reads (events before) watcher.frame were.frame)) telling shown in tells.reads;
    next = let tells = tells-more part_at events emits watcher.next before before after (tells-first part_at events emits watcher.next before (caught-reads (events before) watcher.next were.next)) telling shown in tells.reads;
    differ = were.differ;
    alike = ap (λ log. unread log watcher.frame) shown.told ∙ comes-more (events before) watcher.frame shown.more were.frame
        ∙ sym (comes-more (events before) watcher.next shown.more were.next) ∙ ap (λ log. unread log watcher.next) (sym shown.told);
  }

  -- as the frame ends the first reads it
  frame-caught : CatchesUp part_at events emits watcher.frame before after → HaveAlike (events before) watcher → HaveReadFrame (events after) watcher
  frame-caught catches were = record {
    frame = let is = were.frame in catches.caught_up is.known;
    next = catches.readers watcher.next were.next;
    differ = were.differ;
  }

  -- and what he had to read the other still has
  left-alike : CatchesUp part_at events emits watcher.frame before after → HaveAlike (events before) watcher → unread (events after) watcher.next ≡ unread (events before) watcher.frame
  left-alike catches were = catches.others watcher.next (λ same. were.differ (sym same)) ∙ sym were.alike

-- ---- those of a world

module _ {V : Type 0} (kinds : Kinds V) (watchers : Watchers) where
  -- as a frame begins all have read all
  pub all-begun : (w later : Sight V) → AllCatchUp kinds Next kinds.part_names watchers w later → OfEach kinds HaveReadFrame kinds.part_names watchers w → OfEach kinds HaveRead kinds.part_names watchers later
  all-begun w later catch were = record {
    many = were.many;
    markers = next-caught (marker_in kinds) (marker_events_in kinds) (marker_emits_in kinds) watchers.markers (w kinds.markers_id) (later kinds.markers_id) catch.markers were.markers;
    parts = λ place below.
        let kind = name_at kinds.part_names place in
        next-caught (column_in kinds kind) (events_in kinds kind) (emits_in kinds kind) (watcher_at watchers.parts.items place) (w (kinds.part_id kind)) (later (kinds.part_id kind)) (catch.parts place below) (were.parts place below);
  }

  -- who have read all have so as a frame ends
  pub frame-read : (w : Sight V) → OfEach kinds HaveRead kinds.part_names watchers w → OfEach kinds HaveReadFrame kinds.part_names watchers w
  frame-read w were = record { many = were.many; markers = one (marker_events_in kinds (w kinds.markers_id)) watchers.markers were.markers; parts = λ place below. one (events_in kinds (name_at kinds.part_names place) (w (kinds.part_id (name_at kinds.part_names place)))) (watcher_at watchers.parts.items place) (were.parts place below) }
    where
      one : (log : Log ComponentEvent) (watcher : Watcher) → HaveRead log watcher → HaveReadFrame log watcher
      one log watcher read = record { frame = read.frame; next = caught-reads log watcher.next read.next; differ = read.differ }

  -- readers that were registered have read all
  pub first-read : (w : Sight V) → AreWatched kinds kinds.part_names watchers w → OfEach kinds HaveRead kinds.part_names watchers w
  first-read w watched = record {
    many = many kinds.part_names watchers.parts.items watched.parts;
    markers = watched.markers;
    parts = λ place below. let is = at kinds.part_names watchers.parts.items watched.parts place below in is.read;
  }
    where
      at : (names : List Name) (some : List Watcher) → AreWatchedIn kinds w names some → (place : ℕ) → place < length names → KindIsWatched kinds w (name_at names place) (watcher_at some place)
      at [] [] are place below = absurd (none place below)
        where
          none : (place : ℕ) → place < 0 → ⊥
          none place below = omega (arith, below)
      at [] (one ∷ some) are place below = absurd are
      at (name ∷ names) [] are place below = absurd are
      at (name ∷ names) (one ∷ some) are zero below = are.0
      at (name ∷ names) (one ∷ some) are (suc place) below = at names some are.1 place (omega (arith, below))

      many : (names : List Name) (some : List Watcher) → AreWatchedIn kinds w names some → length some ≡ length names
      many [] [] are = refl
      many [] (one ∷ some) are = absurd are
      many (name ∷ names) [] are = absurd are
      many (name ∷ names) (one ∷ some) are = ap suc (many names some are.1)

  module _ (w later : Sight V) (catch : AllCatchUp kinds Frame kinds.part_names watchers w later) (were : OfEach kinds HaveAlike kinds.part_names watchers w) where
    -- as the frame ends the first readers have read all
    pub all-ended : OfEach kinds HaveReadFrame kinds.part_names watchers later
    all-ended = record {
      many = were.many;
      markers = frame-caught (marker_in kinds) (marker_events_in kinds) (marker_emits_in kinds) watchers.markers (w kinds.markers_id) (later kinds.markers_id) catch.markers were.markers;
      parts = λ place below.
          let kind = name_at kinds.part_names place in
          frame-caught (column_in kinds kind) (events_in kinds kind) (emits_in kinds kind) (watcher_at watchers.parts.items place) (w (kinds.part_id kind)) (later (kinds.part_id kind)) (catch.parts place below) (were.parts place below);
    }

    -- and the others tell what they told
    pub touched-left : touched_in kinds Next kinds.part_names watchers later ≡ touched_in kinds Frame kinds.part_names watchers w
    touched-left = ap walk (fun_ext (λ index.
        ap (λ b. b || parts_told kinds Next later kinds.part_names watchers.parts.items index)
        (ap (λ list. nat_lt index 16777216 && is_named index_of list index) (left-alike (marker_in kinds) (marker_events_in kinds) (marker_emits_in kinds) watchers.markers (w kinds.markers_id) (later kinds.markers_id) catch.markers were.markers))
        ∙ ap (λ b. mark_told kinds w watchers.markers.frame index || b)
        (told-same kinds Frame Next w later index kinds.part_names watchers.parts.items (λ place below.
        let kind = name_at kinds.part_names place in
        ap (λ list. nat_lt index 16777216 && is_named index_of list index)
        (left-alike (column_in kinds kind) (events_in kinds kind) (emits_in kinds kind) (watcher_at watchers.parts.items place) (w (kinds.part_id kind)) (later (kinds.part_id kind)) (catch.parts place below) (were.parts place below))))))

module _ {V : Type 0} (kinds : Kinds V) (watchers : Watchers) (w later : Slots V) (watched : OfEach kinds HaveRead kinds.part_names watchers (seen_of w)) (telling : TellsAll kinds (seen_of w)) (goes : GoesOn kinds w later) where
  -- the readers who read as a frame ends tell of what became of a world
  pub told-since : AreToldSince kinds kinds.part_names watchers (seen_of w) (seen_of later)
  told-since = record {
    markers =
        let read = watched.markers in let shown = goes.shown in
        tells-more (marker_in kinds) (marker_events_in kinds) (marker_emits_in kinds) watchers.markers.frame (seen_of w kinds.markers_id) (seen_of w kinds.markers_id) (seen_of later kinds.markers_id)
        (tells-first (marker_in kinds) (marker_events_in kinds) (marker_emits_in kinds) watchers.markers.frame (seen_of w kinds.markers_id) (caught-reads (marker_events_in kinds (seen_of w kinds.markers_id)) watchers.markers.frame read.frame))
        telling.markers shown.markers;
    parts = λ place below.
        let kind = name_at kinds.part_names place in
        let reader = (watcher_at watchers.parts.items place).frame in
        let known = name-known kinds.part_names place below in
        let read = watched.parts place below in let shown = goes.shown in
        tells-more (column_in kinds kind) (events_in kinds kind) (emits_in kinds kind) reader (seen_of w (kinds.part_id kind)) (seen_of w (kinds.part_id kind)) (seen_of later (kinds.part_id kind))
        (tells-first (column_in kinds kind) (events_in kinds kind) (emits_in kinds kind) reader (seen_of w (kinds.part_id kind)) (caught-reads (events_in kinds kind (seen_of w (kinds.part_id kind))) reader read.frame))
        (telling.parts kind known) (shown.parts kind known);
    ages = goes.ages;
  }

  -- both readers of each have the same to read
  pub alike-on : OfEach kinds HaveAlike kinds.part_names watchers (seen_of later)
  alike-on = record {
    many = watched.many;
    markers = let shown = goes.shown in alike-more (marker_in kinds) (marker_events_in kinds) (marker_emits_in kinds) watchers.markers (seen_of w kinds.markers_id) (seen_of later kinds.markers_id) telling.markers shown.markers watched.markers;
    parts = λ place below.
        let kind = name_at kinds.part_names place in
        let known = name-known kinds.part_names place below in let shown = goes.shown in
        alike-more (column_in kinds kind) (events_in kinds kind) (emits_in kinds kind) (watcher_at watchers.parts.items place) (seen_of w (kinds.part_id kind)) (seen_of later (kinds.part_id kind)) (telling.parts kind known) (shown.parts kind known) (watched.parts place below);
  }

  -- and all is told on
  pub telling-on : TellsAll kinds (seen_of later)
  telling-on = tells-on kinds (seen_of w) (seen_of later) goes.shown telling

-- ---- where nothing but the events of a world are others

module _ {V : Type 0} (kinds : Kinds V) (w later : Sight V) (same : roll_of kinds later ≡ roll_of kinds w) (stays : StaysButEvents kinds w later) where
  same-part : (index : ℕ) (kind : Name) → is_among kind kinds.part_names ≡ true → part_at kinds later index kind ≡ part_at kinds w index kind
  same-part index kind known =
      ap (λ roll. option_map (part_under (ref_to roll)) (column_of kinds later kind index)) same ∙ ap (option_map (part_under (ref_to (roll_of kinds w)))) (stays.parts kind known index)

  -- what is kept is the full save still
  pub full-still : {D G : Type 0} (part_of : D → Part) (kept : KeptScene D G) → IsFullByIndex kinds part_of kinds.part_names kept w → IsFullByIndex kinds part_of kinds.part_names kept later
  full-still part_of kept full = record {
    kinds_are = full.kinds_are;
    seats = λ index. full.seats index ∙ sym (ap (λ roll. id_at roll index) same);
    rows = λ place within index. full.rows place within index ∙ sym (same-part index (name_at kinds.part_names place) (name-known kinds.part_names place within));
  }

pub below-still : {V : Type 0} (kinds : Kinds V) (w later : Sight V) → roll_of kinds later ≡ roll_of kinds w → IsBelow kinds w → IsBelow kinds later
below-still kinds w later same below index some = below index (subst (λ roll. IsSome (id_at roll index)) same some)

-- as a frame begins a scene stands still where it stood,
pub begun-stands : {V P : Type 0} (kinds : Kinds V) (meaning : Meaning P) (book : Book) (systems : Dispatching P P) (w later : Slots V) (places : List ℕ) (scene : PlainScene)
    → (IsSceneWorld kinds book (seen_of w) → IsSceneWorld kinds book (seen_of later)) → (NoneWaits kinds (seen_of w) → NoneWaits kinds (seen_of later)) → plain_of kinds (seen_of later) ≡ plain_of kinds (seen_of w)
    → Stands kinds meaning book systems w places scene → Stands kinds meaning book systems later places scene
begun-stands kinds meaning book systems w later places scene stands none same stood = record {
  ready = let ready = stood.ready in record { world = stands ready.world; staged = ready.staged; locals = ready.locals };
  none = none stood.none;
  places = stood.places;
  same = same ∙ stood.same;
}

-- and is kept as it was
module _ {V : Type 0} (kinds : Kinds V) (apart : StandApart kinds) (book : Book) (named : kinds.part_names ≡ book.part_names) (w later : Sight V) (stays : StaysButEvents kinds w later) where
  pub begun-kept : {D G : Type 0} (part_of : D → Part) (watchers : Watchers) (kept : KeptScene D G) → IsKept kinds part_of book watchers kept w → OfEach kinds HaveRead kinds.part_names watchers later → TellsAll kinds later
      → IsKept kinds part_of book watchers kept later
  begun-kept part_of watchers kept was begun telling =
      let same = roll-stays kinds apart w later stays in
      record {
        stands = stands-still kinds apart w later stays book was.stands;
        below = below-still kinds w later same was.below;
        full = subst (λ names. IsFullByIndex kinds part_of names kept later) named
            (full-still kinds w later same stays part_of kept (subst (λ names. IsFullByIndex kinds part_of names kept w) (sym named) was.full));
        watched = frame-read kinds watchers later begun;
        telling = telling;
      }
