-- Readers that read all, of one storage after another, and what stays of a world.
use Rattle.std.proofs.Common.{◌≡◌, ◌≢◌, ◌<◌, ◌≤◌, ◌+◌, ℕ, zero, suc, Bool, true, false, is_eq, ◌||◌, eqb, List, [], ◌∷◌, length, get_or, Option, None, Some, refl, ap, sym, ◌∙◌, subst, arith}
use Rattle.std.specs.Prelude.{IsSome}
use Rattle.std.specs.Str.{bytes_eq}
use Rattle.std.proofs.lemmas.Bool.{false≢true, eqb-true, eq-eqb}
use Rattle.std.proofs.lemmas.Map.Text.{is_eq-slice_cmp}
use Rattle.std.proofs.lemmas.Slice.Eq.{bytes_eq-Decides}
use denote.Ref.{Bor}
use Rattle.shred_world.specs.declared.resource_id.ResourceId.{ResourceId}
use Rattle.shred_world.specs.ResourceIds.{same_id}
use Rattle.shred_world.specs.Worlds.{Slots}
use Rattle.specs_layouts.specs.Channels.{Log, no_log, CaughtUp, IsReader, unread}
use Rattle.specs_layouts.specs.Flagged.{Flagged}
use Rattle.specs_layouts.specs.Masked.{Masked}
use Rattle.specs_layouts.specs.declared.storages.vec.VecStorage.{VecStorage}
use Rattle.specs_layouts.specs.declared.track.ComponentEvent.{ComponentEvent}
use Rattle.scene_model.specs.Declaring.{texts}
use Rattle.scene_model.specs.Laws.{Ascend}
use Rattle.scene_model.specs.Parts.{Name, is_among, name_at}
use Rattle.scene_world.specs.Lent.{StandApart, markers, parts}
use Rattle.scene_world.specs.Markers.{marker_at, marker_log, marker_tells}
use Rattle.scene_world.specs.Standing.{Sight, Kinds, column_in, events_in, emits_in, marker_in, marker_events_in, marker_emits_in}
use Rattle.scene_world.specs.Telling.{CatchesUp, TellsAll}
use Rattle.scene_commands.specs.Acts.{seen_of}
use Rattle.scene_commands.specs.Watching.{ReadsKind, ReadsMarkers, ReadsKinds, KindsCatchUp, AllCatchUp, StaysButEvents, reader_at, watcher_at}
use Rattle.scene_commands.specs.declared.watching.ReaderTurn.{ReaderTurn}
use Rattle.scene_commands.specs.declared.watching.Watcher.{Watcher}
use Rattle.scene_commands.specs.declared.watching.Watchers.{Watchers}
use Rattle.scene_commands.proofs.WatchLemmas.{stays-both}

module _ {S T : Type 0} (part_at : S → ℕ → Option T) (events : S → Log ComponentEvent) (emits : S → Bool) where
  -- of what has no events there are no readers
  pub catches-none : (reader : ℕ) (state : S) → events state ≡ no_log → CatchesUp part_at events emits reader state state
  catches-none reader state none = record {
    read = ap (λ (log : Log ComponentEvent). unread log reader) none;
    others = λ other differ. refl;
    caught_up = λ known. absurd (nobody (subst (λ (log : Log ComponentEvent). reader < length log.places) none known));
    readers = λ other is. is;
    emission = refl;
    parts = λ index. refl;
  }
    where
      nobody : reader < 0 → ⊥
      nobody known = omega (arith, known)

-- what is so of a value is so where it stands
pub catches-seen : {S V T U : Type 0} (part_at : S → ℕ → Option T) (events : S → Log ComponentEvent) (emits : S → Bool) (column : V → ℕ → Option U) (log : V → Log ComponentEvent) (tells : V → Bool) (before after : S) (v w : V)
    → ((index : ℕ) → part_at after index ≡ part_at before index → column w index ≡ column v index) → log v ≡ events before → log w ≡ events after → tells v ≡ emits before → tells w ≡ emits after
    → (reader : ℕ) → CatchesUp part_at events emits reader before after → CatchesUp column log tells reader v w
catches-seen part_at events emits column log tells before after v w same log_was log_now tells_was tells_now reader catches = record {
  read = ap (λ one. unread one reader) log_now ∙ catches.read;
  others = λ other differ. ap (λ one. unread one other) log_now ∙ catches.others other differ ∙ ap (λ one. unread one other) (sym log_was);
  caught_up = λ known. subst (λ one. CaughtUp one reader) (sym log_now) (catches.caught_up (subst (λ (one : Log ComponentEvent). reader < length one.places) log_was known));
  readers = λ other is. subst (λ one. IsReader one other) (sym log_now) (catches.readers other (subst (λ one. IsReader one other) log_was is));
  emission = tells_now ∙ catches.emission ∙ sym tells_was;
  parts = λ index. same index (catches.parts index);
}

-- what holds at a place and before it
pub up-to : (holds : ℕ → Type 0) (place : ℕ) → holds place → ((at : ℕ) → at < place → holds at) → (at : ℕ) → at < place + 1 → holds at
up-to holds place here before at until = by (eqb at place) refl
  where
    by : (b : Bool) → eqb at place ≡ b → holds at
    by true same = subst holds (sym (eqb-true at place same)) here
    by false apart = before at (let differ : at ≢ place = λ is. false≢true (sym apart ∙ eq-eqb at place is) in omega (arith, until, differ))

-- ---- the markers, where they stand

module _ {V : Type 0} (kinds : Kinds V) (w later : Slots V) (was back : V) (stood : seen_of w kinds.markers_id ≡ Some was) (stands : seen_of later kinds.markers_id ≡ Some back)
    (others : (other : ResourceId) → same_id other kinds.markers_id ≡ false → seen_of later other ≡ seen_of w other) (reader : ℕ) where
  pub marks-read : (before after : Masked (Flagged (VecStorage ℕ))) → ((at : ℕ) → kinds.marker was at ≡ marker_at before at) → ((at : ℕ) → kinds.marker back at ≡ marker_at after at)
      → kinds.marker_events was ≡ marker_log before → kinds.marker_events back ≡ marker_log after → kinds.marker_emits was ≡ marker_tells before → kinds.marker_emits back ≡ marker_tells after
      → CatchesUp marker_at marker_log marker_tells reader before after → ReadsMarkers kinds reader (seen_of w) (seen_of later)
  marks-read before after old new log_was log_now tells_was tells_now catches = record {
    reads = catches-seen marker_at marker_log marker_tells (marker_in kinds) (marker_events_in kinds) (marker_emits_in kinds) before after (seen_of w kinds.markers_id) (seen_of later kinds.markers_id)
        (λ at same. ap (λ held. marker_in kinds held at) stands ∙ new at ∙ same ∙ sym (ap (λ held. marker_in kinds held at) stood ∙ old at))
        (ap (marker_events_in kinds) stood ∙ log_was) (ap (marker_events_in kinds) stands ∙ log_now) (ap (marker_emits_in kinds) stood ∙ tells_was) (ap (marker_emits_in kinds) stands ∙ tells_now) reader catches;
    there = λ is. subst IsSome (sym stands) refl;
    others = others;
  }

  -- a value that comes back as it was
  pub marks-handed : back ≡ was → kinds.marker_events was ≡ no_log → ReadsMarkers kinds reader (seen_of w) (seen_of later)
  marks-handed same none =
      let as_was : seen_of later kinds.markers_id ≡ seen_of w kinds.markers_id = stands ∙ ap Some same ∙ sym stood in
      record {
        reads = subst (CatchesUp (marker_in kinds) (marker_events_in kinds) (marker_emits_in kinds) reader (seen_of w kinds.markers_id)) (sym as_was)
            (catches-none (marker_in kinds) (marker_events_in kinds) (marker_emits_in kinds) reader (seen_of w kinds.markers_id) (ap (marker_events_in kinds) stood ∙ none));
        there = λ is. subst IsSome (sym stands) refl;
        others = others;
      }

-- ---- the kinds, one after another

-- the name at a place is among the names
pub name-known : (names : List Name) (place : ℕ) → place < length names → is_among (name_at names place) names ≡ true
name-known [] place below = absurd (none place below)
  where
    none : (place : ℕ) → place < 0 → ⊥
    none place below = omega (arith, below)
name-known (name ∷ names) zero below = ap (λ b. b || is_among name names) ((bytes_eq-Decides name name).1 refl)
name-known (name ∷ names) (suc place) below = ap (λ b. bytes_eq (name_at names place) name || b) (name-known names place (omega (arith, below))) ∙ or-true (bytes_eq (name_at names place) name)
  where
    or-true : (b : Bool) → (b || true) ≡ true
    or-true true = refl
    or-true false = refl

-- the name at a place among the texts of names
pub name-there : (names : List (Bor Name)) (place : ℕ) (d : Bor Name) → place < length names → name_at (texts names) place ≡ (get_or names place d).now
name-there [] place d below = absurd (omega (arith, below))
name-there (name ∷ names) zero d below = refl
name-there (name ∷ names) (suc place) d below = name-there names place d (omega (arith, below))

-- names that ascend are not the same
pub names-apart : (names : List Name) → Ascend names → (i j : ℕ) → i < j → j < length names → bytes_eq (name_at names i) (name_at names j) ≡ false
names-apart names ascend i j before below = sym (is_eq-slice_cmp (name_at names i) (name_at names j)) ∙ ap is_eq (ascend i j [] before below)

module _ {V : Type 0} (kinds : Kinds V) where
  module _ (apart : StandApart kinds) where
    -- ---- a reader of one kind has read all

    module _ (kind : Name) (known : is_among kind kinds.part_names ≡ true) (reader : ℕ) (between later : Sight V) (reads : ReadsKind kinds kind reader between later) where
      pub keeps-markers : later kinds.markers_id ≡ between kinds.markers_id
      keeps-markers = reads.others kinds.markers_id (apart markers (parts kind) refl known)

      pub other-kind : (other : Name) → is_among other kinds.part_names ≡ true → bytes_eq other kind ≡ false → later (kinds.part_id other) ≡ between (kinds.part_id other)
      other-kind other is differ = reads.others (kinds.part_id other) (apart (parts other) (parts kind) is known ∙ differ)

      -- what is so of this kind and of each other is so of all
      by-kind : (holds : Name → Type 0) → holds kind → (other : Name) → (bytes_eq other kind ≡ false → holds other) → holds other
      by-kind holds here other away = by (bytes_eq other kind) refl
        where
          by : (b : Bool) → bytes_eq other kind ≡ b → holds other
          by true same = subst holds (sym ((bytes_eq-Decides other kind).0 same)) here
          by false differ = away differ

      pub keeps-telling : TellsAll kinds between → TellsAll kinds later
      keeps-telling tells = record {
        parts = λ other is. by-kind (λ n. emits_in kinds n (later (kinds.part_id n)) ≡ emits_in kinds n (between (kinds.part_id n))) (let read = reads.reads in read.emission) other
            (λ differ. ap (emits_in kinds other) (other-kind other is differ)) ∙ tells.parts other is;
        markers = ap (marker_emits_in kinds) keeps-markers ∙ tells.markers;
      }

      pub keeps-rest : StaysButEvents kinds between later
      keeps-rest = record {
        markers = λ index. ap (λ held. marker_in kinds held index) keeps-markers;
        there = λ is. subst IsSome (sym keeps-markers) is;
        parts = λ other is index. by-kind (λ n. column_in kinds n (later (kinds.part_id n)) index ≡ column_in kinds n (between (kinds.part_id n)) index) (let read = reads.reads in read.parts index) other
            (λ differ. ap (λ held. column_in kinds other held index) (other-kind other is differ));
        others = λ id away elsewhere. reads.others id (elsewhere kind known);
      }

    -- of the kinds so far those readers have read all, the other kinds are as they were
    pub record Catching (turn : ReaderTurn) (names : List Name) (watchers : List Watcher) (place : ℕ) (w now : Sight V) : Type 0 where
      pub caught : KindsCatchUp kinds turn names watchers place w now
      pub left : (at : ℕ) → place ≤ at → at < length names → now (kinds.part_id (name_at names at)) ≡ w (kinds.part_id (name_at names at))
      pub telling : TellsAll kinds w → TellsAll kinds now
      pub markers : now kinds.markers_id ≡ w kinds.markers_id
      pub stays : StaysButEvents kinds w now

    module _ (turn : ReaderTurn) (names : List Name) (watchers : List Watcher) (ascend : Ascend names) (known : (place : ℕ) → place < length names → is_among (name_at names place) kinds.part_names ≡ true)
        (place : ℕ) (below : place < length names) (w now later : Sight V) (so_far : Catching turn names watchers place w now) (reads : ReadsKind kinds (name_at names place) (reader_at turn (watcher_at watchers place)) now later) where
      pub catching-more : Catching turn names watchers (place + 1) w later
      catching-more = record {
        caught = up-to (λ at. CatchesUp (column_in kinds (name_at names at)) (events_in kinds (name_at names at)) (emits_in kinds (name_at names at)) (reader_at turn (watcher_at watchers at)) (w (kinds.part_id (name_at names at))) (later (kinds.part_id (name_at names at)))) place
            (subst (λ held. CatchesUp (column_in kinds (name_at names place)) (events_in kinds (name_at names place)) (emits_in kinds (name_at names place)) (reader_at turn (watcher_at watchers place)) held (later (kinds.part_id (name_at names place)))) (so_far.left place (omega arith) below) reads.reads)
            (λ at before.
            subst (λ held. CatchesUp (column_in kinds (name_at names at)) (events_in kinds (name_at names at)) (emits_in kinds (name_at names at)) (reader_at turn (watcher_at watchers at)) (w (kinds.part_id (name_at names at))) held)
            (sym (away at (omega (arith, before, below)) (names-apart names ascend at place before below))) (so_far.caught at before));
        left = λ at from within. away at within (by-sides at (names-apart names ascend place at (omega (arith, from)) within)) ∙ so_far.left at (omega (arith, from)) within;
        telling = λ tells. keeps-telling (name_at names place) (known place below) (reader_at turn (watcher_at watchers place)) now later reads (so_far.telling tells);
        markers = keeps-markers (name_at names place) (known place below) (reader_at turn (watcher_at watchers place)) now later reads ∙ so_far.markers;
        stays = stays-both kinds w now later so_far.stays (keeps-rest (name_at names place) (known place below) (reader_at turn (watcher_at watchers place)) now later reads);
      }
        where
          away : (at : ℕ) → at < length names → bytes_eq (name_at names at) (name_at names place) ≡ false → later (kinds.part_id (name_at names at)) ≡ now (kinds.part_id (name_at names at))
          away at within differ = other-kind (name_at names place) (known place below) (reader_at turn (watcher_at watchers place)) now later reads (name_at names at) (known at within) differ

          by-sides : (at : ℕ) → bytes_eq (name_at names place) (name_at names at) ≡ false → bytes_eq (name_at names at) (name_at names place) ≡ false
          by-sides at differ = by (bytes_eq (name_at names at) (name_at names place)) refl
            where
              by : (b : Bool) → bytes_eq (name_at names at) (name_at names place) ≡ b → b ≡ false
              by true same = absurd (false≢true (sym differ ∙ (bytes_eq-Decides (name_at names place) (name_at names at)).1 (sym ((bytes_eq-Decides (name_at names at) (name_at names place)).0 same))))
              by false same = refl

    -- ---- that of the markers has, and then those of the kinds

    module _ (turn : ReaderTurn) (watchers : Watchers) (w between later : Sight V) (marked : ReadsMarkers kinds (reader_at turn watchers.markers) w between) where
      as-was : (kind : Name) → is_among kind kinds.part_names ≡ true → between (kinds.part_id kind) ≡ w (kinds.part_id kind)
      as-was kind known = marked.others (kinds.part_id kind) (apart (parts kind) markers known refl)

      still-telling : TellsAll kinds w → TellsAll kinds between
      still-telling tells = record {
        parts = λ kind known. ap (emits_in kinds kind) (as-was kind known) ∙ tells.parts kind known;
        markers = let read = marked.reads in read.emission ∙ tells.markers;
      }

      marks-stay : StaysButEvents kinds w between
      marks-stay = record {
        markers = let read = marked.reads in read.parts;
        there = marked.there;
        parts = λ kind known index. ap (λ held. column_in kinds kind held index) (as-was kind known);
        others = λ id away elsewhere. marked.others id away;
      }

      module _ (all : ReadsKinds kinds turn kinds.part_names watchers.parts.items between later) where
        pub caught-stays : StaysButEvents kinds w later
        caught-stays = stays-both kinds w between later marks-stay all.stays

        pub caught-telling : TellsAll kinds w → TellsAll kinds later
        caught-telling tells = all.telling (still-telling tells)

        pub caught-all : ((place : ℕ) → place < length kinds.part_names → is_among (name_at kinds.part_names place) kinds.part_names ≡ true) → AllCatchUp kinds turn kinds.part_names watchers w later
        caught-all known = record {
          markers = subst (CatchesUp (marker_in kinds) (marker_events_in kinds) (marker_emits_in kinds) (reader_at turn watchers.markers) (w kinds.markers_id)) (sym all.markers) marked.reads;
          parts = λ place below.
              subst (λ held. CatchesUp (column_in kinds (name_at kinds.part_names place)) (events_in kinds (name_at kinds.part_names place)) (emits_in kinds (name_at kinds.part_names place)) (reader_at turn (watcher_at watchers.parts.items place)) held (later (kinds.part_id (name_at kinds.part_names place))))
              (as-was (name_at kinds.part_names place) (known place below)) (all.caught place below);
        }
