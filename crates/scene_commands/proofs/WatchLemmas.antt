-- Readers that are registered, of one storage after another, and what stays of a world.
use Rattle.std.proofs.Common.{◌≡◌, ◌+◌, ℕ, Bool, true, false, cond, ◌||◌, List, [], ◌∷◌, ◌++◌, length, Option, None, Some, refl, ap, sym, ◌∙◌, subst, arith}
use Rattle.std.specs.Prelude.{IsSome, option_and_then}
use Rattle.std.specs.Option.{option_map_or, unwrap_or}
use Rattle.std.specs.Str.{bytes_eq}
use Rattle.std.proofs.Math.Path.{fun_ext}
use Rattle.std.proofs.Math.ListN.{get_or-append}
use Rattle.std.proofs.lemmas.Bool.{false≢true}
use Rattle.std.proofs.lemmas.List.{length-append}
use Rattle.std.proofs.lemmas.Slice.Eq.{bytes_eq-Decides}
use Rattle.shred_world.specs.declared.resource_id.ResourceId.{ResourceId}
use Rattle.shred_world.specs.ResourceIds.{same_id}
use Rattle.shred_world.specs.Worlds.{Slots}
use Rattle.specs_entity.specs.Births.{none_born}
use Rattle.specs_layouts.specs.Flagged.{Flagged}
use Rattle.specs_layouts.specs.Masked.{Masked}
use Rattle.specs_layouts.specs.declared.storages.vec.VecStorage.{VecStorage}
use Rattle.specs_layouts.specs.Channels.{Log, CaughtUp}
use Rattle.specs_layouts.specs.declared.track.ComponentEvent.{ComponentEvent}
use Rattle.scene_model.specs.Parts.{Name, is_among}
use Rattle.scene_model.specs.Rulebook.{Book}
use Rattle.scene_model.specs.Scenes.{IsProper}
use Rattle.scene_model.proofs.CallerLemmas.{same_scene}
use Rattle.scene_world.specs.Markers.{marker_at, marker_log, marker_tells}
use Rattle.scene_world.specs.Rolls.{Roll, IsRoll, ids_in, part_in}
use Rattle.scene_world.specs.Lent.{StandApart, entities, markers, allocator, parts, value, queue}
use Rattle.scene_world.specs.Standing.{Sight, Kinds, roll_in, roll_of, column_in, column_of, events_in, emits_in, marker_in, marker_events_in, marker_emits_in, plain_of, commands_of, IsWithin, IsSceneWorld}
use Rattle.scene_world.specs.Telling.{GainsReader, TellsAll, with_reader_more}
use Rattle.scene_commands.specs.Acts.{seen_of}
use Rattle.scene_commands.specs.Watching.{HaveRead, GainsWatcher, WatchesKind, WatchesMarkers, KindIsWatched, AreWatchedIn, AreWatched, StaysButEvents, WatchesKinds}
use Rattle.scene_commands.specs.declared.watching.Watcher.{Watcher}
use Rattle.scene_commands.specs.declared.watching.Watchers.{Watchers}

-- who has read all of a log has so where a reader came
caught-more : {E : Type 0} (log : Log E) (reader : ℕ) → CaughtUp log reader → CaughtUp (with_reader_more log) reader
caught-more log reader caught = record {
  known = let known = caught.known in omega (arith, known, length-append log.places (length log.held ∷ []));
  all = get_or-append log.places (length log.held ∷ []) (length log.held) reader caught.known ∙ caught.all;
}

module _ {S T : Type 0} (part_at : S → ℕ → Option T) (events : S → Log ComponentEvent) (emits : S → Bool) where
  kept-by : (reader : ℕ) (before after : S) → GainsReader part_at events emits reader before after → (other : ℕ) → CaughtUp (events before) other → CaughtUp (events after) other
  kept-by reader before after gains other caught = subst (λ log. CaughtUp log other) (sym gains.log) (caught-more (events before) other caught)

  -- a reader, and then another
  pub gains-watcher : (watcher : Watcher) (before between after : S) → GainsReader part_at events emits watcher.frame before between → GainsReader part_at events emits watcher.next between after
      → GainsWatcher part_at events emits watcher before after
  gains-watcher watcher before between after one two = record {
    read = record {
      frame = kept-by watcher.next between after two watcher.frame one.caught_up;
      next = two.caught_up;
      differ = λ same.
          let first = one.number in let second = two.number in
          let longer : length (events between).places ≡ length (events before).places + 1 = ap (λ (log : Log ComponentEvent). length log.places) one.log ∙ length-append (events before).places (length (events before).held ∷ []) in
          absurd (apart watcher.frame watcher.next (length (events before).places) (length (events between).places) first second longer same);
    };
    telling = two.telling;
    kept = λ reader caught. kept-by watcher.next between after two reader (kept-by watcher.frame before between one reader caught);
    parts = λ index. two.parts index ∙ one.parts index;
  }
    where
      apart : (one other few more : ℕ) → one ≡ few → other ≡ more → more ≡ few + 1 → one ≡ other → ⊥
      apart one other few more first second longer same = omega (arith, first, second, longer, same)

-- what is so of a value is so where it stands
pub watcher-seen : {S V T U : Type 0} (part_at : S → ℕ → Option T) (events : S → Log ComponentEvent) (emits : S → Bool) (column : V → ℕ → Option U) (log : V → Log ComponentEvent) (tells : V → Bool) (before after : S) (v w : V)
    → ((index : ℕ) → part_at after index ≡ part_at before index → column w index ≡ column v index) → log v ≡ events before → log w ≡ events after → tells w ≡ emits after
    → (watcher : Watcher) → GainsWatcher part_at events emits watcher before after → GainsWatcher column log tells watcher v w
watcher-seen part_at events emits column log tells before after v w same log_was log_now tells_now watcher gains = record {
  read = subst (λ one. HaveRead one watcher) (sym log_now) gains.read;
  telling = tells_now ∙ gains.telling;
  kept = λ reader caught. subst (λ one. CaughtUp one reader) (sym log_now) (gains.kept reader (subst (λ one. CaughtUp one reader) log_was caught));
  parts = λ index. same index (gains.parts index);
}

-- markers of which two readers were registered, where they stand
pub marks-watched : {V : Type 0} (kinds : Kinds V) (w later : Slots V) (was back : V) → seen_of w kinds.markers_id ≡ Some was → seen_of later kinds.markers_id ≡ Some back → ((other : ResourceId) → same_id other kinds.markers_id ≡ false → seen_of later other ≡ seen_of w other)
    → (before after : Masked (Flagged (VecStorage ℕ))) → ((at : ℕ) → kinds.marker was at ≡ marker_at before at) → ((at : ℕ) → kinds.marker back at ≡ marker_at after at)
    → kinds.marker_events was ≡ marker_log before → kinds.marker_events back ≡ marker_log after → kinds.marker_emits back ≡ marker_tells after
    → (watcher : Watcher) → GainsWatcher marker_at marker_log marker_tells watcher before after → WatchesMarkers kinds watcher (seen_of w) (seen_of later)
marks-watched kinds w later was back stood stands others before after old new log_was log_now tells_now watcher gains = record {
  gains = watcher-seen marker_at marker_log marker_tells (marker_in kinds) (marker_events_in kinds) (marker_emits_in kinds) before after (seen_of w kinds.markers_id) (seen_of later kinds.markers_id)
      (λ at same. ap (λ held. marker_in kinds held at) stands ∙ new at ∙ same ∙ sym (ap (λ held. marker_in kinds held at) stood ∙ old at))
      (ap (marker_events_in kinds) stood ∙ log_was) (ap (marker_events_in kinds) stands ∙ log_now) (ap (marker_emits_in kinds) stands ∙ tells_now) watcher gains;
  there = subst IsSome (sym stands) refl;
  others = others;
}

module _ {V : Type 0} (kinds : Kinds V) where
  pub stays-none : (w : Sight V) → StaysButEvents kinds w w
  stays-none w = record { markers = λ index. refl; there = λ is. is; parts = λ kind known index. refl; others = λ id away apart. refl }

  pub stays-both : (first second third : Sight V) → StaysButEvents kinds first second → StaysButEvents kinds second third → StaysButEvents kinds first third
  stays-both first second third one two = record {
    markers = λ index. two.markers index ∙ one.markers index;
    there = λ is. two.there (one.there is);
    parts = λ kind known index. two.parts kind known index ∙ one.parts kind known index;
    others = λ id away apart. two.others id away apart ∙ one.others id away apart;
  }

  pub watches-none : (w : Sight V) → WatchesKinds kinds [] [] w w
  watches-none w = record { watched = tt; markers = refl; stays = stays-none w }

  module _ (apart : StandApart kinds) where
    -- one kind more is watched
    module _ (kind : Name) (known : is_among kind kinds.part_names ≡ true) (watcher : Watcher) (between later : Sight V) (watches : WatchesKind kinds kind watcher between later) where
      at-markers : later kinds.markers_id ≡ between kinds.markers_id
      at-markers = watches.others kinds.markers_id (apart markers (parts kind) refl known)

      other-kind : (other : Name) → is_among other kinds.part_names ≡ true → bytes_eq other kind ≡ false → later (kinds.part_id other) ≡ between (kinds.part_id other)
      other-kind other is differ = watches.others (kinds.part_id other) (apart (parts other) (parts kind) is known ∙ differ)

      kind-stays : StaysButEvents kinds between later
      kind-stays = record {
        markers = λ index. ap (λ held. marker_in kinds held index) at-markers;
        there = λ is. subst IsSome (sym at-markers) is;
        parts = λ other is index. by other is (bytes_eq other kind) refl index;
        others = λ id away elsewhere. watches.others id (elsewhere kind known);
      }
        where
          by : (other : Name) → is_among other kinds.part_names ≡ true → (b : Bool) → bytes_eq other kind ≡ b → (index : ℕ) → column_in kinds other (later (kinds.part_id other)) index ≡ column_in kinds other (between (kinds.part_id other)) index
          by other is true same index = subst (λ n. column_in kinds n (later (kinds.part_id n)) index ≡ column_in kinds n (between (kinds.part_id n)) index) (sym ((bytes_eq-Decides other kind).0 same)) (watches.gains.parts index)
          by other is false differ index = ap (λ held. column_in kinds other held index) (other-kind other is differ)

      one-keeps : (other : Name) (one : Watcher) → KindIsWatched kinds between other one → KindIsWatched kinds later other one
      one-keeps other one was = by (bytes_eq other kind) refl
        where
          held : (log : Log ComponentEvent) → ((reader : ℕ) → CaughtUp (events_in kinds other (between (kinds.part_id other))) reader → CaughtUp log reader) → HaveRead log one
          held log keep = record { frame = keep one.frame was.read.frame; next = keep one.next was.read.next; differ = was.read.differ }

          by : (b : Bool) → bytes_eq other kind ≡ b → KindIsWatched kinds later other one
          by true same =
              let name : other ≡ kind = (bytes_eq-Decides other kind).0 same in
              record {
                known = was.known;
                telling = subst (λ n. emits_in kinds n (later (kinds.part_id n)) ≡ true) (sym name) watches.gains.telling;
                read = held (events_in kinds other (later (kinds.part_id other)))
                    (λ reader caught. subst (λ n. CaughtUp (events_in kinds n (later (kinds.part_id n))) reader) (sym name)
                    (watches.gains.kept reader (subst (λ n. CaughtUp (events_in kinds n (between (kinds.part_id n))) reader) name caught)));
              }
          by false differ = record {
            known = was.known;
            telling = ap (emits_in kinds other) (other-kind other was.known differ) ∙ was.telling;
            read = subst (λ there. HaveRead (events_in kinds other there) one) (sym (other-kind other was.known differ)) was.read;
          }

      all-keep : (names : List Name) (watchers : List Watcher) → AreWatchedIn kinds between names watchers → AreWatchedIn kinds later names watchers
      all-keep [] [] were = tt
      all-keep [] (one ∷ watchers) were = absurd were
      all-keep (name ∷ names) [] were = absurd were
      all-keep (name ∷ names) (one ∷ watchers) were = (one-keeps name one were.0, all-keep names watchers were.1)

      here-watched : KindIsWatched kinds later kind watcher
      here-watched = record { known = known; telling = watches.gains.telling; read = watches.gains.read }

      all-more : (names : List Name) (watchers : List Watcher) → AreWatchedIn kinds later names watchers → AreWatchedIn kinds later (names ++ kind ∷ []) (watchers ++ watcher ∷ [])
      all-more [] [] are = (here-watched, tt)
      all-more [] (one ∷ watchers) are = absurd are
      all-more (name ∷ names) [] are = absurd are
      all-more (name ∷ names) (one ∷ watchers) are = (are.0, all-more names watchers are.1)

      pub watches-more : (names : List Name) (watchers : List Watcher) (w : Sight V) → WatchesKinds kinds names watchers w between → WatchesKinds kinds (names ++ kind ∷ []) (watchers ++ watcher ∷ []) w later
      watches-more names watchers w were = record {
        watched = all-more names watchers (all-keep names watchers were.watched);
        markers = at-markers ∙ were.markers;
        stays = stays-both w between later were.stays kind-stays;
      }

    -- the markers are watched, and then the kinds
    module _ (watchers : Watchers) (w between later : Sight V) (marked : WatchesMarkers kinds watchers.markers w between) (were : WatchesKinds kinds kinds.part_names watchers.parts.items between later) where
      markers-stay : StaysButEvents kinds w between
      markers-stay = record {
        markers = marked.gains.parts;
        there = λ is. marked.there;
        parts = λ kind known index. ap (λ held. column_in kinds kind held index) (marked.others (kinds.part_id kind) (apart (parts kind) markers known refl));
        others = λ id away elsewhere. marked.others id away;
      }

      pub world-stays : StaysButEvents kinds w later
      world-stays = stays-both w between later markers-stay were.stays

      pub world-watched : AreWatched kinds kinds.part_names watchers later
      world-watched = record {
        markers = subst (λ held. HaveRead (marker_events_in kinds held) watchers.markers) (sym were.markers) marked.gains.read;
        parts = were.watched;
      }

      pub world-tells : TellsAll kinds later
      world-tells = record {
        parts = λ kind known. by kinds.part_names watchers.parts.items were.watched kind known;
        markers = subst (λ held. marker_emits_in kinds held ≡ true) (sym were.markers) marked.gains.telling;
      }
        where
          by : (names : List Name) (some : List Watcher) → AreWatchedIn kinds later names some → (kind : Name) → is_among kind names ≡ true → emits_in kinds kind (later (kinds.part_id kind)) ≡ true
          by [] [] are kind among = absurd (false≢true among)
          by [] (one ∷ some) are kind among = absurd are
          by (name ∷ names) [] are kind among = absurd are
          by (name ∷ names) (one ∷ some) are kind among = at (bytes_eq kind name) refl among (by names some are.1 kind)
            where
              at : (b : Bool) → bytes_eq kind name ≡ b → (b || is_among kind names) ≡ true → (is_among kind names ≡ true → emits_in kinds kind (later (kinds.part_id kind)) ≡ true) → emits_in kinds kind (later (kinds.part_id kind)) ≡ true
              at true same _ rest = subst (λ n. emits_in kinds n (later (kinds.part_id n)) ≡ true) (sym ((bytes_eq-Decides kind name).0 same)) are.0.telling
              at false differ among rest = rest among

    -- ---- what stands in a world of which nothing is another but its events

    module _ (w later : Sight V) (stays : StaysButEvents kinds w later) where
      entities-stay : later kinds.entities_id ≡ w kinds.entities_id
      entities-stay = stays.others kinds.entities_id (apart entities markers refl refl) (λ kind known. apart entities (parts kind) refl known)

      allocator-stays : later kinds.allocator_id ≡ w kinds.allocator_id
      allocator-stays = stays.others kinds.allocator_id (apart allocator markers refl refl) (λ kind known. apart allocator (parts kind) refl known)

      value-stays : (name : Name) → is_among name kinds.global_names ≡ true → later (kinds.global_id name) ≡ w (kinds.global_id name)
      value-stays name known = stays.others (kinds.global_id name) (apart (value name) markers known refl) (λ kind is. apart (value name) (parts kind) known is)

      pub roll-stays : roll_of kinds later ≡ roll_of kinds w
      roll-stays =
          ap (λ held. let roll : Roll = record (roll_of kinds later) { births = unwrap_or (option_and_then kinds.births held) (none_born 0 0) } in roll) entities-stay
          ∙ ap (λ (marker : ℕ → Option ℕ). let roll : Roll = record (roll_of kinds later) { births = (roll_of kinds w).births; marker = marker } in roll) (fun_ext stays.markers)
          ∙ ap (λ held. roll_in kinds (w kinds.entities_id) (w kinds.markers_id) held) allocator-stays

      column-stays : (kind : Name) → is_among kind kinds.part_names ≡ true → column_of kinds later kind ≡ column_of kinds w kind
      column-stays kind known = fun_ext (stays.parts kind known)

      pub scene-stays : plain_of kinds later ≡ plain_of kinds w
      scene-stays = same_scene (plain_of kinds later) (plain_of kinds w)
          (ap (λ (roll : Roll). roll.noting.next) roll-stays)
          (ap ids_in roll-stays)
          (λ id kind. part id kind (is_among kind kinds.part_names) refl)
          (λ name. global name (is_among name kinds.global_names) refl)
        where
          part : (id : ℕ) (kind : Name) (b : Bool) → is_among kind kinds.part_names ≡ b
              → cond b (part_in (roll_of kinds later) (column_of kinds later kind) id) None ≡ cond b (part_in (roll_of kinds w) (column_of kinds w kind) id) None
          part id kind true known = ap (λ roll. part_in roll (column_of kinds later kind) id) roll-stays ∙ ap (λ column. part_in (roll_of kinds w) column id) (column-stays kind known)
          part id kind false known = refl

          global : (name : Name) (b : Bool) → is_among name kinds.global_names ≡ b
              → cond b (option_and_then (kinds.value name) (later (kinds.global_id name))) None ≡ cond b (option_and_then (kinds.value name) (w (kinds.global_id name))) None
          global name true known = ap (option_and_then (kinds.value name)) (value-stays name known)
          global name false known = refl

      pub queues-stay : (position : ℕ) → commands_of kinds later position ≡ commands_of kinds w position
      queues-stay position = ap (λ held. option_map_or kinds.queued held [])
          (stays.others (kinds.queue_id position) (apart (queue position) markers refl refl) (λ kind known. apart (queue position) (parts kind) refl known))

      pub stands-still : (book : Book) → IsSceneWorld kinds book w → IsSceneWorld kinds book later
      stands-still book stands = record {
        entities = subst (λ held. IsSome (option_and_then kinds.births held)) (sym entities-stay) stands.entities;
        markers = stays.there stands.markers;
        allocator = subst (λ held. IsSome (option_and_then kinds.noting held)) (sym allocator-stays) stands.allocator;
        roll = subst IsRoll (sym roll-stays) stands.roll;
        within = λ kind known. subst (λ roll. IsWithin kinds roll (column_of kinds later kind)) (sym roll-stays) (subst (IsWithin kinds (roll_of kinds w)) (sym (column-stays kind known)) (stands.within kind known));
        proper = subst (IsProper book) (sym scene-stays) stands.proper;
      }
