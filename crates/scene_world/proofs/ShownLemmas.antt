-- What the events of a world show, of no change, of one change after another, and of a value through what stands there.
use Rattle.std.proofs.Common.{◌≡◌, ◌<◌, ℕ, Bool, true, false, cond, [], ◌∷◌, length, Option, None, Some, is_some, option_map, inl, inr, ◌⊎◌, refl, ap, sym, subst, ◌∙◌, arith}
use Rattle.std.proofs.lemmas.Bool.{cases_eq, false≢true}
use Rattle.std.proofs.lemmas.List.{append-nil}
use Rattle.specs_layouts.specs.Channels.{Log, CaughtUp, IsReader, log_of, unread, with_more}
use Rattle.specs_layouts.specs.Flagged.{Flagged, tells}
use Rattle.specs_layouts.specs.Masked.{Masked}
use Rattle.specs_layouts.specs.Parts.{Puts, SameParts, told}
use Rattle.specs_layouts.specs.Shows.{Shows, Names, index_of}
use Rattle.specs_layouts.specs.declared.track.ComponentEvent.{ComponentEvent}
use Rattle.specs_layouts.specs.declared.track.ComponentEvent.TheVariants.{Inserted, Modified, Removed}
use Rattle.specs_layouts.proofs.CallerLemmas.{shows-refl, shows-same, shows-taken, shows-trans}
use Rattle.scene_model.specs.Parts.{Name}
use Rattle.scene_world.specs.Standing.{Sight, Kinds, column_in, events_in, emits_in, marker_in, marker_events_in, marker_emits_in}
use Rattle.scene_world.specs.Telling.{ShowsKind, ShowsMarkers, ShowsWorld, TellsAll, GainsReader, CatchesUp, with_reader_more}
use Rattle.scene_world.specs.Stored.{Stored}
use Rattle.scene_world.specs.Stores.{store_part}
use Rattle.scene_world.specs.declared.any_store.AnyStore.{AnyStore}

-- ---- what is shown of a storage is shown of a value that has its parts and its events

module _ {S V A B : Type 0} (part_at : S → ℕ → Option A) (events : S → Log ComponentEvent) (emits : S → Bool)
    (column : V → ℕ → Option B) (log : V → Log ComponentEvent) (tells : V → Bool) (before after : S) (v w : V)
    (same : (index : ℕ) → part_at after index ≡ part_at before index → column w index ≡ column v index)
    (log_was : log v ≡ events before) (log_now : log w ≡ events after) (on_was : tells v ≡ emits before) (on_now : tells w ≡ emits after) where
  pub shows-seen : Shows part_at events emits before after → Shows column log tells v w
  shows-seen shown = record {
    more = shown.more;
    told = log_now ∙ shown.told ∙ ap (λ one. with_more one shown.more) (sym log_was);
    emission = on_now ∙ shown.emission ∙ sym on_was;
    all = λ on index. elim (shown.all (sym on_was ∙ on) index) [
      | inl is ↦ inl (same index is)
      | inr named ↦ inr named
    ];
  }

  pub gains-seen : (reader : ℕ) → GainsReader part_at events emits reader before after → GainsReader column log tells reader v w
  gains-seen reader gains = record {
    number = subst (λ (one : Log ComponentEvent). reader ≡ length one.places) (sym log_was) gains.number;
    log = log_now ∙ gains.log ∙ ap with_reader_more (sym log_was);
    caught_up = subst (λ one. CaughtUp one reader) (sym log_now) gains.caught_up;
    telling = on_now ∙ gains.telling;
    parts = λ index. same index (gains.parts index);
  }

  pub catches-seen : (reader : ℕ) → CatchesUp part_at events emits reader before after → CatchesUp column log tells reader v w
  catches-seen reader catches = record {
    read = ap (λ one. unread one reader) log_now ∙ catches.read;
    others = λ other apart. ap (λ one. unread one other) log_now ∙ catches.others other apart ∙ ap (λ one. unread one other) (sym log_was);
    caught_up = λ known. subst (λ one. CaughtUp one reader) (sym log_now) (catches.caught_up (subst (λ (one : Log ComponentEvent). reader < length one.places) log_was known));
    readers = λ other is. subst (λ one. IsReader one other) (sym log_now) (catches.readers other (subst (λ one. IsReader one other) log_was is));
    emission = on_now ∙ catches.emission ∙ sym on_was;
    parts = λ index. same index (catches.parts index);
  }

-- ---- a part that is put in

module _ {S T : Type 0} (part_at : S → ℕ → Option T) (events : S → Log ComponentEvent) (emits : S → Bool) where
  told-more : (on : Bool) (log : Log ComponentEvent) (event : ComponentEvent) → told on log event ≡ with_more log (cond on (event ∷ []) [])
  told-more true log event = refl
  told-more false log event = ap (λ held. record { held = held; places = log.places }) (sym (append-nil log.held))

  one-shown : (before after : ℕ → Option T) (on : Bool) (event : ComponentEvent) (part : Option T) → Puts before (index_of event) part after → on ≡ true → (index : ℕ) → (after index ≡ before index) ⊎ Names (cond on (event ∷ []) []) index
  one-shown before after true event part puts _ index = elim (cases_eq index (index_of event)) [
    | inl here ↦ inr (grind (arith, here))
    | inr apart ↦ inl (puts.others index apart)
  ]
  one-shown before after false event part puts on index = absurd (false≢true on)

  event-shown : (before after : S) (event : ComponentEvent) (part : Option T) → Puts (part_at before) (index_of event) part (part_at after) → events after ≡ told (emits before) (events before) event → emits after ≡ emits before → Shows part_at events emits before after
  event-shown before after event part puts tells emission = record {
    more = cond (emits before) (event ∷ []) [];
    told = tells ∙ told-more (emits before) (events before) event;
    emission = emission;
    all = one-shown (part_at before) (part_at after) (emits before) event part puts;
  }

  -- over another, or where none was
  pub shows-inserted : (before after : S) (was : Bool) (index : ℕ) (part : T) → Puts (part_at before) index (Some part) (part_at after)
      → events after ≡ told (emits before) (events before) (cond was (Modified index) (Inserted index)) → emits after ≡ emits before → Shows part_at events emits before after
  shows-inserted before after true index part puts tells emission = event-shown before after (Modified index) (Some part) puts tells emission
  shows-inserted before after false index part puts tells emission = event-shown before after (Inserted index) (Some part) puts tells emission

-- ---- a column of a value, and the storage whose parts and events it has

pub record HasColumn {V A : Type 0} (stored : A → Stored) (column : V → ℕ → Option Stored) (log : V → Log ComponentEvent) (telling : V → Bool) (v : V) (s : Masked (Flagged (AnyStore A))) : Type 0 where
  pub parts : (index : ℕ) → column v index ≡ option_map stored (store_part s.inner.inner index)
  pub log_is : log v ≡ log_of s.inner.channel
  pub tells_is : telling v ≡ tells s.inner

module _ {V A : Type 0} (stored : A → Stored) (column : V → ℕ → Option Stored) (log : V → Log ComponentEvent) (telling : V → Bool) (v w : V)
    (before after : Masked (Flagged (AnyStore A))) (was : HasColumn stored column log telling v before) (now : HasColumn stored column log telling w after) where
  abbrev layout_part : Flagged (AnyStore A) → ℕ → Option A
  layout_part s = store_part s.inner

  abbrev layout_log : Flagged (AnyStore A) → Log ComponentEvent
  layout_log s = log_of s.channel

  same-there : (index : ℕ) → layout_part after.inner index ≡ layout_part before.inner index → column w index ≡ column v index
  same-there index same = now.parts index ∙ ap (option_map stored) same ∙ sym (was.parts index)

  shown-there : Shows layout_part layout_log tells before.inner after.inner → Shows column log telling v w
  shown-there = shows-seen layout_part layout_log tells column log telling before.inner after.inner v w same-there was.log_is now.log_is was.tells_is now.tells_is

  pub shown-put : (index : ℕ) (part : A) → Puts (store_part before.inner.inner) index (Some part) (store_part after.inner.inner)
      → log_of after.inner.channel ≡ told (tells before.inner) (log_of before.inner.channel) (cond (is_some (store_part before.inner.inner index)) (Modified index) (Inserted index))
      → tells after.inner ≡ tells before.inner → Shows column log telling v w
  shown-put index part puts events emission = shown-there (shows-inserted layout_part layout_log tells before.inner after.inner (is_some (store_part before.inner.inner index)) index part puts events emission)

  pub shown-taken : (index : ℕ) → Puts (store_part before.inner.inner) index None (store_part after.inner.inner)
      → log_of after.inner.channel ≡ cond (is_some (store_part before.inner.inner index)) (told (tells before.inner) (log_of before.inner.channel) (Removed index)) (log_of before.inner.channel)
      → tells after.inner ≡ tells before.inner → Shows column log telling v w
  shown-taken index puts events emission = shown-there (shows-taken layout_part layout_log tells before.inner after.inner index (is_some (store_part before.inner.inner index)) refl puts events emission)

  pub shown-kept : SameParts (store_part before.inner.inner) (store_part after.inner.inner) → log_of after.inner.channel ≡ log_of before.inner.channel
      → tells after.inner ≡ tells before.inner → Shows column log telling v w
  shown-kept same silent emission = shown-there (shows-same layout_part layout_log tells before.inner after.inner same silent emission)

  pub reader-gained : (reader : ℕ) → GainsReader layout_part layout_log tells reader before.inner after.inner → GainsReader column log telling reader v w
  reader-gained = gains-seen layout_part layout_log tells column log telling before.inner after.inner v w same-there was.log_is now.log_is was.tells_is now.tells_is

  pub reader-caught : (reader : ℕ) → CatchesUp layout_part layout_log tells reader before.inner after.inner → CatchesUp column log telling reader v w
  reader-caught = catches-seen layout_part layout_log tells column log telling before.inner after.inner v w same-there was.log_is now.log_is was.tells_is now.tells_is

-- ---- what is shown of a world

module _ {V : Type 0} (kinds : Kinds V) where
  -- of what stays
  pub kind-stays : (kind : Name) (w later : Sight V) → later (kinds.part_id kind) ≡ w (kinds.part_id kind) → ShowsKind kinds kind w later
  kind-stays kind w later same = subst (λ held. Shows (column_in kinds kind) (events_in kinds kind) (emits_in kinds kind) (w (kinds.part_id kind)) held) (sym same)
      (shows-refl (column_in kinds kind) (events_in kinds kind) (emits_in kinds kind) (w (kinds.part_id kind)))

  pub markers-stay : (w later : Sight V) → later kinds.markers_id ≡ w kinds.markers_id → ShowsMarkers kinds w later
  markers-stay w later same = subst (λ held. Shows (marker_in kinds) (marker_events_in kinds) (marker_emits_in kinds) (w kinds.markers_id) held) (sym same)
      (shows-refl (marker_in kinds) (marker_events_in kinds) (marker_emits_in kinds) (w kinds.markers_id))

  -- of one change after another
  pub kind-both : (kind : Name) (first second third : Sight V) → ShowsKind kinds kind first second → ShowsKind kinds kind second third → ShowsKind kinds kind first third
  kind-both kind first second third one two = shows-trans (column_in kinds kind) (events_in kinds kind) (emits_in kinds kind) (first (kinds.part_id kind)) (second (kinds.part_id kind)) (third (kinds.part_id kind)) one two

  pub markers-both : (first second third : Sight V) → ShowsMarkers kinds first second → ShowsMarkers kinds second third → ShowsMarkers kinds first third
  markers-both first second third one two = shows-trans (marker_in kinds) (marker_events_in kinds) (marker_emits_in kinds) (first kinds.markers_id) (second kinds.markers_id) (third kinds.markers_id) one two

  pub world-stays : (w : Sight V) → ShowsWorld kinds w w
  world-stays w = record { parts = λ kind known. kind-stays kind w w refl; markers = markers-stay w w refl }

  pub world-both : (first second third : Sight V) → ShowsWorld kinds first second → ShowsWorld kinds second third → ShowsWorld kinds first third
  world-both first second third one two = record {
    parts = λ kind known. kind-both kind first second third (one.parts kind known) (two.parts kind known);
    markers = markers-both first second third one.markers two.markers;
  }

  -- each change is told as before
  pub tells-on : (w later : Sight V) → ShowsWorld kinds w later → TellsAll kinds w → TellsAll kinds later
  tells-on w later shown tells = record {
    parts = λ kind known. let one = shown.parts kind known in one.emission ∙ tells.parts kind known;
    markers = let one = shown.markers in one.emission ∙ tells.markers;
  }
