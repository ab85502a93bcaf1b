-- A world whose value at one id was lent for writing.
use Rattle.std.proofs.Common.{◌≡◌, ℕ, false, cond, eqb, List, Option, Some, refl, ap, sym, ◌∙◌, subst}
use Rattle.std.specs.Option.{option_map_or}
use Rattle.std.specs.Prelude.{option_and_then}
use Rattle.std.specs.FinMap as slots
use Rattle.std.specs.Option.{option_flatten, option_copied_mut, OnSome}
use denote.Ref.{MutBor}
use Rattle.shred_world.specs.declared.resource_id.ResourceId.{ResourceId}
use Rattle.shred_world.specs.ResourceIds.{same_id}
use Rattle.shred_world.specs.Worlds.{Slots, resource_at, value_at}
use Rattle.shred_world.specs.Bundles.{readable, slot_of}
use Rattle.shred_world.proofs.CallerLemmas.{ids_total, get-insert_here}
use Rattle.shred_world.proofs.WorldLemmas.{on_some}
use Rattle.specs_entity.specs.Life.{LifeAt}
use Rattle.scene_model.specs.Parts.{Name, Part}
use Rattle.scene_world.specs.Stored.{Stored}
use Rattle.scene_world.specs.Standing.{Kinds, column_in, events_in, emits_in}
use Rattle.specs_layouts.specs.Channels.{no_log}
use Rattle.specs_layouts.specs.Parts.{Puts}
use Rattle.specs_layouts.specs.Shows.{Shows}
use Rattle.scene_world.proofs.CallerLemmas.{shows-seen}
use Rattle.scene_world.specs.Telling.{CatchesUp}
use Rattle.scene_world.specs.Changes.{but_at}
use Rattle.scene_world.specs.Putting.{PutsIn}
use Rattle.scene_commands.specs.Acts.{seen_of, SetsColumn, PutsPart}
use Rattle.scene_commands.specs.Watching.{GainsWatcher, WatchesKind, ReadsKind}
use Rattle.scene_commands.specs.declared.watching.Watcher.{Watcher}
use Rattle.scene_commands.specs.Elsewhere.{SetsMark}
use Rattle.scene_commands.proofs.DeathLemmas.{sets-mark}
use Rattle.scene_commands.proofs.LookLemmas.{seen-value}
use Rattle.scene_commands.proofs.WatchLemmas.{watcher-seen}
use Rattle.scene_commands.proofs.CatchLemmas.{catches-seen}

module _ {V : Type 0} (w later : Slots V) (id : ResourceId) (was left : V) (stood : value_at w id ≡ Some was) (leaves : later ≡ slots.insert w id (Some left)) where
  -- what was there, and what is there now
  pub saw : seen_of w id ≡ Some was
  saw = seen-value w id ∙ stood

  pub sees : seen_of later id ≡ Some left
  sees = seen-value later id ∙ ap (λ m. value_at m id) leaves ∙ ap option_flatten (get-insert_here w id (Some left))

  -- at each other id is what was there
  pub sees-other : (other : ResourceId) → same_id other id ≡ false → seen_of later other ≡ seen_of w other
  sees-other other apart = ap (λ slot. readable (slot_of slot))
      (ap (λ m. slots.get m other) leaves ∙ slots.get-insert ids_total w id (Some left) other ∙ ap (λ b. cond b (Some (Some left)) (slots.get w other)) apart)

-- a value that was lent for writing stood there
stood-there : {V : Type 0} (w : Slots V) (id : ResourceId) (lent : Option (MutBor V)) (value : MutBor V) → lent ≡ Some value → option_copied_mut lent ≡ value_at w id → value_at w id ≡ Some value.now
stood-there w id lent value is stood = sym stood ∙ ap option_copied_mut is

-- a resource that was lent for writing is there as it was left
module _ {V A : Type 0} (w later : Slots V) (id asked : ResourceId) (at_id : asked ≡ id) (part : V → Option A) (wrapped : A → V) (seen : (a : A) → part (wrapped a) ≡ Some a)
    (lent : Option (MutBor A)) (it : MutBor A) (is : lent ≡ Some it) (copied : option_copied_mut lent ≡ resource_at part w asked) (left : A) (puts_back : OnSome lent (later ≡ slots.insert w asked (Some (wrapped left)))) where
  leaves-it : later ≡ slots.insert w id (Some (wrapped left))
  leaves-it = on_some lent it _ is puts_back ∙ ap (λ i. slots.insert w i (Some (wrapped left))) at_id

  pub held-before : option_and_then part (seen_of w id) ≡ Some it.now
  held-before = ap (option_and_then part) (seen-value w id) ∙ sym (copied ∙ ap (resource_at part w) at_id) ∙ ap option_copied_mut is

  pub held-after : option_and_then part (seen_of later id) ≡ Some left
  held-after = ap (option_and_then part) (seen-value later id ∙ ap (λ m. value_at m id) leaves-it ∙ ap option_flatten (get-insert_here w id (Some (wrapped left)))) ∙ seen left

  pub held-elsewhere : (other : ResourceId) → same_id other id ≡ false → seen_of later other ≡ seen_of w other
  held-elsewhere other apart = ap (λ slot. readable (slot_of slot))
      (ap (λ m. slots.get m other) leaves-it ∙ slots.get-insert ids_total w id (Some (wrapped left)) other ∙ ap (λ b. cond b (Some (Some (wrapped left))) (slots.get w other)) apart)

module _ {V : Type 0} (kinds : Kinds V) (w later : Slots V) (kind : Name) (id : ResourceId) (at_kind : id ≡ kinds.part_id kind)
    (lent : Option (MutBor V)) (value : MutBor V) (is : lent ≡ Some value) (copied : option_copied_mut lent ≡ value_at w id) (left : V) (puts_back : OnSome lent (later ≡ slots.insert w id (Some left))) where
  abbrev was : V
  was = value.now

  stood : value_at w (kinds.part_id kind) ≡ Some was
  stood = subst (λ i. value_at w i ≡ Some was) at_kind (stood-there w id lent value is copied)

  leaves : later ≡ slots.insert w (kinds.part_id kind) (Some left)
  leaves = on_some lent value _ is puts_back ∙ ap (λ i. slots.insert w i (Some left)) at_kind

  -- what its events show, those of the kind show in the world
  shown-there : Shows (kinds.stored kind) (kinds.events kind) (kinds.emits kind) was left
      → Shows (column_in kinds kind) (events_in kinds kind) (emits_in kinds kind) (seen_of w (kinds.part_id kind)) (seen_of later (kinds.part_id kind))
  shown-there = shows-seen (kinds.stored kind) (kinds.events kind) (kinds.emits kind) (column_in kinds kind) (events_in kinds kind) (emits_in kinds kind) was left
      (seen_of w (kinds.part_id kind)) (seen_of later (kinds.part_id kind))
      (λ index same. ap (λ held. option_and_then (λ v. kinds.stored kind v index) held) (sees w later (kinds.part_id kind) was left stood leaves) ∙ same
      ∙ sym (ap (λ held. option_and_then (λ v. kinds.stored kind v index) held) (saw w later (kinds.part_id kind) was left stood leaves)))
      (ap (λ held. option_map_or (kinds.events kind) held no_log) (saw w later (kinds.part_id kind) was left stood leaves))
      (ap (λ held. option_map_or (kinds.events kind) held no_log) (sees w later (kinds.part_id kind) was left stood leaves))
      (ap (λ held. option_map_or (kinds.emits kind) held false) (saw w later (kinds.part_id kind) was left stood leaves))
      (ap (λ held. option_map_or (kinds.emits kind) held false) (sees w later (kinds.part_id kind) was left stood leaves))

  -- what is stored under a kind is so in the value that stands there
  pub lent-column : (index : ℕ) (part : Option Stored) → Shows (kinds.stored kind) (kinds.events kind) (kinds.emits kind) was left
      → ((at : ℕ) → kinds.stored kind left at ≡ but_at index part (kinds.stored kind was) at) → SetsColumn kinds kind index part (seen_of w) (seen_of later)
  lent-column index part shown there = record {
    here = λ at. ap (λ held. option_and_then (λ v. kinds.stored kind v at) held) (sees w later (kinds.part_id kind) was left stood leaves) ∙ there at
        ∙ ap (λ column. cond (eqb at index) part column) (sym (ap (λ held. option_and_then (λ v. kinds.stored kind v at) held) (saw w later (kinds.part_id kind) was left stood leaves)));
    others = sees-other w later (kinds.part_id kind) was left stood leaves;
    shown = shown-there shown;
  }

  pub lent-part : (index : ℕ) (part : Part) (named : List LifeAt) → Shows (kinds.stored kind) (kinds.events kind) (kinds.emits kind) was left → PutsIn (kinds.stored kind) index part named was left → PutsPart kinds kind index part named (seen_of w) (seen_of later)
  lent-part index part named shown puts = record { one = puts.one; is = puts.is; sets = lent-column index (Some puts.one) shown puts.there }

  -- readers of its events are registered in the value that stands there
  pub lent-watch : (watcher : Watcher) → GainsWatcher (kinds.stored kind) (kinds.events kind) (kinds.emits kind) watcher was left → WatchesKind kinds kind watcher (seen_of w) (seen_of later)
  lent-watch watcher gains = record {
    gains = watcher-seen (kinds.stored kind) (kinds.events kind) (kinds.emits kind) (column_in kinds kind) (events_in kinds kind) (emits_in kinds kind) was left
        (seen_of w (kinds.part_id kind)) (seen_of later (kinds.part_id kind))
        (λ index same. ap (λ held. option_and_then (λ v. kinds.stored kind v index) held) (sees w later (kinds.part_id kind) was left stood leaves) ∙ same
        ∙ sym (ap (λ held. option_and_then (λ v. kinds.stored kind v index) held) (saw w later (kinds.part_id kind) was left stood leaves)))
        (ap (λ held. option_map_or (kinds.events kind) held no_log) (saw w later (kinds.part_id kind) was left stood leaves))
        (ap (λ held. option_map_or (kinds.events kind) held no_log) (sees w later (kinds.part_id kind) was left stood leaves))
        (ap (λ held. option_map_or (kinds.emits kind) held false) (sees w later (kinds.part_id kind) was left stood leaves))
        watcher gains;
    others = sees-other w later (kinds.part_id kind) was left stood leaves;
  }

  -- a reader has read all of its events
  pub lent-reads : (reader : ℕ) → CatchesUp (kinds.stored kind) (kinds.events kind) (kinds.emits kind) reader was left → ReadsKind kinds kind reader (seen_of w) (seen_of later)
  lent-reads reader reads = record {
    reads = catches-seen (kinds.stored kind) (kinds.events kind) (kinds.emits kind) (column_in kinds kind) (events_in kinds kind) (emits_in kinds kind) was left
        (seen_of w (kinds.part_id kind)) (seen_of later (kinds.part_id kind))
        (λ index same. ap (λ held. option_and_then (λ v. kinds.stored kind v index) held) (sees w later (kinds.part_id kind) was left stood leaves) ∙ same
        ∙ sym (ap (λ held. option_and_then (λ v. kinds.stored kind v index) held) (saw w later (kinds.part_id kind) was left stood leaves)))
        (ap (λ held. option_map_or (kinds.events kind) held no_log) (saw w later (kinds.part_id kind) was left stood leaves))
        (ap (λ held. option_map_or (kinds.events kind) held no_log) (sees w later (kinds.part_id kind) was left stood leaves))
        (ap (λ held. option_map_or (kinds.emits kind) held false) (saw w later (kinds.part_id kind) was left stood leaves))
        (ap (λ held. option_map_or (kinds.emits kind) held false) (sees w later (kinds.part_id kind) was left stood leaves))
        reader reads;
    others = sees-other w later (kinds.part_id kind) was left stood leaves;
  }

-- markers of which one is another, or is taken out, in the value that stands where they do
module _ {V : Type 0} (kinds : Kinds V) (w later : Slots V) (id : ResourceId) (at_markers : id ≡ kinds.markers_id)
    (lent : Option (MutBor V)) (value : MutBor V) (is : lent ≡ Some value) (copied : option_copied_mut lent ≡ value_at w id) (left : V) (puts_back : OnSome lent (later ≡ slots.insert w id (Some left))) where
  pub lent-mark : (index : ℕ) (given : Option ℕ) → Shows kinds.marker kinds.marker_events kinds.marker_emits value.now left → Puts (kinds.marker value.now) index given (kinds.marker left) → SetsMark kinds index given (seen_of w) (seen_of later)
  lent-mark index given shown puts =
      let stood : value_at w kinds.markers_id ≡ Some value.now = subst (λ i. value_at w i ≡ Some value.now) at_markers (stood-there w id lent value is copied) in
      let leaves : later ≡ slots.insert w kinds.markers_id (Some left) = on_some lent value _ is puts_back ∙ ap (λ i. slots.insert w i (Some left)) at_markers in
      sets-mark kinds w later value.now left (saw w later kinds.markers_id value.now left stood leaves) (sees w later kinds.markers_id value.now left stood leaves) (sees-other w later kinds.markers_id value.now left stood leaves)
      (kinds.marker value.now) (kinds.marker left) (λ at. refl) (λ at. refl) index given shown puts
