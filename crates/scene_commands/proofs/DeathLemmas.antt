-- The marker of an entity is taken out, its id is forgotten, and the entity dies.
use Rattle.std.proofs.Common.{◌≡◌, ◌≤◌, ℕ, Bool, true, false, cond, eqb, ◌||◌, List, [], ◌∷◌, Option, Some, None, refl, ap, sym, ◌∙◌, subst}
use Rattle.std.specs.Prelude.{IsSome, option_and_then}
use Rattle.std.specs.Option.{option_flatten, option_map_or, unwrap_or}
use Rattle.std.specs.FinMap as slots
use Rattle.std.proofs.lemmas.Bool.{true≢false, eqb-true, eq-eqb}
use Rattle.shred_world.specs.declared.resource_id.ResourceId.{ResourceId}
use Rattle.shred_world.specs.ResourceIds.{same_id}
use Rattle.shred_world.specs.Worlds.{Slots, value_at}
use Rattle.shred_world.specs.Bundles.{readable, slot_of}
use Rattle.shred_world.proofs.CallerLemmas.{ids_total, get-insert_here}
use Rattle.specs_entity.specs.Births.{Births, count, living, none_born, is_named, LivesBut, Continues, all_buried}
use Rattle.specs_entity.specs.Closures.{IsClosure}
use Rattle.specs_entity.specs.Life.{LifeAt}
use Rattle.specs_layouts.specs.Channels.{no_log}
use Rattle.specs_layouts.specs.Parts.{Puts}
use Rattle.specs_layouts.specs.Shows.{Shows}
use Rattle.specs_markers.specs.Simple.{Noting, noted_under, none_noted}
use Rattle.scene_world.specs.Standing.{Kinds, roll_of, marker_in, marker_events_in, marker_emits_in}
use Rattle.scene_world.specs.Changes.{but_at}
use Rattle.scene_world.proofs.CallerLemmas.{noted-forgotten, shows-seen}
use Rattle.scene_commands.specs.Acts.{seen_of}
use Rattle.scene_commands.specs.Deaths.{Forgets, LetsDie}
use Rattle.scene_commands.specs.Owning.{Falls}
use Rattle.scene_commands.specs.Elsewhere.{SetsMark}
use Rattle.scene_commands.specs.Bounds.{Grows}
use Rattle.scene_commands.proofs.BoundLemmas.{grows-by-death}
use Rattle.scene_commands.proofs.LookLemmas.{seen-value}

-- a value that was taken out, and another that came back in its place
module _ {V : Type 0} (w between later : Slots V) (id asked : ResourceId) (at_id : asked ≡ id) (taken : Option V) (copied : taken ≡ value_at w asked) (was back : V) (there : taken ≡ Some was)
    (out : between ≡ slots.insert w asked None) (in_place : later ≡ slots.insert between asked (Some back)) where
  pub was-there : seen_of w id ≡ Some was
  was-there = seen-value w id ∙ ap (value_at w) (sym at_id) ∙ sym copied ∙ there

  pub now-there : seen_of later id ≡ Some back
  now-there = seen-value later id ∙ ap (value_at later) (sym at_id) ∙ ap (λ m. value_at m asked) in_place ∙ ap option_flatten (get-insert_here between asked (Some back))

  pub else-there : (other : ResourceId) → same_id other id ≡ false → seen_of later other ≡ seen_of w other
  else-there other apart = ap (λ slot. readable (slot_of slot)) (put-in ∙ taken-out)
    where
      away : same_id other asked ≡ false
      away = ap (same_id other) at_id ∙ apart

      put-in : slots.get later other ≡ slots.get between other
      put-in = ap (λ m. slots.get m other) in_place ∙ slots.get-insert ids_total between asked (Some back) other ∙ ap (λ b. cond b (Some (Some back)) (slots.get between other)) away

      taken-out : slots.get between other ≡ slots.get w other
      taken-out = ap (λ m. slots.get m other) out ∙ slots.get-insert ids_total w asked None other ∙ ap (λ b. cond b (Some None) (slots.get w other)) away

-- what is put at an index is there alone
pub puts-at : {A : Type 0} (before after : ℕ → Option A) (index : ℕ) (part : Option A) → Puts before index part after → (at : ℕ) → after at ≡ but_at index part before at
puts-at before after index part puts at = by (eqb at index) refl
  where
    by : (b : Bool) → eqb at index ≡ b → after at ≡ cond (eqb at index) part (before at)
    by true e = ap after (eqb-true at index e) ∙ puts.here ∙ sym (ap (λ b. cond b part (before at)) e)
    by false e = puts.others at (λ same. true≢false (sym (eq-eqb at index same) ∙ e)) ∙ sym (ap (λ b. cond b part (before at)) e)

-- what is read of entities, and of an allocator of ids, that stand in a world
module _ {V : Type 0} (kinds : Kinds V) (w : Slots V) where
  pub births-read : (births : Births) → option_and_then kinds.births (seen_of w kinds.entities_id) ≡ Some births → (roll_of kinds (seen_of w)).births ≡ births
  births-read births is = ap (λ o. unwrap_or o (none_born 0 0)) is

  pub noting-read : (noting : Noting) → option_and_then kinds.noting (seen_of w kinds.allocator_id) ≡ Some noting → (roll_of kinds (seen_of w)).noting ≡ noting
  noting-read noting is = ap (λ o. unwrap_or o none_noted) is

module _ {V : Type 0} (kinds : Kinds V) (w later : Slots V) (was back : V) where
  -- markers of which one is another, or is taken out
  pub sets-mark : seen_of w kinds.markers_id ≡ Some was → seen_of later kinds.markers_id ≡ Some back → ((other : ResourceId) → same_id other kinds.markers_id ≡ false → seen_of later other ≡ seen_of w other)
      → (before after : ℕ → Option ℕ) → ((at : ℕ) → kinds.marker was at ≡ before at) → ((at : ℕ) → kinds.marker back at ≡ after at) → (index : ℕ) (given : Option ℕ) → Shows kinds.marker kinds.marker_events kinds.marker_emits was back → Puts before index given after
      → SetsMark kinds index given (seen_of w) (seen_of later)
  sets-mark stood stands others before after old new index given shown puts = record {
    marker = λ at.
        ap (λ held. option_and_then (λ v. kinds.marker v at) held) stands ∙ new at ∙ puts-at before after index given puts at
        ∙ ap (λ marker. cond (eqb at index) given marker) (sym (ap (λ held. option_and_then (λ v. kinds.marker v at) held) stood ∙ old at));
    there = subst (λ held. IsSome held) (sym stands) refl;
    shown = shows-seen kinds.marker kinds.marker_events kinds.marker_emits (marker_in kinds) (marker_events_in kinds) (marker_emits_in kinds) was back
        (seen_of w kinds.markers_id) (seen_of later kinds.markers_id)
        (λ at same. ap (λ held. option_and_then (λ v. kinds.marker v at) held) stands ∙ same ∙ sym (ap (λ held. option_and_then (λ v. kinds.marker v at) held) stood))
        (ap (λ held. option_map_or kinds.marker_events held no_log) stood) (ap (λ held. option_map_or kinds.marker_events held no_log) stands)
        (ap (λ held. option_map_or kinds.marker_emits held false) stood) (ap (λ held. option_map_or kinds.marker_emits held false) stands)
        shown;
    others = others;
  }

module _ {V : Type 0} (kinds : Kinds V) (w later : Slots V) where
  -- an allocator that forgot an id
  pub forgets : (before after : Noting) → option_and_then kinds.noting (seen_of w kinds.allocator_id) ≡ Some before → option_and_then kinds.noting (seen_of later kinds.allocator_id) ≡ Some after
      → ((other : ResourceId) → same_id other kinds.allocator_id ≡ false → seen_of later other ≡ seen_of w other) → (id : ℕ) → after ≡ record { next = before.next; noted = slots.remove before.noted id }
      → Forgets kinds id (seen_of w) (seen_of later)
  forgets before after old new others id gone = record {
    next = ap (λ n. n.next) now-is ∙ ap (λ n. n.next) gone ∙ ap (λ n. n.next) (sym was-is);
    noted = λ other.
        ap (λ n. noted_under n other) now-is ∙ ap (λ n. noted_under n other) gone ∙ noted-forgotten before id other
        ∙ ap (λ n. but_at id None (noted_under n) other) (sym was-is);
    there = subst (λ o. IsSome o) (sym new) refl;
    others = others;
  }
    where
      was-is : (roll_of kinds (seen_of w)).noting ≡ before
      was-is = noting-read kinds w before old

      now-is : (roll_of kinds (seen_of later)).noting ≡ after
      now-is = noting-read kinds later after new

  -- entities of which one died
  pub lets-die : (before after : Births) → option_and_then kinds.births (seen_of w kinds.entities_id) ≡ Some before → option_and_then kinds.births (seen_of later kinds.entities_id) ≡ Some after
      → ((other : ResourceId) → same_id other kinds.entities_id ≡ false → seen_of later other ≡ seen_of w other) → (entity : LifeAt) → LivesBut (is_named (entity ∷ [])) before after → Continues before after → after ≡ all_buried before (entity.id ∷ [])
      → LetsDie kinds entity.id (seen_of w) (seen_of later)
  lets-die before after old new others entity lives continues buried = record {
    lives = λ at.
        ap (λ b. living b at) now-is ∙ lives at ∙ ap (λ b. cond b None (living before at)) (only (eqb at entity.id))
        ∙ ap (λ b. cond (eqb at entity.id) None (living b at)) (sym was-is);
    births = λ at. subst (λ b. count b at ≤ count (roll_of kinds (seen_of later)).births at) (sym was-is) (subst (λ b. count before at ≤ count b at) (sym now-is) (continues.births at));
    there = subst (λ o. IsSome o) (sym new) refl;
    others = others;
    grows = subst (λ b. Grows b (roll_of kinds (seen_of later)).births 0 0) (sym was-is) (subst (λ b. Grows before b 0 0) (sym now-is) (grows-by-death before after entity.id buried));
  }
    where
      was-is : (roll_of kinds (seen_of w)).births ≡ before
      was-is = births-read kinds w before old

      now-is : (roll_of kinds (seen_of later)).births ≡ after
      now-is = births-read kinds later after new

      only : (b : Bool) → (b || false) ≡ b
      only true = refl
      only false = refl

  -- entities that were lent to see who falls with one of them
  pub falls : (before after : Births) → option_and_then kinds.births (seen_of w kinds.entities_id) ≡ Some before → option_and_then kinds.births (seen_of later kinds.entities_id) ≡ Some after
      → ((other : ResourceId) → same_id other kinds.entities_id ≡ false → seen_of later other ≡ seen_of w other) → after ≡ before → (entity : LifeAt) (pairs : List (LifeAt × LifeAt)) (entities : List LifeAt) → IsClosure before (entity ∷ []) pairs entities
      → Falls kinds entity pairs (seen_of w) (seen_of later) entities
  falls before after old new others same entity pairs entities closure = record {
    closure = subst (λ births. IsClosure births (entity ∷ []) pairs entities) (sym was-is) closure;
    keeps = record {
      births = births-read kinds later after new ∙ same ∙ sym was-is;
      there = subst (λ o. IsSome o) (sym new) refl;
      others = others;
    };
  }
    where
      was-is : (roll_of kinds (seen_of w)).births ≡ before
      was-is = births-read kinds w before old
