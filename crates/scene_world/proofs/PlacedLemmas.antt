-- A run of a system between the taking and the giving back of its queue is a turn of the system at its position.
use Rattle.std.proofs.Common.{◌≡◌, ℕ, Bool, true, false, cond, List, [], ◌++◌, map, Option, Some, None, refl, ap, sym, ◌∙◌, subst, length}
use Rattle.std.specs.Prelude.{option_and_then}
use Rattle.std.specs.Option.{option_map_or}
use Rattle.std.specs.String.{string_bytes}
use Rattle.std.proofs.lemmas.List.{map-append}
use Rattle.std.proofs.lemmas.Simd.{map-map}
use Rattle.shred_world.specs.ResourceIds.{same_id}
use Rattle.shred_world.specs.Bundles.{Slot, absent, out, shared, owned, Holding, readable, takable, with_slot}
use Rattle.shred_world.proofs.CallerLemmas.{same_id-is, same_id-itself}
use Rattle.shred_stages.specs.Views.{IsLeft, Leaves}
use Rattle.shred_stages.specs.declared.stop.Stop.{Stop}
use Rattle.shred_stages.specs.declared.stop.Stop.TheVariants as stop
use Rattle.specs_layouts.specs.Shows.{Shows}
use Rattle.scene_model.specs.declared.command.Queue.{Queue}
use Rattle.scene_model.specs.Parts.{Json, Name, Part, is_among}
use Rattle.scene_model.specs.Rulebook.{Access, Fragment, Outcome, leaves, refuses, fills, Command}
use Rattle.scene_model.specs.Scenes.{PlainSystem, IsLawfullyLeft}
use Rattle.scene_model.specs.Queues.{plain_commands, waiting}
use Rattle.scene_world.specs.Rolls.{IsRoll}
use Rattle.scene_world.specs.Standing.{seen_in, Kinds, roll_of, column_in, column_of, events_in, emits_in, fragment_of, commands_of, IsWithin}
use Rattle.scene_world.specs.Lent.{Place, entities, markers, allocator, parts, value, queue, same_place, is_known, id_of_place, StandApart}
use Rattle.scene_world.proofs.StandingLemmas.{SeesAlike, fragment-alike, same-roll}
use Rattle.scene_world.specs.Places.{Places, Columns, kinds_of}
use Rattle.scene_world.specs.Turns.{Sense, rules_by, IsFit, meaning_of, placed_as, Ends, Runs, TakesTurn}

-- a slot from which something can be taken owns it
owns : {V Q : Type 0} (read : V → Option Q) (q : Q) (slot : Slot V) → option_and_then read (takable slot) ≡ Some q → (v : V) × (slot ≡ owned v)
owns read q absent e = cc
owns read q out e = cc
owns read q (shared v) e = cc
owns read q (owned v) e = (v, refl)

module _ {V D S P : Type 0} (places : Places V D) (part_of : D → Part) (columns : Columns V) (apart : StandApart (kinds_of places part_of columns))
    (kind_of : S → Name) (config_of : S → Json) (declared : S → Access) (sense : S → Sense) (does : S → Fragment → Outcome → Type 0) (position_of : P → ℕ) (system_of : P → S) where
  -- elsewhere than at the queue nothing else is seen
  elsewhere : (position : ℕ) (slot : Slot V) (w : Holding V) (place : Place) → is_known (kinds_of places part_of columns) place ≡ true
      → ((other : ℕ) → place ≡ queue other → ⊥) → with_slot w (places.queue_id position) slot (id_of_place (kinds_of places part_of columns) place) ≡ w (id_of_place (kinds_of places part_of columns) place)
  elsewhere position slot w place known isnt = ap (λ b. cond b slot (w (id_of_place (kinds_of places part_of columns) place))) (apart place (queue position) known refl ∙ by place isnt)
    where
      by : (place : Place) → ((other : ℕ) → place ≡ queue other → ⊥) → same_place place (queue position) ≡ false
      by entities isnt = refl
      by markers isnt = refl
      by allocator isnt = refl
      by (parts kind) isnt = refl
      by (value name) isnt = refl
      by (queue other) isnt = absurd (isnt other refl)

  module _ (position : ℕ) (slot : Slot V) (w : Holding V) where
    abbrev with_it : Holding V
    with_it = with_slot w (places.queue_id position) slot

    alike : (access : Access) → SeesAlike (kinds_of places part_of columns) access (seen_in with_it) (seen_in w)
    alike access = record {
      entities = ap readable (elsewhere position slot w entities refl (λ other e. cc));
      markers = ap readable (elsewhere position slot w markers refl (λ other e. cc));
      allocator = ap readable (elsewhere position slot w allocator refl (λ other e. cc));
      parts = λ kind known declared_so. ap readable (elsewhere position slot w (parts kind) known (λ other e. cc));
      globals = λ name known declared_so. ap readable (elsewhere position slot w (value name) known (λ other e. cc));
    }

    -- so the fragment is the same, and who lives, and the columns
    same-fragment : (access : Access) → fragment_of (kinds_of places part_of columns) access with_it ≡ fragment_of (kinds_of places part_of columns) access w
    same-fragment access = fragment-alike (kinds_of places part_of columns) access (seen_in with_it) (seen_in w) (alike access)

    same-known : roll_of (kinds_of places part_of columns) (seen_in with_it) ≡ roll_of (kinds_of places part_of columns) (seen_in w)
    same-known = same-roll (kinds_of places part_of columns) (seen_in with_it) (seen_in w) (ap readable (elsewhere position slot w entities refl (λ other e. cc)))
        (ap readable (elsewhere position slot w markers refl (λ other e. cc))) (ap readable (elsewhere position slot w allocator refl (λ other e. cc)))

    same-within : (kind : Name) → is_among kind columns.part_names ≡ true
        → IsWithin (kinds_of places part_of columns) (roll_of (kinds_of places part_of columns) (seen_in w)) (column_of (kinds_of places part_of columns) (seen_in w) kind)
        → IsWithin (kinds_of places part_of columns) (roll_of (kinds_of places part_of columns) (seen_in with_it)) (column_of (kinds_of places part_of columns) (seen_in with_it) kind)
    same-within kind known within =
        subst (λ r. IsWithin (kinds_of places part_of columns) r (column_of (kinds_of places part_of columns) (seen_in with_it) kind)) (sym same-known)
        (subst (λ h. IsWithin (kinds_of places part_of columns) (roll_of (kinds_of places part_of columns) (seen_in w)) (column_in (kinds_of places part_of columns) kind h))
        (sym (ap readable (elsewhere position slot w (parts kind) known (λ other e. cc)))) within)

  -- the queue that was put back is seen
  put-seen : (position : ℕ) (w : Holding V) (q : Queue D) → places.queue (places.queue_value q) ≡ Some q → commands_of (kinds_of places part_of columns) (seen_in (with_slot w (places.queue_id position) (owned (places.queue_value q)))) position ≡ plain_commands part_of (waiting q)
  put-seen position w q read =
      ap (λ b. option_map_or (kinds_of places part_of columns).queued (readable (cond b (owned (places.queue_value q)) (w (places.queue_id position)))) []) (same_id-itself (places.queue_id position))
      ∙ ap (λ o. option_map_or (λ one. plain_commands part_of (waiting one)) o []) read

  module _ (p after : P) (stays : position_of after ≡ position_of p) (w w2 : Holding V) (q : Queue D) (read : places.queue (places.queue_value q) ≡ Some q) where
    ends-there : (refused : Option Stop)
        → Ends (kinds_of places part_of columns) (meaning_of 0 kind_of config_of declared sense does) (system_of p) (with_slot w (places.queue_id (position_of p)) out) refused w2 (plain_commands part_of (waiting q))
        → Ends (kinds_of places part_of columns) (placed_as position_of system_of kind_of config_of declared sense does) p w refused (with_slot w2 (places.queue_id (position_of p)) (owned (places.queue_value q)))
        (commands_of (kinds_of places part_of columns) (seen_in (with_slot w2 (places.queue_id (position_of p)) (owned (places.queue_value q)))) (position_of p))
    ends-there refused = by refused
      where
        seen : fragment_of (kinds_of places part_of columns) (declared (system_of p)) (with_slot w (places.queue_id (position_of p)) out) ≡ fragment_of (kinds_of places part_of columns) (declared (system_of p)) w
        seen = same-fragment (position_of p) out w (declared (system_of p))

        left : fragment_of (kinds_of places part_of columns) (declared (system_of p)) (with_slot w2 (places.queue_id (position_of p)) (owned (places.queue_value q))) ≡ fragment_of (kinds_of places part_of columns) (declared (system_of p)) w2
        left = same-fragment (position_of p) (owned (places.queue_value q)) w2 (declared (system_of p))

        commands : commands_of (kinds_of places part_of columns) (seen_in (with_slot w2 (places.queue_id (position_of p)) (owned (places.queue_value q)))) (position_of p) ≡ plain_commands part_of (waiting q)
        commands = put-seen (position_of p) w2 q read

        ShowsOf : Name → Option V → Option V → Type 0
        ShowsOf kind seen left = Shows (column_in (kinds_of places part_of columns) kind) (events_in (kinds_of places part_of columns) kind) (emits_in (kinds_of places part_of columns) kind) seen left

        move : (holds : Fragment → Fragment → List Command → Type 0) → holds (fragment_of (kinds_of places part_of columns) (declared (system_of p)) (with_slot w (places.queue_id (position_of p)) out)) (fragment_of (kinds_of places part_of columns) (declared (system_of p)) w2) (plain_commands part_of (waiting q))
            → holds (fragment_of (kinds_of places part_of columns) (declared (system_of p)) w) (fragment_of (kinds_of places part_of columns) (declared (system_of p)) (with_slot w2 (places.queue_id (position_of p)) (owned (places.queue_value q))))
            (commands_of (kinds_of places part_of columns) (seen_in (with_slot w2 (places.queue_id (position_of p)) (owned (places.queue_value q)))) (position_of p))
        move holds is = subst (λ c. holds (fragment_of (kinds_of places part_of columns) (declared (system_of p)) w) (fragment_of (kinds_of places part_of columns) (declared (system_of p)) (with_slot w2 (places.queue_id (position_of p)) (owned (places.queue_value q)))) c) (sym commands)
            (subst (λ f. holds (fragment_of (kinds_of places part_of columns) (declared (system_of p)) w) f (plain_commands part_of (waiting q))) (sym left)
            (subst (λ f. holds f (fragment_of (kinds_of places part_of columns) (declared (system_of p)) w2) (plain_commands part_of (waiting q))) seen is))

        by : (refused : Option Stop)
            → Ends (kinds_of places part_of columns) (meaning_of 0 kind_of config_of declared sense does) (system_of p) (with_slot w (places.queue_id (position_of p)) out) refused w2 (plain_commands part_of (waiting q))
            → Ends (kinds_of places part_of columns) (placed_as position_of system_of kind_of config_of declared sense does) p w refused (with_slot w2 (places.queue_id (position_of p)) (owned (places.queue_value q)))
            (commands_of (kinds_of places part_of columns) (seen_in (with_slot w2 (places.queue_id (position_of p)) (owned (places.queue_value q)))) (position_of p))
        by None ends = record {
          did = move (λ f g c. does (system_of p) f (leaves g c)) ends.did;
          lawful = move (λ f g c. IsLawfullyLeft (rules_by (sense (system_of p))) f g c) ends.lawful;
          within = λ kind known writes. same-within (position_of p) (owned (places.queue_value q)) w2 kind known (ends.within kind known writes);
          shown = λ kind known writes. subst (λ seen. ShowsOf kind seen (readable (with_slot w2 (places.queue_id (position_of p)) (owned (places.queue_value q)) (columns.part_id kind)))) (ap readable (elsewhere (position_of p) out w (parts kind) known (λ other e. cc)))
              (subst (λ left. ShowsOf kind (readable (with_slot w (places.queue_id (position_of p)) out (columns.part_id kind))) left) (sym (ap readable (elsewhere (position_of p) (owned (places.queue_value q)) w2 (parts kind) known (λ other e. cc)))) (ends.shown kind known writes));
        }
        by (Some (stop.Refused text)) ends = subst (λ f. does (system_of p) f (refuses (string_bytes text))) seen ends
        by (Some stop.Memory) ends = tt
        by (Some stop.Full) ends =
            (move (λ f g c. does (system_of p) f (fills c)) ends.0, ap length commands ∙ ends.1)

    -- the run is a turn
    pub placed-turn : (refused : Option Stop)
        → Runs (kinds_of places part_of columns) (meaning_of 0 kind_of config_of declared sense does) (system_of p) (with_slot w (places.queue_id (position_of p)) out) refused (system_of after) w2 (plain_commands part_of (waiting q))
        → TakesTurn (kinds_of places part_of columns) (placed_as position_of system_of kind_of config_of declared sense does) p w refused after (with_slot w2 (places.queue_id (position_of p)) (owned (places.queue_value q)))
    placed-turn refused runs = record {
      stays = tt;
      same = ap (λ n. let x : PlainSystem = record { position = n; kind = kind_of (system_of after); config = config_of (system_of after); access = declared (system_of after) } in x) stays
          ∙ ap (λ (s : PlainSystem). let x : PlainSystem = record { position = position_of p; kind = s.kind; config = s.config; access = s.access } in x) runs.same;
      same_sense = runs.same_sense;
      no_more = runs.no_more;
      ends = λ lent. ends-there refused (runs.ends (record {
        fit = subst (λ f. IsFit (sense (system_of p)) f) (sym (same-fragment (position_of p) out w (declared (system_of p)))) lent.fit;
        roll = subst IsRoll (sym (same-known (position_of p) out w)) lent.roll;
        within = λ kind known declared_it. same-within (position_of p) out w kind known (lent.within kind known declared_it);
      }));
    }

  -- the values that were lent come back
  pub placed-leaves : (position : ℕ) (w w2 : Holding V) (q later : Queue D) → option_and_then places.queue (takable (w (places.queue_id position))) ≡ Some q
      → Leaves (with_slot w (places.queue_id position) out) w2 → Leaves w (with_slot w2 (places.queue_id position) (owned (places.queue_value later)))
  placed-leaves position w w2 q later there left id = by (same_id id (places.queue_id position)) refl (left id)
    where
      by : (b : Bool) → same_id id (places.queue_id position) ≡ b → IsLeft (cond b out (w id)) (w2 id) → IsLeft (w id) (cond b (owned (places.queue_value later)) (w2 id))
      by false differ is = is
      by true same is =
          let had = owns places.queue q (w (places.queue_id position)) there in
          subst (λ slot. IsLeft slot (owned (places.queue_value later))) (sym (ap w (same_id-is id (places.queue_id position) same) ∙ had.1)) (places.queue_value later, refl)

-- ---- the ids of what is declared

-- those of parts and of globals, one after the other
pub declared-ids : {V : Type 0} (kinds : Kinds V) (names globals : List Name) → map (id_of_place kinds) (map parts names ++ map value globals) ≡ map kinds.part_id names ++ map kinds.global_id globals
declared-ids kinds names globals =
    map-append (id_of_place kinds) (map parts names) (map value globals)
    ∙ ap (λ l. l ++ map (id_of_place kinds) (map value globals)) (map-map (id_of_place kinds) parts names)
    ∙ ap (λ l. map kinds.part_id names ++ l) (map-map (id_of_place kinds) value globals)
