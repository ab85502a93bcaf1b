-- Drift, told of parts by their indices, is a turn that its relation allows, told of parts by their ids.
use Rattle.std.proofs.Common.{◌≡◌, ℕ, Bool, true, false, cond, ◌||◌, List, [], Option, Some, None, refl, ap, sym, ◌∙◌, subst}
use Rattle.std.specs.Prelude.{option_and_then, option_map, is_some, IsSome, ◌⊎◌, Result, Ok, Err, OnOk, IfErr}
use Rattle.std.proofs.Common.{inl, inr}
use Rattle.std.specs.Str.{bytes_eq}
use Rattle.std.proofs.lemmas.Slice.Eq.{bytes_eq-Decides}
use Rattle.std.proofs.lemmas.List.Elements.{All-nil}
use Rattle.serde_json.specs.Data.{null}
use Rattle.shred_world.specs.Bundles.{Holding, readable, owned}
use Rattle.shred_world.proofs.CallerLemmas.{same_id-itself}
use Rattle.shred_stages.specs.declared.stop.Stop.{Stop}
use Rattle.shred_stages.specs.declared.stop.Stop.TheVariants as stop
use Rattle.shred_stages.specs.Views.{error_of}
use Rattle.specs_layouts.specs.Shows.{Shows, Names}
use Rattle.specs_join.specs.ChangeEach.{after as changed_by}
use Rattle.scene_model.specs.Parts.{Name, is_among}
use Rattle.scene_model.specs.Scenes.{RefLives}
use Rattle.scene_model.specs.Rulebook.{Command}
use Rattle.scene_model.specs.Lawful.{IsLawful}
use Rattle.scene_world.specs.Stored.{Stored, part_under}
use Rattle.scene_world.specs.Rolls.{ref_to, index_of, ids_in}
use Rattle.scene_world.specs.Standing.{seen_in, roll_of, column_in, column_of, events_in, emits_in, fragment_of, IsWithin}
use Rattle.scene_world.specs.Lent.{StandApart}
use Rattle.scene_world.specs.Places.{Places, kinds_of}
use Rattle.scene_world.specs.Turns.{sense_of, rules_by, Runs, meaning_of, ShowsChanges}
use Rattle.scene_world.specs.Writes.{WritesOne, MayStand}
use Rattle.scene_world.proofs.CallerLemmas.{written-roll, written-here, left-ids, left-others, left-globals, left-parts, left-lawful}
use Rattle.scene_cases.specs.Drifts.{position_id, position_at, velocity_at, moved, Moves}
use Rattle.scene_cases.specs.Drifting.{pos_name, vel_name, drift_name, counting, storing, moved_part, Drifted, Drifts, drift_access, drifting_book, drifting_columns}
use Rattle.scene_cases.specs.declared.turns.rules.Drift.{Drift}
use Rattle.scene_cases.specs.declared.turns.values.Position.{Position}
use Rattle.scene_cases.specs.declared.turns.values.Velocity.{Velocity}
use Rattle.scene_cases.specs.declared.turns.values.Value.{Value}
use Rattle.scene_cases.specs.declared.turns.values.Value.TheVariants.{PositionValue}

or-left : (b : Bool) → (b || false) ≡ true → b ≡ true
or-left true e = refl
or-left false e = e

-- a part at an index after the change is the one before with that beside it added
moved-stored : (ref : _) (p : Option Position) (v : Option Velocity) → option_map (part_under ref) (option_map (λ (one : Position). storing one.0) (changed_by moved p v))
    ≡ moved_part (option_map (part_under ref) (option_map (λ (one : Position). storing one.0) p)) (option_map (part_under ref) (option_map (λ (one : Velocity). storing one.0) v))
moved-stored ref None v = refl
moved-stored ref (Some p) None = refl
moved-stored ref (Some p) (Some v) = refl

module _ (places : Places Value ℕ) (apart : StandApart (kinds_of places counting drifting_columns)) (seen left : Holding Value) (moves : Moves seen left) where
  here : readable (left position_id) ≡ Some (PositionValue moves.after)
  here = ap (λ w. readable (w position_id)) moves.others ∙ ap (λ b. readable (cond b (owned (PositionValue moves.after)) (seen position_id))) (same_id-itself position_id)

  was : readable (seen position_id) ≡ Some (PositionValue moves.positions)
  was = ap readable moves.written

  writes : WritesOne (kinds_of places counting drifting_columns) pos_name (PositionValue moves.after) seen left
  writes = record {
    here = here;
    others = λ id differ. ap (λ w. w id) moves.others ∙ ap (λ b. cond b (owned (PositionValue moves.after)) (seen id)) differ;
  }

  -- what is seen of the two kinds
  seen-position : (index : ℕ) → column_of (kinds_of places counting drifting_columns) (seen_in seen) pos_name index ≡ option_map (λ (p : Position). storing p.0) (position_at moves.positions index)
  seen-position index = ap (λ h. column_in (kinds_of places counting drifting_columns) pos_name h index) was

  seen-velocity : (index : ℕ) → column_of (kinds_of places counting drifting_columns) (seen_in seen) vel_name index ≡ option_map (λ (v : Velocity). storing v.0) (velocity_at moves.velocities index)
  seen-velocity index = ap (λ h. column_in (kinds_of places counting drifting_columns) vel_name h index) moves.read

  pub drifted : Drifted (fragment_of (kinds_of places counting drifting_columns) drift_access seen) (fragment_of (kinds_of places counting drifting_columns) drift_access left)
  drifted = record {
    ids = left-ids (kinds_of places counting drifting_columns) apart pos_name refl (PositionValue moves.after) seen left writes drift_access;
    positions = λ id. left-parts (kinds_of places counting drifting_columns) apart pos_name refl (PositionValue moves.after) seen left writes drift_access refl id ∙ by (index_of (roll_of (kinds_of places counting drifting_columns) (seen_in seen)) id);
    others = λ id kind differ. left-others (kinds_of places counting drifting_columns) apart pos_name refl (PositionValue moves.after) seen left writes drift_access id kind differ;
    globals = left-globals (kinds_of places counting drifting_columns) apart pos_name refl (PositionValue moves.after) seen left writes drift_access;
  }
    where
      by : (o : Option ℕ) → option_and_then (λ index. option_map (part_under (ref_to (roll_of (kinds_of places counting drifting_columns) (seen_in seen)))) (drifting_columns.stored pos_name (PositionValue moves.after) index)) o
          ≡ moved_part (option_and_then (λ index. option_map (part_under (ref_to (roll_of (kinds_of places counting drifting_columns) (seen_in seen)))) (column_of (kinds_of places counting drifting_columns) (seen_in seen) pos_name index)) o)
          (option_and_then (λ index. option_map (part_under (ref_to (roll_of (kinds_of places counting drifting_columns) (seen_in seen)))) (column_of (kinds_of places counting drifting_columns) (seen_in seen) vel_name index)) o)
      by None = refl
      by (Some index) =
          ap (λ p. option_map (part_under (ref_to (roll_of (kinds_of places counting drifting_columns) (seen_in seen)))) (option_map (λ (one : Position). storing one.0) p)) (moves.changed.parts index)
          ∙ moved-stored (ref_to (roll_of (kinds_of places counting drifting_columns) (seen_in seen))) (position_at moves.positions index) (velocity_at moves.velocities index)
          ∙ sym (ap (λ k. moved_part (option_map (part_under (ref_to (roll_of (kinds_of places counting drifting_columns) (seen_in seen)))) k) (option_map (part_under (ref_to (roll_of (kinds_of places counting drifting_columns) (seen_in seen)))) (column_of (kinds_of places counting drifting_columns) (seen_in seen) vel_name index))) (seen-position index)
          ∙ ap (λ k. moved_part (option_map (part_under (ref_to (roll_of (kinds_of places counting drifting_columns) (seen_in seen)))) (option_map (λ (p : Position). storing p.0) (position_at moves.positions index))) (option_map (part_under (ref_to (roll_of (kinds_of places counting drifting_columns) (seen_in seen)))) k)) (seen-velocity index))

  -- what is stored may stand
  stands : (index : ℕ) (stored : Stored) → drifting_columns.stored pos_name (PositionValue moves.after) index ≡ Some stored → MayStand (sense_of drifting_book) (roll_of (kinds_of places counting drifting_columns) (seen_in seen)) pos_name stored
  stands index stored = by (position_at moves.after index)
    where
      by : (p : Option Position) → option_map (λ (one : Position). storing one.0) p ≡ Some stored → MayStand (sense_of drifting_book) (roll_of (kinds_of places counting drifting_columns) (seen_in seen)) pos_name stored
      by None e = cc
      by (Some p) e =
          let same : storing p.0 ≡ stored = cc in
          subst (λ s. MayStand (sense_of drifting_book) (roll_of (kinds_of places counting drifting_columns) (seen_in seen)) pos_name s) same
          (record { admitted = refl; living = All-nil (RefLives (ids_in (roll_of (kinds_of places counting drifting_columns) (seen_in seen)))) })

  -- the kind that is written
  the-kind : (kind : Name) → is_among kind drift_access.writes ≡ true → kind ≡ pos_name
  the-kind kind writes_it = (bytes_eq-Decides kind pos_name).0 (or-left (bytes_eq kind pos_name) writes_it)

  within-pos : IsWithin (kinds_of places counting drifting_columns) (roll_of (kinds_of places counting drifting_columns) (seen_in seen)) (column_of (kinds_of places counting drifting_columns) (seen_in seen) pos_name)
      → IsWithin (kinds_of places counting drifting_columns) (roll_of (kinds_of places counting drifting_columns) (seen_in left)) (column_of (kinds_of places counting drifting_columns) (seen_in left) pos_name)
  within-pos within = subst (λ r. IsWithin (kinds_of places counting drifting_columns) r (column_of (kinds_of places counting drifting_columns) (seen_in left) pos_name))
      (sym (written-roll (kinds_of places counting drifting_columns) apart pos_name refl (PositionValue moves.after) seen left writes))
      (λ index some. within index (was-there index (subst (λ k. IsSome k) (written-here (kinds_of places counting drifting_columns) apart pos_name refl (PositionValue moves.after) seen left writes index) some)))
    where
      mapped : {A B : Type 0} (f : A → B) (o : Option A) → is_some (option_map f o) ≡ is_some o
      mapped f None = refl
      mapped f (Some a) = refl

      was-there : (index : ℕ) → IsSome (drifting_columns.stored pos_name (PositionValue moves.after) index) → IsSome (column_of (kinds_of places counting drifting_columns) (seen_in seen) pos_name index)
      was-there index some =
          ap is_some (seen-position index) ∙ mapped (λ (p : Position). storing p.0) (position_at moves.positions index) ∙ sym (moves.changed.same index)
          ∙ sym (mapped (λ (p : Position). storing p.0) (position_at moves.after index)) ∙ some

  shown-pos : ShowsChanges (kinds_of places counting drifting_columns) pos_name seen left
  shown-pos =
      subst (λ one. Shows (column_in (kinds_of places counting drifting_columns) pos_name) (events_in (kinds_of places counting drifting_columns) pos_name) (emits_in (kinds_of places counting drifting_columns) pos_name) one (readable (left position_id))) (sym was)
      (subst (λ two. Shows (column_in (kinds_of places counting drifting_columns) pos_name) (events_in (kinds_of places counting drifting_columns) pos_name) (emits_in (kinds_of places counting drifting_columns) pos_name) (Some (PositionValue moves.positions)) two) (sym here)
      (record {
        more = moves.shown.more;
        told = moves.shown.told;
        emission = moves.shown.emission;
        all = λ emits index. by index (moves.shown.all emits index);
      }))
    where
      by : (index : ℕ) → (position_at moves.after index ≡ position_at moves.positions index) ⊎ Names moves.shown.more index
          → (option_map (λ (p : Position). storing p.0) (position_at moves.after index) ≡ option_map (λ (p : Position). storing p.0) (position_at moves.positions index)) ⊎ Names moves.shown.more index
      by index (inl same) = inl (ap (option_map (λ (p : Position). storing p.0)) same)
      by index (inr named) = inr named

  -- a run of drift is a turn
  pub drift-runs : (system : Drift) → Runs (kinds_of places counting drifting_columns) (meaning_of 0 (λ _. drift_name) (λ _. null) (λ _. drift_access) (λ _. sense_of drifting_book) (λ _. Drifts)) system seen None system left []
  drift-runs system = record {
    stays = tt;
    same = refl;
    same_sense = refl;
    no_more = λ f o did. did;
    ends = λ lent. record {
      did = (drifted, refl);
      lawful = left-lawful (kinds_of places counting drifting_columns) apart pos_name refl (PositionValue moves.after) seen left writes drift_access (sense_of drifting_book) refl lent.fit stands [] (All-nil (IsLawful (rules_by (sense_of drifting_book))));
      within = λ kind known writes_it. subst (λ name. IsWithin (kinds_of places counting drifting_columns) (roll_of (kinds_of places counting drifting_columns) (seen_in left)) (column_of (kinds_of places counting drifting_columns) (seen_in left) name))
          (sym (the-kind kind writes_it)) (within-pos (lent.within pos_name refl refl));
      shown = λ kind known writes_it. subst (λ name. ShowsChanges (kinds_of places counting drifting_columns) name seen left) (sym (the-kind kind writes_it)) shown-pos;
    };
  }

-- so is one that found no storage or no memory
pub run-turns : {T : Type 0} (places : Places Value ℕ) → StandApart (kinds_of places counting drifting_columns) → (seen left : Holding Value) (system : Drift) (result : Result T Stop) → OnOk result (Moves seen left) → IfErr result (λ why. why ≡ stop.Memory)
    → (commands : List Command) → commands ≡ []
    → Runs (kinds_of places counting drifting_columns) (meaning_of 0 (λ _. drift_name) (λ _. null) (λ _. drift_access) (λ _. sense_of drifting_book) (λ _. Drifts)) system seen (error_of result) system left commands
run-turns places apart seen left system result moves refused commands none =
    subst (λ c. Runs (kinds_of places counting drifting_columns) (meaning_of 0 (λ _. drift_name) (λ _. null) (λ _. drift_access) (λ _. sense_of drifting_book) (λ _. Drifts)) system seen (error_of result) system left c) (sym none) (by result moves refused)
  where
    by : {T : Type 0} (result : Result T Stop) → OnOk result (Moves seen left) → IfErr result (λ why. why ≡ stop.Memory)
        → Runs (kinds_of places counting drifting_columns) (meaning_of 0 (λ _. drift_name) (λ _. null) (λ _. drift_access) (λ _. sense_of drifting_book) (λ _. Drifts)) system seen (error_of result) system left []
    by (Ok t) moves refused = drift-runs places apart seen left moves system
    by (Err why) moves refused =
        subst (λ stop. Runs (kinds_of places counting drifting_columns) (meaning_of 0 (λ _. drift_name) (λ _. null) (λ _. drift_access) (λ _. sense_of drifting_book) (λ _. Drifts)) system seen (Some stop) system left []) (sym refused)
        (record { stays = tt; same = refl; same_sense = refl; no_more = λ f o did. did; ends = λ lent. tt })
