-- Parts of the two kinds in the values of a world.
use Rattle.std.proofs.Common.{◌≡◌, ℕ, Bool, true, false, cond, eqb, [], Option, Some, None, refl, ap, sym, ◌∙◌, subst}
use Rattle.std.specs.Prelude.{IsSome, option_map}
use Rattle.std.specs.Option.{option_flatten}
use Rattle.std.specs.Str.{bytes_eq}
use Rattle.std.specs.FinMap as slots
use Rattle.std.proofs.lemmas.Bool.{true≢false, eqb-true, eq-eqb}
use Rattle.shred_world.specs.declared.resource_id.ResourceId.{ResourceId}
use Rattle.shred_world.specs.ResourceIds.{same_id}
use Rattle.shred_world.specs.Worlds.{Slots, value_at}
use Rattle.shred_world.proofs.CallerLemmas.{get-insert_here, ids_total}
use Rattle.specs_layouts.specs.Parts.{Puts, HasNone}
use Rattle.scene_world.specs.Changes.{but_at}
use Rattle.scene_world.proofs.CallerLemmas.{HasColumn}
use Rattle.scene_world.specs.Stored.{Stored}
use Rattle.scene_world.specs.Putting.{PutsIn, Registers}
use Rattle.scene_cases.specs.Drifts.{Positions, Velocities, position_at, velocity_at, position_id, velocity_id}
use Rattle.scene_cases.specs.Drifting.{pos_name, vel_name, storing, counting, position_column, velocity_column, drifting_columns, position_events, position_emits, velocity_events, velocity_emits}
use Rattle.scene_cases.specs.declared.turns.values.Position.{Position}
use Rattle.scene_cases.specs.declared.turns.values.Velocity.{Velocity}
use Rattle.scene_cases.specs.declared.turns.values.Value.{Value}
use Rattle.scene_cases.specs.declared.turns.values.Value.TheVariants.{PositionValue, VelocityValue}

-- what is put at an index is there alone, whatever is made of it
put-at : {A B : Type 0} (f : A → B) (before after : ℕ → Option A) (index : ℕ) (part : A) → Puts before index (Some part) after
    → (at : ℕ) → option_map f (after at) ≡ but_at index (Some (f part)) (λ i. option_map f (before i)) at
put-at f before after index part puts at = by (eqb at index) refl
  where
    by : (b : Bool) → eqb at index ≡ b → option_map f (after at) ≡ cond (eqb at index) (Some (f part)) (option_map f (before at))
    by true e = ap (λ i. option_map f (after i)) (eqb-true at index e) ∙ ap (option_map f) puts.here ∙ sym (ap (λ b. cond b (Some (f part)) (option_map f (before at))) e)
    by false e = ap (option_map f) (puts.others at (λ same. true≢false (sym (eq-eqb at index same) ∙ e))) ∙ sym (ap (λ b. cond b (Some (f part)) (option_map f (before at))) e)

pub put-position : (before after : Positions) (index number : ℕ) (part : Position) → part.0 ≡ number → Puts (position_at before) index (Some part) (position_at after)
    → PutsIn position_column index (counting number) [] (PositionValue before) (PositionValue after)
put-position before after index number part same puts = record {
  one = storing number;
  is = record { names = refl; writes = refl };
  there = subst (λ n. (at : ℕ) → position_column (PositionValue after) at ≡ but_at index (Some (storing n)) (position_column (PositionValue before)) at) same
      (put-at (λ (p : Position). storing p.0) (position_at before) (position_at after) index part puts);
}

pub put-velocity : (before after : Velocities) (index number : ℕ) (part : Velocity) → part.0 ≡ number → Puts (velocity_at before) index (Some part) (velocity_at after)
    → PutsIn velocity_column index (counting number) [] (VelocityValue before) (VelocityValue after)
put-velocity before after index number part same puts = record {
  one = storing number;
  is = record { names = refl; writes = refl };
  there = subst (λ n. (at : ℕ) → velocity_column (VelocityValue after) at ≡ but_at index (Some (storing n)) (velocity_column (VelocityValue before)) at) same
      (put-at (λ (s : Velocity). storing s.0) (velocity_at before) (velocity_at after) index part puts);
}

module _ (w : Slots Value) (positions : Positions) (velocities : Velocities) where
  abbrev both : Slots Value
  both = slots.insert (slots.insert w position_id (Some (PositionValue positions))) velocity_id (Some (VelocityValue velocities))

  -- what stands at the ids of the two kinds, and elsewhere
  at-positions : slots.get both position_id ≡ Some (Some (PositionValue positions))
  at-positions = slots.get-insert ids_total (slots.insert w position_id (Some (PositionValue positions))) velocity_id (Some (VelocityValue velocities)) position_id
      ∙ get-insert_here w position_id (Some (PositionValue positions))

  at-velocities : slots.get both velocity_id ≡ Some (Some (VelocityValue velocities))
  at-velocities = get-insert_here (slots.insert w position_id (Some (PositionValue positions))) velocity_id (Some (VelocityValue velocities))

  elsewhere : (id : ResourceId) → same_id id position_id ≡ false → same_id id velocity_id ≡ false → slots.get both id ≡ slots.get w id
  elsewhere id four five =
      slots.get-insert ids_total (slots.insert w position_id (Some (PositionValue positions))) velocity_id (Some (VelocityValue velocities)) id
      ∙ ap (λ b. cond b (Some (Some (VelocityValue velocities))) (slots.get (slots.insert w position_id (Some (PositionValue positions))) id)) five
      ∙ slots.get-insert ids_total w position_id (Some (PositionValue positions)) id
      ∙ ap (λ b. cond b (Some (Some (PositionValue positions))) (slots.get w id)) four

  -- storages without parts that are put in are registered
  pub registers-both : HasNone (position_at positions) → HasNone (velocity_at velocities) → Registers drifting_columns w both
  registers-both no_position no_velocity = record {
    there = λ kind known. there (bytes_eq kind pos_name);
    empty = λ kind v known e. empty (bytes_eq kind pos_name) v e;
    others = λ id apart. elsewhere id (apart pos_name refl) (apart vel_name refl);
  }
    where
      there : (b : Bool) → IsSome (value_at both (cond b position_id velocity_id))
      there true = subst (λ o. IsSome (option_flatten o)) (sym at-positions) refl
      there false = subst (λ o. IsSome (option_flatten o)) (sym at-velocities) refl

      empty : (b : Bool) (v : Value) → value_at both (cond b position_id velocity_id) ≡ Some v → (index : ℕ) → cond b (position_column v index) (velocity_column v index) ≡ None
      empty true v e index =
          let same : PositionValue positions ≡ v = let h : Some (PositionValue positions) ≡ Some v = sym (ap option_flatten at-positions) ∙ e in cc in
          subst (λ x. position_column x index ≡ None) same (ap (option_map (λ (p : Position). storing p.0)) (no_position index))
      empty false v e index =
          let same : VelocityValue velocities ≡ v = let h : Some (VelocityValue velocities) ≡ Some v = sym (ap option_flatten at-velocities) ∙ e in cc in
          subst (λ x. velocity_column x index ≡ None) same (ap (option_map (λ (s : Velocity). storing s.0)) (no_velocity index))

-- what a position and a velocity are stored as
abbrev pub position_stored : Position → Stored
position_stored position = storing position.0

abbrev pub velocity_stored : Velocity → Stored
velocity_stored velocity = storing velocity.0

-- the column and the events of positions are those of their storage
pub has-positions : (v : Value) (positions : Positions) → v ≡ PositionValue positions → HasColumn position_stored position_column position_events position_emits v positions
has-positions v positions is = subst (λ one. HasColumn position_stored position_column position_events position_emits one positions) (sym is) (record { parts = λ index. refl; log_is = refl; tells_is = refl })

-- the column and the events of velocities are those of their storage
pub has-velocities : (v : Value) (velocities : Velocities) → v ≡ VelocityValue velocities → HasColumn velocity_stored velocity_column velocity_events velocity_emits v velocities
has-velocities v velocities is = subst (λ one. HasColumn velocity_stored velocity_column velocity_events velocity_emits one velocities) (sym is) (record { parts = λ index. refl; log_is = refl; tells_is = refl })
