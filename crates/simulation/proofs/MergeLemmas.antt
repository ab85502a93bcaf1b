-- What a dispatch and a merge make of a world, entity by entity.
use Rattle.std.proofs.Common.{◌≡◌, ◌≢◌, ℕ, eqb, List, [], ◌∷◌, refl, ap, sym, ◌∙◌, subst, Bool, true, false, cond, ◌&&◌, ◌||◌, Option, Some, None, is_some}
use Rattle.std.specs.List.{list_any}
use Rattle.std.specs.Option.{option_and_then, option_flatten}
use Rattle.std.specs.FinMap.{get}
use Rattle.std.specs.FinSet as fin
use Rattle.std.proofs.lemmas.Option.{same_Some}
use Rattle.std.proofs.lemmas.Bool.{cases_eq, eq-eqb, eqb-true, true≢false}
use Rattle.specs.specs.ForWorlds.{ResourceId, Slots, Slot, absent, out, shared, owned, Holding, holding_of, readable, slot_of}
use Rattle.specs.specs.ForSystems.{with_values}
use Rattle.specs.specs.ForStorages.{Births, living, merged, is_named, indices_of, Entity, ids_of, without, without_all}
use Rattle.specs.specs.ForStorages.{SameParts, after}
use Rattle.specs.specs.ForWorlds.{Place, place, held, SlotDrops, Deletes, MergesIn}
use Rattle.simulation.specs.declared.parts.Position.{Position}
use Rattle.simulation.specs.declared.parts.Velocity.{Velocity}
use Rattle.simulation.specs.declared.values.Value.{Value}
use Rattle.simulation.specs.declared.values.Value.TheVariants.{EntitiesValue, TableValue, PositionValue, VelocityValue}
use Rattle.simulation.specs.Values.{Positions, Velocities, position_part, velocity_part, value_drops}
use Rattle.simulation.specs.Steps.{births_id, table_id, position_id, velocity_id, position_at, velocity_at, moved, is_far, is_reaped, Moves, Reaps, Accepts}
use Rattle.simulation.specs.Frames.{MovesAndReaps, Stands, framed, frames, parts_in, position_in, velocity_in}

-- a value that a world holds for taking out stands in its slot
in-slot : (slot : Option (Option Value)) (value : Value) → slot_of slot ≡ owned value → slot ≡ Some (Some value)
in-slot None value e = cc
in-slot (Some None) value e = cc
in-slot (Some (Some v)) value e = ap (λ r. Some r) (ap readable e)

-- what was dispatched, as the slots of the world tell it
pub record Dispatched (w w1 : Slots Value) (s : Stands w) : Type 0 where
  pub births : Births
  pub positions : Positions
  pub same : births ≡ record s.births { deletions = births.deletions }
  pub reaped : (index : ℕ) → fin.contains births.deletions index ≡ is_far (position_at positions index)
  pub moves : (index : ℕ) → position_at positions index ≡ after moved (position_at s.positions index) (velocity_at s.velocities index)
  pub entities : get w1 births_id ≡ Some (Some (EntitiesValue births))
  pub table : get w1 table_id ≡ Some (Some (TableValue s.kinds))
  pub has_positions : get w1 position_id ≡ Some (Some (PositionValue positions))
  pub has_velocities : get w1 velocity_id ≡ Some (Some (VelocityValue s.velocities))

abbrev births_in : Value → Births → Births
births_in (EntitiesValue b) other = b
births_in (TableValue x) other = other
births_in (PositionValue x) other = other
births_in (VelocityValue x) other = other

same-births : (one other : Births) → EntitiesValue one ≡ EntitiesValue other → one ≡ other
same-births one other e = ap (λ v. births_in v one) e

abbrev positions_of : Value → Positions → Positions
positions_of (EntitiesValue b) other = other
positions_of (TableValue x) other = other
positions_of (PositionValue x) other = x
positions_of (VelocityValue x) other = other

same-positions : (one other : Positions) → PositionValue one ≡ PositionValue other → one ≡ other
same-positions one other e = ap (λ v. positions_of v one) e

abbrev velocities_of : Value → Velocities → Velocities
velocities_of (EntitiesValue b) other = other
velocities_of (TableValue x) other = other
velocities_of (PositionValue x) other = other
velocities_of (VelocityValue x) other = x

same-velocities : (one other : Velocities) → VelocityValue one ≡ VelocityValue other → one ≡ other
same-velocities one other e = ap (λ v. velocities_of v one) e

-- where nobody lives nothing has come far
far-lives : (position : Option Position) (velocity : Option Velocity) (alive : Bool) → (alive ≡ false → position ≡ None) → (is_far (after moved position velocity) && alive) ≡ is_far (after moved position velocity)
far-lives position velocity true none = and-true (is_far (after moved position velocity))
  where
    and-true : (b : Bool) → (b && true) ≡ b
    and-true true = refl
    and-true false = refl
far-lives position velocity false none =
    let gone : is_far (after moved position velocity) ≡ false = ap (λ p. is_far (after moved p velocity)) (none refl) in
    ap (λ b. b && false) gone ∙ sym gone

module _ (w w1 : Slots Value) (s : Stands w) where
  pub dispatched : (between : Holding Value) → Moves (holding_of w) between → Reaps between (holding_of w1) → Dispatched w w1 s
  dispatched between m r =
      let started : holding_of w position_id ≡ owned (PositionValue s.positions) = ap slot_of s.has_positions in
      let velocities_held : readable (holding_of w velocity_id) ≡ Some (VelocityValue s.velocities) = ap (λ slot. readable (slot_of slot)) s.has_velocities in
      let births_held : between births_id ≡ owned (EntitiesValue s.births) = ap (λ (h : Holding Value). h births_id) m.others ∙ ap slot_of s.entities in
      let was_positions : m.positions ≡ s.positions = same-positions m.positions s.positions (same_Some _ _ (ap readable (sym m.written ∙ started))) in
      let was_velocities : m.velocities ≡ s.velocities = same-velocities m.velocities s.velocities (same_Some _ _ (sym m.read ∙ velocities_held)) in
      let was_births : r.births ≡ s.births = same-births r.births s.births (same_Some _ _ (ap readable (sym r.written ∙ births_held))) in
      let seen_positions : r.positions ≡ m.after = same-positions r.positions m.after (same_Some _ _ (sym r.read ∙ ap (λ (h : Holding Value). readable (h position_id)) m.others)) in
      let moves : (index : ℕ) → position_at m.after index ≡ after moved (position_at s.positions index) (velocity_at s.velocities index) = λ index.
      m.parts.parts index
      ∙ (ap (λ p. after moved (position_at p index) (velocity_at m.velocities index)) was_positions
      ∙ ap (λ v. after moved (position_at s.positions index) (velocity_at v index)) was_velocities) in
      let lives : (index : ℕ) → living r.births index ≡ living s.births index = λ index. ap (λ (b : Births). living b index) was_births in
      record {
        births = r.after;
        positions = m.after;
        same = r.accepts.same ∙ ap (λ (b : Births). record b { deletions = r.after.deletions }) was_births;
        reaped = λ index.
            r.accepts.deletions index
            ∙ (ap (λ d. fin.contains d index || is_reaped (position_at r.positions index) (living r.births index)) (ap (λ (b : Births). b.deletions) was_births ∙ s.none_open)
            ∙ (ap (λ b. b || is_reaped (position_at r.positions index) (living r.births index)) (fin.contains-empty _ index)
            ∙ (ap (λ p. is_reaped (position_at p index) (living r.births index)) seen_positions
            ∙ (ap (is_reaped (position_at m.after index)) (lives index)
            ∙ (ap (λ p. is_reaped p (living s.births index)) (moves index)
            ∙ (far-lives (position_at s.positions index) (velocity_at s.velocities index) (is_some (living s.births index)) (s.of_the_living index)
            ∙ ap is_far (sym (moves index))))))));
        moves = moves;
        entities = in-slot (get w1 births_id) (EntitiesValue r.after) (ap (λ (h : Holding Value). h births_id) r.others);
        table = in-slot (get w1 table_id) (TableValue s.kinds) (ap (λ (h : Holding Value). h table_id) r.others ∙ (ap (λ (h : Holding Value). h table_id) m.others ∙ ap slot_of s.table));
        has_positions = in-slot (get w1 position_id) (PositionValue m.after) (ap (λ (h : Holding Value). h position_id) r.others ∙ ap (λ (h : Holding Value). h position_id) m.others);
        has_velocities = in-slot (get w1 velocity_id) (VelocityValue s.velocities) (ap (λ (h : Holding Value). h velocity_id) r.others ∙ (ap (λ (h : Holding Value). h velocity_id) m.others ∙ ap slot_of s.has_velocities));
      }

-- the parts, but for those of the indices of a list, index by index
without-listed : {T : Type 0} (parts : ℕ → Option T) (indices : List ℕ) (index : ℕ) → without_all parts indices index ≡ cond (list_any (λ other. eqb index other) indices) None (parts index)
without-listed parts [] index = refl
without-listed parts (one ∷ indices) index = without-listed (without parts one) indices index ∙ by (eqb index one) (list_any (λ other. eqb index other) indices)
  where
    by : (here later : Bool) → cond later None (cond here None (parts index)) ≡ cond (here || later) None (parts index)
    by true true = refl
    by true false = refl
    by false later = refl

module _ (drops_positions : Positions → List ℕ → Positions → Type 0) (drops_velocities : Velocities → List ℕ → Velocities → Type 0)
    (positions_parts : (before after : Positions) (indices : List ℕ) → drops_positions before indices after → SameParts (without_all (position_at before) indices) (position_at after))
    (velocities_parts : (before after : Velocities) (indices : List ℕ) → drops_velocities before indices after → SameParts (without_all (velocity_at before) indices) (velocity_at after)) where
  abbrev drops : Value → List ℕ → Value → Type 0
  drops = value_drops drops_positions drops_velocities

  -- what stands in a slot after a merge
  record Left {S : Type 0} (wrapped : S → Value) (drop : S → List ℕ → S → Type 0) (was : S) (indices : List ℕ) (slot : Option (Option Value)) : Type 0 where
    pub now : S
    pub stands : slot ≡ Some (Some (wrapped now))
    pub dropped : drop was indices now

  left-positions : (was : Positions) (indices : List ℕ) (before after : Option (Option Value)) → before ≡ Some (Some (PositionValue was)) → SlotDrops drops indices before after → Left PositionValue drops_positions was indices after
  left-positions was indices before after is dropped =
      let d = subst (λ slot. SlotDrops drops indices slot after) is dropped in
      record { now = d.2.0; stands = d.1 ∙ ap (λ v. Some (Some v)) d.2.1; dropped = d.2.2 }

  left-velocities : (was : Velocities) (indices : List ℕ) (before after : Option (Option Value)) → before ≡ Some (Some (VelocityValue was)) → SlotDrops drops indices before after → Left VelocityValue drops_velocities was indices after
  left-velocities was indices before after is dropped =
      let d = subst (λ slot. SlotDrops drops indices slot after) is dropped in
      record { now = d.2.0; stands = d.1 ∙ ap (λ v. Some (Some v)) d.2.1; dropped = d.2.2 }

  module _ (births_part : Value → Option Births) (table_part : Value → Option (List ℕ)) (births_seen : (b : Births) → births_part (EntitiesValue b) ≡ Some b) (table_seen : (k : List ℕ) → table_part (TableValue k) ≡ Some k) where
    abbrev births_at : Place Value Births
    births_at = place births_part EntitiesValue 0

    abbrev table_at : Place Value (List ℕ)
    table_at = place table_part TableValue 1

    module _ (w w1 w2 : Slots Value) (s : Stands w) (d : Dispatched w w1 s) (deleted : List Entity) (m : MergesIn births_at table_at drops deleted w1 w2) where
      same_births : m.births ≡ d.births
      same_births = same_Some m.births d.births (sym m.alive_in ∙ (ap (λ slot. option_and_then births_part (option_flatten slot)) d.entities ∙ births_seen d.births))

      same_kinds : m.kinds ≡ s.kinds
      same_kinds = same_Some m.kinds s.kinds (sym m.registered ∙ (ap (λ slot. option_and_then table_part (option_flatten slot)) d.table ∙ table_seen s.kinds))

      -- which indices are dropped
      gone : (index : ℕ) → list_any (λ other. eqb index other) (ids_of deleted) ≡ is_far (after moved (position_at s.positions index) (velocity_at s.velocities index))
      gone index = m.named index ∙ (ap (λ (b : Births). fin.contains b.deletions index) same_births ∙ (d.reaped index ∙ ap is_far (d.moves index)))

      positions_left : Left PositionValue drops_positions d.positions (ids_of deleted) (get w2 position_id)
      positions_left = left-positions d.positions (ids_of deleted) (get w1 position_id) (get w2 position_id) d.has_positions (m.deletes.parts 2 (ap (list_any (λ k. eqb k 2)) same_kinds ∙ s.lists_positions) refl refl)

      velocities_left : Left VelocityValue drops_velocities s.velocities (ids_of deleted) (get w2 velocity_id)
      velocities_left = left-velocities s.velocities (ids_of deleted) (get w1 velocity_id) (get w2 velocity_id) d.has_velocities (m.deletes.parts 3 (ap (list_any (λ k. eqb k 3)) same_kinds ∙ s.lists_velocities) refl refl)

      abbrev next : ℕ → Option Position
      next index = after moved (position_at s.positions index) (velocity_at s.velocities index)

      position_now : (index : ℕ) → position_at positions_left.now index ≡ cond (is_far (next index)) None (next index)
      position_now index =
          positions_parts d.positions positions_left.now (ids_of deleted) positions_left.dropped index
          ∙ (without-listed (position_at d.positions) (ids_of deleted) index
          ∙ (ap (λ b. cond b None (position_at d.positions index)) (gone index) ∙ ap (cond (is_far (next index)) None) (d.moves index)))

      velocity_now : (index : ℕ) → velocity_at velocities_left.now index ≡ cond (is_far (next index)) None (velocity_at s.velocities index)
      velocity_now index =
          velocities_parts s.velocities velocities_left.now (ids_of deleted) velocities_left.dropped index
          ∙ (without-listed (velocity_at s.velocities) (ids_of deleted) index
          ∙ ap (λ b. cond b None (velocity_at s.velocities index)) (gone index))

      living_then : (index : ℕ) → living (merged m.births) index ≡ cond (fin.contains d.births.deletions index) None (living s.births index)
      living_then index =
          m.lives index
          ∙ (ap (λ (b : Births). cond (fin.contains b.deletions index) None (living b index)) same_births
          ∙ ap (λ (b : Births). cond (fin.contains d.births.deletions index) None (living b index)) d.same)

      of_the_living : (index : ℕ) → is_some (living (merged m.births) index) ≡ false → position_at positions_left.now index ≡ None
      of_the_living index dead = position_now index ∙ by (is_far (next index)) refl
        where
          by : (b : Bool) → is_far (next index) ≡ b → cond b None (next index) ≡ None
          by true far = refl
          by false near =
              let open_not : fin.contains d.births.deletions index ≡ false = d.reaped index ∙ (ap is_far (d.moves index) ∙ near) in
              let dead_before : is_some (living s.births index) ≡ false = sym (ap is_some (living_then index ∙ ap (λ b. cond b None (living s.births index)) open_not)) ∙ dead in
              ap (λ p. after moved p (velocity_at s.velocities index)) (s.of_the_living index dead_before)

      pub stands-merged : Stands w2
      stands-merged = record {
        births = merged m.births;
        kinds = s.kinds;
        positions = positions_left.now;
        velocities = velocities_left.now;
        entities = m.deletes.births;
        table = m.deletes.table ∙ d.table;
        has_positions = positions_left.stands;
        has_velocities = velocities_left.stands;
        lists_positions = s.lists_positions;
        lists_velocities = s.lists_velocities;
        none_open = m.done;
        of_the_living = of_the_living;
      }

      both : {A B : Type 0} (b : Bool) (x : Option A) (y : Option B) → ◌≡◌ {A = Option A × Option B} (cond b None x, cond b None y) (cond b (None, None) (x, y))
      both true x y = refl
      both false x y = refl

      pub parts-framed : (index : ℕ) → parts_in w2 index ≡ framed (parts_in w index)
      parts-framed index =
          let position : position_in w index ≡ position_at s.positions index = ap (λ slot. option_and_then (λ p. position_at p index) (option_and_then position_part (option_flatten slot))) s.has_positions in
          let velocity : velocity_in w index ≡ velocity_at s.velocities index = ap (λ slot. option_and_then (λ v. velocity_at v index) (option_and_then velocity_part (option_flatten slot))) s.has_velocities in
          let position2 : position_in w2 index ≡ position_at positions_left.now index = ap (λ slot. option_and_then (λ p. position_at p index) (option_and_then position_part (option_flatten slot))) positions_left.stands in
          let velocity2 : velocity_in w2 index ≡ velocity_at velocities_left.now index = ap (λ slot. option_and_then (λ v. velocity_at v index) (option_and_then velocity_part (option_flatten slot))) velocities_left.stands in
          ap (λ p. (p, velocity_in w2 index)) (position2 ∙ position_now index)
          ∙ (ap (λ v. (cond (is_far (next index)) None (next index), v)) (velocity2 ∙ velocity_now index)
          ∙ (both (is_far (next index)) (next index) (velocity_at s.velocities index)
          ∙ sym (ap (λ p. framed (p, velocity_in w index)) position ∙ ap (λ v. framed (position_at s.positions index, v)) velocity)))

-- a frame: what was dispatched, and then merged
pub frame-framed : {births_part : Value → Option Births} {table_part : Value → Option (List ℕ)} {drops_positions : Positions → List ℕ → Positions → Type 0} {drops_velocities : Velocities → List ℕ → Velocities → Type 0}
    (w w1 w2 : Slots Value) (s : Stands w) → MovesAndReaps (holding_of w) (holding_of w1) → (deleted : List Entity)
    → MergesIn (place births_part EntitiesValue 0) (place table_part TableValue 1) (value_drops drops_positions drops_velocities) deleted w1 w2
    → ((b : Births) → births_part (EntitiesValue b) ≡ Some b) → ((k : List ℕ) → table_part (TableValue k) ≡ Some k)
    → ((before after : Positions) (indices : List ℕ) → drops_positions before indices after → SameParts (without_all (position_at before) indices) (position_at after))
    → ((before after : Velocities) (indices : List ℕ) → drops_velocities before indices after → SameParts (without_all (velocity_at before) indices) (velocity_at after))
    → Stands w2 × ((index : ℕ) → parts_in w2 index ≡ framed (parts_in w index))
frame-framed {births_part} {table_part} {drops_positions} {drops_velocities} w w1 w2 s (between, moves, reaps) deleted m births_seen table_seen positions_parts velocities_parts =
    let d = dispatched w w1 s between moves reaps in (
      stands-merged drops_positions drops_velocities positions_parts velocities_parts births_part table_part births_seen table_seen w w1 w2 s d deleted m,
      parts-framed drops_positions drops_velocities positions_parts velocities_parts births_part table_part births_seen table_seen w w1 w2 s d deleted m,
    )
