-- How a world of the simulation comes to be, and what an entity that is put into it changes.
use Rattle.std.proofs.Common.{◌≡◌, ℕ, eqb, List, [], ◌∷◌, refl, ap, sym, ◌∙◌, Bool, true, false, cond, Option, Some, None, is_some}
use Rattle.std.specs.Option.{option_and_then, option_flatten}
use Rattle.std.specs.FinMap.{get}
use Rattle.std.proofs.lemmas.Bool.{true≢false}
use Rattle.specs.specs.ForWorlds.{ResourceId, Slots, without_entities, Place, place, Becomes, Registers, Allocates, IsBirth}
use Rattle.specs.proofs.CallerLemmas.{became, became-apart, put-parts, registered-anew, begun-births, begun-table, begun-others}
use Rattle.specs.specs.ForStorages.{Births, living, none_born, Entity, HasNone, Puts}
use Rattle.simulation.specs.declared.parts.Position.{Position}
use Rattle.simulation.specs.declared.parts.Velocity.{Velocity}
use Rattle.simulation.specs.declared.values.Value.{Value}
use Rattle.simulation.specs.declared.values.Value.TheVariants.{EntitiesValue, TableValue, PositionValue, VelocityValue}
use Rattle.simulation.specs.Values.{Positions, Velocities, position_part, velocity_part}
use Rattle.simulation.specs.Steps.{births_id, table_id, position_id, velocity_id, position_at, velocity_at}
use Rattle.simulation.specs.Frames.{Stands, parts_in, velocity_in}

-- both kinds, one after the other, in a world that was begun
pub stands-registered : (table_part : Value → Option (List ℕ)) (new_positions : Positions → Type 0) (new_velocities : Velocities → Type 0) (w w1 w2 : Slots Value)
    → w ≡ without_entities (place (λ _. None) EntitiesValue 0) (place table_part TableValue 1)
    → Registers (place table_part TableValue 1) (place (λ _. None) PositionValue 2) new_positions w w1
    → Registers (place table_part TableValue 1) (place (λ _. None) VelocityValue 3) new_velocities w1 w2
    → ((k : List ℕ) → table_part (TableValue k) ≡ Some k) → ((s : Positions) → new_positions s → HasNone (position_at s)) → Stands w2
stands-registered table_part new_positions new_velocities w w1 w2 is first second table_seen none =
    let births_at : Place Value Births = place (λ _. None) EntitiesValue 0 in
    let table_at = place table_part TableValue 1 in
    let begun : (id : ResourceId) → get w id ≡ get (without_entities births_at table_at) id = λ id. ap (λ m. get m id) is in
    let nothing = begun-others births_at table_at in
    let one = registered-anew table_at (place (λ _. None) PositionValue 2) new_positions table_seen refl refl w w1 [] (begun table_id ∙ begun-table births_at table_at)
    (begun position_id ∙ nothing position_id refl refl) first in
    let two = registered-anew table_at (place (λ _. None) VelocityValue 3) new_velocities table_seen refl refl w1 w2 (2 ∷ []) one.listed
    (one.others velocity_id refl refl ∙ (begun velocity_id ∙ nothing velocity_id refl refl)) second in
    record {
      births = none_born 16777216 2147483647;
      kinds = 2 ∷ 3 ∷ [];
      positions = one.storage;
      velocities = two.storage;
      entities = two.others births_id refl refl ∙ (one.others births_id refl refl ∙ (begun births_id ∙ begun-births births_at table_at refl));
      table = two.listed;
      has_positions = two.others position_id refl refl ∙ one.stands;
      has_velocities = two.stands;
      lists_positions = refl;
      lists_velocities = refl;
      none_open = refl;
      of_the_living = λ index _. none one.storage one.new index;
    }

-- ---- an entity that is put into a world

module _ (births_part : Value → Option Births) (position_slot : Value → Option Positions) (velocity_slot : Value → Option Velocities)
    (births_seen : (b : Births) → births_part (EntitiesValue b) ≡ Some b) (positions_seen : (s : Positions) → position_slot (PositionValue s) ≡ Some s) (velocities_seen : (s : Velocities) → velocity_slot (VelocityValue s) ≡ Some s)
    (entity : Entity) (position : Position) (velocity : Velocity)
    (puts_position : Positions → Positions → Type 0) (puts_velocity : Velocities → Velocities → Type 0)
    (position_put : (was now : Positions) → puts_position was now → Puts (position_at was) entity.id (Some position) (position_at now))
    (velocity_put : (was now : Velocities) → puts_velocity was now → Puts (velocity_at was) entity.id (Some velocity) (velocity_at now)) where
  -- what the world is after the entity was created and had both parts put
  pub record Spawned (w w3 : Slots Value) : Type 0 where
    pub stands : Stands w3
    pub parts : (index : ℕ) → parts_in w3 index ≡ cond (eqb index entity.id) (Some position, Some velocity) (parts_in w index)

  pub spawned : (w w1 w2 w3 : Slots Value) (s : Stands w) → Allocates (place births_part EntitiesValue 0) entity w w1
      → Becomes (place position_slot PositionValue 2) puts_position w1 w2 → Becomes (place velocity_slot VelocityValue 3) puts_velocity w2 w3 → Spawned w w3
  spawned w w1 w2 w3 s allocates puts1 puts2 =
      let births_at = place births_part EntitiesValue 0 in
      let positions_at = place position_slot PositionValue 2 in
      let velocities_at = place velocity_slot VelocityValue 3 in
      let at1 = became-apart births_at (IsBirth entity) w w1 allocates in
      let at2 = became-apart positions_at puts_position w1 w2 puts1 in
      let at3 = became-apart velocities_at puts_velocity w2 w3 puts2 in
      let birth = became births_at births_seen (IsBirth entity) w w1 s.births s.entities allocates in
      let one = became positions_at positions_seen puts_position w1 w2 s.positions (at1 position_id refl ∙ s.has_positions) puts1 in
      let two = became velocities_at velocities_seen puts_velocity w2 w3 s.velocities (at2 velocity_id refl ∙ (at1 velocity_id refl ∙ s.has_velocities)) puts2 in
      let has_positions : get w3 position_id ≡ Some (Some (PositionValue one.0)) = at3 position_id refl ∙ one.2 in
      let has_velocities : get w3 velocity_id ≡ Some (Some (VelocityValue two.0)) = two.2 in
      let position_now = put-parts (position_at s.positions) (position_at one.0) entity.id position (position_put s.positions one.0 one.1) in
      let velocity_now = put-parts (velocity_at s.velocities) (velocity_at two.0) entity.id velocity (velocity_put s.velocities two.0 two.1) in
      let living_now : (index : ℕ) → living birth.0 index ≡ cond (eqb index entity.id) (Some entity.generation) (living s.births index) = birth.1.lives in
      record {
        stands = record {
          births = birth.0;
          kinds = s.kinds;
          positions = one.0;
          velocities = two.0;
          entities = at3 births_id refl ∙ (at2 births_id refl ∙ birth.2);
          table = at3 table_id refl ∙ (at2 table_id refl ∙ (at1 table_id refl ∙ s.table));
          has_positions = has_positions;
          has_velocities = has_velocities;
          lists_positions = s.lists_positions;
          lists_velocities = s.lists_velocities;
          none_open = ap (λ (b : Births). b.deletions) birth.1.births ∙ s.none_open;
          of_the_living = λ index dead. of-living s (eqb index entity.id) index (position_at one.0 index) (living birth.0 index) (position_now index) (living_now index) dead;
        };
        parts = λ index.
            ap (λ p. (p, velocity_in w3 index)) (ap (λ slot. option_and_then (λ p. position_at p index) (option_and_then position_part (option_flatten slot))) has_positions ∙ position_now index)
            ∙ (ap (λ v. (cond (eqb index entity.id) (Some position) (position_at s.positions index), v)) (ap (λ slot. option_and_then (λ v. velocity_at v index) (option_and_then velocity_part (option_flatten slot))) has_velocities ∙ velocity_now index)
            ∙ (both (eqb index entity.id) (position_at s.positions index) (velocity_at s.velocities index)
            ∙ sym (ap (λ p. cond (eqb index entity.id) (Some position, Some velocity) (p, velocity_in w index)) (ap (λ slot. option_and_then (λ p. position_at p index) (option_and_then position_part (option_flatten slot))) s.has_positions)
            ∙ ap (λ v. cond (eqb index entity.id) (Some position, Some velocity) (position_at s.positions index, v)) (ap (λ slot. option_and_then (λ v. velocity_at v index) (option_and_then velocity_part (option_flatten slot))) s.has_velocities))));
      }
    where
      both : (b : Bool) (p : Option Position) (v : Option Velocity) → ◌≡◌ {A = Option Position × Option Velocity} (cond b (Some position) p, cond b (Some velocity) v) (cond b (Some position, Some velocity) (p, v))
      both true p v = refl
      both false p v = refl

      of-living : {w : Slots Value} (s : Stands w) (b : Bool) (index : ℕ) (p : Option Position) (l : Option _) → p ≡ cond b (Some position) (position_at s.positions index)
          → l ≡ cond b (Some entity.generation) (living s.births index) → is_some l ≡ false → p ≡ None
      of-living s true index p l is lives dead = absurd (true≢false (sym (ap is_some lives) ∙ dead))
      of-living s false index p l is lives dead = is ∙ s.of_the_living index (sym (ap is_some lives) ∙ dead)

-- so it is where all three are accepted
pub spawned-all : (births_part : Value → Option Births) (position_slot : Value → Option Positions) (velocity_slot : Value → Option Velocities) (puts_position : Positions → Positions → Type 0) (puts_velocity : Velocities → Velocities → Type 0)
    (entity : Entity) (position : Position) (velocity : Velocity) (w w1 w2 w3 : Slots Value) (s : Stands w) → Allocates (place births_part EntitiesValue 0) entity w w1
    → Becomes (place position_slot PositionValue 2) puts_position w1 w2 → Becomes (place velocity_slot VelocityValue 3) puts_velocity w2 w3
    → ((b : Births) → births_part (EntitiesValue b) ≡ Some b) → ((p : Positions) → position_slot (PositionValue p) ≡ Some p) → ((v : Velocities) → velocity_slot (VelocityValue v) ≡ Some v)
    → ((was now : Positions) → puts_position was now → Puts (position_at was) entity.id (Some position) (position_at now))
    → ((was now : Velocities) → puts_velocity was now → Puts (velocity_at was) entity.id (Some velocity) (velocity_at now))
    → Stands w3 × ((index : ℕ) → parts_in w3 index ≡ cond (eqb index entity.id) (Some position, Some velocity) (parts_in w index))
spawned-all births_part position_slot velocity_slot puts_position puts_velocity entity position velocity w w1 w2 w3 s allocates one other births_seen positions_seen velocities_seen position_put velocity_put =
    let all = spawned births_part position_slot velocity_slot births_seen positions_seen velocities_seen entity position velocity puts_position puts_velocity position_put velocity_put w w1 w2 w3 s allocates one other in
    (all.stands, all.parts)
