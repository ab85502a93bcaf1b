-- What stands in a world once a part is another at an index.
use Rattle.std.proofs.Common.{◌≡◌, ◌<◌, ℕ, Bool, true, false, cond, eqb, Option, Some, None, is_some, refl, ap, sym, ◌∙◌, subst, All}
use Rattle.std.specs.Prelude.{IsSome, option_and_then, option_map}
use Rattle.std.specs.Str.{bytes_eq}
use Rattle.std.proofs.lemmas.Bool.{false≢true, eqb-true}
use Rattle.std.proofs.lemmas.Slice.Eq.{bytes_eq-Decides}
use Rattle.shred_world.specs.Worlds.{Slots}
use Rattle.specs_entity.specs.Births.{living}
use Rattle.scene_model.specs.Parts.{Name, is_among}
use Rattle.scene_model.specs.Commands.{with_part}
use Rattle.scene_world.specs.Stored.{Stored, part_under}
use Rattle.scene_world.specs.Rolls.{Roll, IsRoll, id_at, ids_in, ref_to}
use Rattle.scene_world.specs.Standing.{Sight, Kinds, roll_of, column_of, column_in, plain_of, IsWithin}
use Rattle.scene_world.specs.Lent.{entities, markers, allocator, parts, value, StandApart}
use Rattle.scene_world.specs.Changes.{SetsPart}
use Rattle.scene_world.proofs.CallerLemmas.{same-roll, scene-set}
use Rattle.scene_commands.specs.Acts.{seen_of, WasBorn, MayAct, SetsColumn}

module _ {V : Type 0} (kinds : Kinds V) (apart : StandApart kinds) (kind : Name) (known : is_among kind kinds.part_names ≡ true)
    (index : ℕ) (part : Option Stored) (w later : Sight V) (sets : SetsColumn kinds kind index part w later) where
  -- the entities, their markers and the allocator are as they were
  same-entities : later kinds.entities_id ≡ w kinds.entities_id
  same-entities = sets.others kinds.entities_id (apart entities (parts kind) refl known)

  same-markers : later kinds.markers_id ≡ w kinds.markers_id
  same-markers = sets.others kinds.markers_id (apart markers (parts kind) refl known)

  same-allocator : later kinds.allocator_id ≡ w kinds.allocator_id
  same-allocator = sets.others kinds.allocator_id (apart allocator (parts kind) refl known)

  pub roll-stays : roll_of kinds later ≡ roll_of kinds w
  roll-stays = same-roll kinds later w same-entities same-markers same-allocator

  -- and so are the other columns, and the globals
  pub sets-part : SetsPart kinds kind index part w later
  sets-part = record {
    roll = roll-stays;
    here = sets.here;
    others = λ other is differ at. ap (λ held. column_in kinds other held at) (sets.others (kinds.part_id other) (apart (parts other) (parts kind) is known ∙ differ));
    values = λ name is. ap (λ held. option_and_then (kinds.value name) held) (sets.others (kinds.global_id name) (apart (value name) (parts kind) is known));
  }

  -- a column stores what it did, or what was put there
  column-stays : (other : Name) → is_among other kinds.part_names ≡ true → bytes_eq other kind ≡ false → (at : ℕ) → column_of kinds later other at ≡ column_of kinds w other at
  column-stays = sets-part.others

module _ {V : Type 0} (kinds : Kinds V) (apart : StandApart kinds) (kind : Name) (known : is_among kind kinds.part_names ≡ true)
    (index : ℕ) (part : Option Stored) (w later : Slots V) (sets : SetsColumn kinds kind index part (seen_of w) (seen_of later)) (may : MayAct kinds w) where
  abbrev old : Roll
  old = roll_of kinds (seen_of w)

  same : roll_of kinds (seen_of later) ≡ old
  same = roll-stays kinds apart kind known index part (seen_of w) (seen_of later) sets

  -- what holds of each part that was stored, and of the one that is put in, holds of each that is stored
  each-stored : (holds : ℕ → Stored → Type 0) → ((at : ℕ) (one : Stored) → column_of kinds (seen_of w) kind at ≡ Some one → holds at one) → ((one : Stored) → part ≡ Some one → holds index one)
      → (at : ℕ) (one : Stored) → column_of kinds (seen_of later) kind at ≡ Some one → holds at one
  each-stored holds before now at one e = by (eqb at index) refl (sym (sets.here at) ∙ e)
    where
      by : (b : Bool) → eqb at index ≡ b → cond b part (column_of kinds (seen_of w) kind at) ≡ Some one → holds at one
      by true is f = subst (λ i. holds i one) (sym (eqb-true at index is)) (now one f)
      by false differ f = before at one f

  module _ (lives_there : is_some (living old.births index) ≡ true) (born : (one : Stored) → part ≡ Some one → All (WasBorn old.births) one.named) where
    -- commands may go on in that world
    pub sets-may : MayAct kinds later
    sets-may = record {
      entities = subst (λ held. IsSome (option_and_then kinds.births held)) (sym (same-entities kinds apart kind known index part (seen_of w) (seen_of later) sets)) may.entities;
      markers = subst (λ held. IsSome held) (sym (same-markers kinds apart kind known index part (seen_of w) (seen_of later) sets)) may.markers;
      allocator = subst (λ held. IsSome (option_and_then kinds.noting held)) (sym (same-allocator kinds apart kind known index part (seen_of w) (seen_of later) sets)) may.allocator;
      roll = subst (λ r. IsRoll r) (sym same) may.roll;
      below = subst (λ r. All (λ id. id < r.noting.next) (ids_in r)) (sym same) may.below;
      within = λ other is. subst (λ r. IsWithin kinds r (column_of kinds (seen_of later) other)) (sym same) (within-by other is (bytes_eq other kind) refl);
      born = λ other is. subst (λ r. (at : ℕ) (one : Stored) → column_of kinds (seen_of later) other at ≡ Some one → All (WasBorn r.births) one.named) (sym same) (born-by other is (bytes_eq other kind) refl);
    }
      where
        within-by : (other : Name) → is_among other kinds.part_names ≡ true → (b : Bool) → bytes_eq other kind ≡ b → IsWithin kinds old (column_of kinds (seen_of later) other)
        within-by other is false differ at some = may.within other is at (subst (λ o. IsSome o) (column-stays kinds apart kind known index part (seen_of w) (seen_of later) sets other is differ at) some)
        within-by other is true e at some = subst (λ n. IsSome (column_of kinds (seen_of later) n at) → IsSome (living old.births at)) (sym ((bytes_eq-Decides other kind).0 e)) (there at) some
          where
            there : (at : ℕ) → IsSome (column_of kinds (seen_of later) kind at) → IsSome (living old.births at)
            there at some = by (column_of kinds (seen_of later) kind at) refl some
              where
                by : (o : Option Stored) → column_of kinds (seen_of later) kind at ≡ o → IsSome o → IsSome (living old.births at)
                by None e some = absurd (false≢true some)
                by (Some one) e some = each-stored (λ i s. IsSome (living old.births i)) (λ i s f. may.within kind known i (subst (λ o. IsSome o) (sym f) refl)) (λ s f. lives_there) at one e

        born-by : (other : Name) → is_among other kinds.part_names ≡ true → (b : Bool) → bytes_eq other kind ≡ b → (at : ℕ) (one : Stored) → column_of kinds (seen_of later) other at ≡ Some one → All (WasBorn old.births) one.named
        born-by other is false differ at one e = may.born other is at one (sym (column-stays kinds apart kind known index part (seen_of w) (seen_of later) sets other is differ at) ∙ e)
        born-by other is true same_name at one e =
            each-stored (λ i s. All (WasBorn old.births) s.named) (λ i s f. may.born kind known i s f) born at one
            (subst (λ n. column_of kinds (seen_of later) n at ≡ Some one) ((bytes_eq-Decides other kind).0 same_name) e)

    -- the scene is the one with that part at the id of the index
    pub sets-scene : (id : ℕ) → id_at old index ≡ Some id
        → plain_of kinds (seen_of later) ≡ record (plain_of kinds (seen_of w)) { part = with_part id kind (option_map (part_under (ref_to old)) part) (plain_of kinds (seen_of w)).part }
    sets-scene id there = scene-set kinds (seen_of w) (seen_of later) may.roll kind known id index there part (sets-part kinds apart kind known index part (seen_of w) (seen_of later) sets)
