-- A world whose entities were taken out and put back: the scene that stands there is the same.
use Rattle.std.proofs.Common.{◌≡◌, ◌<◌, ℕ, Bool, true, false, cond, None, refl, ap, sym, ◌∙◌, subst, All}
use Rattle.std.specs.Prelude.{IsSome, option_and_then}
use Rattle.std.specs.Option.{unwrap_or}
use Rattle.shred_world.specs.Worlds.{Slots}
use Rattle.specs_markers.specs.Simple.{none_noted}
use Rattle.scene_model.specs.Parts.{Name, is_among}
use Rattle.scene_model.proofs.CallerLemmas.{same_scene}
use Rattle.scene_world.specs.Rolls.{Roll, IsRoll, ids_in, part_in}
use Rattle.scene_world.specs.Standing.{Kinds, roll_of, column_in, column_of, plain_of, IsWithin}
use Rattle.scene_world.specs.Lent.{StandApart, entities, markers, allocator, parts, value}
use Rattle.scene_world.specs.Ages.{Ages}
use Rattle.scene_world.proofs.CallerLemmas.{ages-none, kind-stays, markers-stay}
use Rattle.scene_commands.specs.Acts.{seen_of, WasBorn, MayAct, StaysElsewhere, GoesOn}
use Rattle.scene_commands.specs.Owning.{KeepsEntities}
use Rattle.scene_commands.specs.Bounds.{GrowsByIds}
use Rattle.scene_commands.proofs.BoundLemmas.{grows-none}

module _ {V : Type 0} (kinds : Kinds V) (apart : StandApart kinds) (w later : Slots V) (keeps : KeepsEntities kinds (seen_of w) (seen_of later)) where
  markers-kept : seen_of later kinds.markers_id ≡ seen_of w kinds.markers_id
  markers-kept = keeps.others kinds.markers_id (apart markers entities refl refl)

  allocator-kept : seen_of later kinds.allocator_id ≡ seen_of w kinds.allocator_id
  allocator-kept = keeps.others kinds.allocator_id (apart allocator entities refl refl)

  column-kept : (kind : Name) → is_among kind kinds.part_names ≡ true → column_of kinds (seen_of later) kind ≡ column_of kinds (seen_of w) kind
  column-kept kind known = ap (column_in kinds kind) (keeps.others (kinds.part_id kind) (apart (parts kind) entities known refl))

  -- the same live, under the same ids
  pub marker-kept : (index : ℕ) → (roll_of kinds (seen_of later)).marker index ≡ (roll_of kinds (seen_of w)).marker index
  marker-kept index = ap (λ held. option_and_then (λ v. kinds.marker v index) held) markers-kept

  noting-kept : (roll_of kinds (seen_of later)).noting ≡ (roll_of kinds (seen_of w)).noting
  noting-kept = ap (λ held. unwrap_or (option_and_then kinds.noting held) none_noted) allocator-kept

  roll-kept : roll_of kinds (seen_of later) ≡ roll_of kinds (seen_of w)
  roll-kept =
      let marks : (roll_of kinds (seen_of later)).marker ≡ (roll_of kinds (seen_of w)).marker = ap (λ held index. option_and_then (λ v. kinds.marker v index) held) markers-kept in
      λ i. record { births = keeps.births i; marker = marks i; noting = noting-kept i }

  -- so the scene is the same
  pub scene-kept : plain_of kinds (seen_of later) ≡ plain_of kinds (seen_of w)
  scene-kept = same_scene (plain_of kinds (seen_of later)) (plain_of kinds (seen_of w))
      (ap (λ (roll : Roll). roll.noting.next) roll-kept)
      (ap ids_in roll-kept)
      (λ id kind. part id kind (is_among kind kinds.part_names) refl)
      (λ name. global name (is_among name kinds.global_names) refl)
    where
      part : (id : ℕ) (kind : Name) (b : Bool) → is_among kind kinds.part_names ≡ b
          → cond b (part_in (roll_of kinds (seen_of later)) (column_of kinds (seen_of later) kind) id) None ≡ cond b (part_in (roll_of kinds (seen_of w)) (column_of kinds (seen_of w) kind) id) None
      part id kind true known = ap (λ roll. part_in roll (column_of kinds (seen_of later) kind) id) roll-kept ∙ ap (λ column. part_in (roll_of kinds (seen_of w)) column id) (column-kept kind known)
      part id kind false known = refl

      global : (name : Name) (b : Bool) → is_among name kinds.global_names ≡ b
          → cond b (option_and_then (kinds.value name) (seen_of later (kinds.global_id name))) None ≡ cond b (option_and_then (kinds.value name) (seen_of w (kinds.global_id name))) None
      global name true known = ap (option_and_then (kinds.value name)) (keeps.others (kinds.global_id name) (apart (value name) entities known refl))
      global name false known = refl

  -- nothing is told, and no time passed
  pub goes-kept : GoesOn kinds w later
  goes-kept = record {
    shown = record {
      parts = λ kind known. kind-stays kinds kind (seen_of w) (seen_of later) (keeps.others (kinds.part_id kind) (apart (parts kind) entities known refl));
      markers = markers-stay kinds (seen_of w) (seen_of later) markers-kept;
    };
    ages = subst (λ roll. Ages (roll_of kinds (seen_of w)) roll) (sym roll-kept) (ages-none (roll_of kinds (seen_of w)));
    grows = subst (λ roll. GrowsByIds (roll_of kinds (seen_of w)) roll) (sym roll-kept) (grows-none (roll_of kinds (seen_of w)).births (roll_of kinds (seen_of w)).noting.next);
  }

  -- what stands elsewhere stays
  pub elsewhere-kept : StaysElsewhere kinds w later
  elsewhere-kept id e m a p = keeps.others id e

  -- and commands may be carried out there as before
  pub may-kept : MayAct kinds w → MayAct kinds later
  may-kept may = record {
    entities = keeps.there;
    markers = subst IsSome (sym markers-kept) may.markers;
    allocator = subst (λ held. IsSome (option_and_then kinds.noting held)) (sym allocator-kept) may.allocator;
    roll = subst IsRoll (sym roll-kept) may.roll;
    below = subst (λ roll. All (λ id. id < roll.noting.next) (ids_in roll)) (sym roll-kept) may.below;
    within = λ kind known. subst (λ roll. IsWithin kinds roll (column_of kinds (seen_of later) kind)) (sym roll-kept) (subst (IsWithin kinds (roll_of kinds (seen_of w))) (sym (column-kept kind known)) (may.within kind known));
    born = λ kind known index stored is. subst (λ (roll : Roll). All (WasBorn roll.births) stored.named) (sym roll-kept) (may.born kind known index stored (ap (λ column. column index) (sym (column-kept kind known)) ∙ is));
  }
