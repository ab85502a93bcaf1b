-- A global that is put into a world.
use Rattle.std.proofs.Common.{◌≡◌, ◌<◌, ℕ, Bool, true, false, cond, length, [], Some, None, refl, ap, sym, ◌∙◌, subst, All}
use Rattle.std.specs.Prelude.{IsSome, option_and_then}
use Rattle.std.specs.FinMap as slots
use Rattle.std.specs.Option.{option_flatten, option_map_or}
use Rattle.std.specs.Str.{bytes_eq}
use Rattle.std.proofs.lemmas.Slice.Eq.{bytes_eq-Decides}
use Rattle.shred_world.specs.declared.resource_id.ResourceId.{ResourceId}
use Rattle.shred_world.specs.ResourceIds.{same_id}
use Rattle.shred_world.specs.Worlds.{Slots, value_at}
use Rattle.shred_world.specs.Bundles.{readable, slot_of}
use Rattle.shred_world.proofs.CallerLemmas.{ids_total, get-insert_here}
use Rattle.scene_model.specs.Parts.{Json, Name, is_among}
use Rattle.scene_model.proofs.CallerLemmas.{same_scene}
use Rattle.scene_world.specs.Stored.{Stored}
use Rattle.scene_world.specs.Rolls.{IsRoll, ids_in, part_in}
use Rattle.scene_world.specs.Standing.{Kinds, roll_of, column_of, column_in, value_of, IsWithin}
use Rattle.scene_world.specs.Lent.{StandApart, entities, markers, allocator, parts, value, queue}
use Rattle.scene_world.proofs.CallerLemmas.{same-roll}
use Rattle.scene_commands.specs.Acts.{seen_of, WasBorn, MayAct}
use Rattle.scene_commands.proofs.LookLemmas.{seen-value}
use Rattle.scene_commands.specs.Bounds.{GrowsByLiving}
use Rattle.scene_commands.proofs.BoundLemmas.{grows-none}
use Rattle.scene_commands.specs.Becoming.{Becomes}
use Rattle.scene_commands.specs.Entries.{with_value}

-- a value that was put in stands there
pub sees-now : {V : Type 0} (w later : Slots V) (id : ResourceId) (left : V) → later ≡ slots.insert w id (Some left) → seen_of later id ≡ Some left
sees-now w later id left leaves = seen-value later id ∙ ap (λ m. value_at m id) leaves ∙ ap option_flatten (get-insert_here w id (Some left))

-- and at each other id is what was there
sees-else : {V : Type 0} (w later : Slots V) (id : ResourceId) (left : V) → later ≡ slots.insert w id (Some left) → (other : ResourceId) → same_id other id ≡ false → seen_of later other ≡ seen_of w other
sees-else w later id left leaves other apart = ap (λ slot. readable (slot_of slot))
    (ap (λ m. slots.get m other) leaves ∙ slots.get-insert ids_total w id (Some left) other ∙ ap (λ b. cond b (Some (Some left)) (slots.get w other)) apart)

module _ {V : Type 0} (kinds : Kinds V) (apart : StandApart kinds) (name : Name) (known : is_among name kinds.global_names ≡ true) (json : Json) (w later : Slots V) (left : V)
    (reads : kinds.value name left ≡ Some json) (at : ResourceId) (at_name : at ≡ kinds.global_id name) (leaves : later ≡ slots.insert w at (Some left)) where
  stands : seen_of later (kinds.global_id name) ≡ Some left
  stands = sees-now w later (kinds.global_id name) left (leaves ∙ ap (λ id. slots.insert w id (Some left)) at_name)

  stays : (id : ResourceId) → same_id id (kinds.global_id name) ≡ false → seen_of later id ≡ seen_of w id
  stays = sees-else w later (kinds.global_id name) left (leaves ∙ ap (λ id. slots.insert w id (Some left)) at_name)

  -- who lives and the parts are as they were
  roll-stays : roll_of kinds (seen_of later) ≡ roll_of kinds (seen_of w)
  roll-stays = same-roll kinds (seen_of later) (seen_of w) (stays kinds.entities_id (apart entities (value name) refl known)) (stays kinds.markers_id (apart markers (value name) refl known))
      (stays kinds.allocator_id (apart allocator (value name) refl known))

  column-stays : (kind : Name) → is_among kind kinds.part_names ≡ true → column_of kinds (seen_of later) kind ≡ column_of kinds (seen_of w) kind
  column-stays kind is = ap (λ held. column_in kinds kind held) (stays (kinds.part_id kind) (apart (parts kind) (value name) is known))

  -- the world has that value
  pub sets-global : MayAct kinds w → Becomes kinds (with_value (Some (name, json))) w later
  sets-global may = record {
    may = record {
      entities = subst (λ held. IsSome (option_and_then kinds.births held)) (sym (stays kinds.entities_id (apart entities (value name) refl known))) may.entities;
      markers = subst (λ held. IsSome held) (sym (stays kinds.markers_id (apart markers (value name) refl known))) may.markers;
      allocator = subst (λ held. IsSome (option_and_then kinds.noting held)) (sym (stays kinds.allocator_id (apart allocator (value name) refl known))) may.allocator;
      roll = subst (λ r. IsRoll r) (sym roll-stays) may.roll;
      below = subst (λ r. All (λ id. id < r.noting.next) (ids_in r)) (sym roll-stays) may.below;
      within = λ kind is. subst (λ r. IsWithin kinds r (column_of kinds (seen_of later) kind)) (sym roll-stays)
          (subst (λ column. IsWithin kinds (roll_of kinds (seen_of w)) column) (sym (column-stays kind is)) (may.within kind is));
      born = λ kind is. subst (λ r. (index : ℕ) (one : Stored) → column_of kinds (seen_of later) kind index ≡ Some one → All (WasBorn r.births) one.named) (sym roll-stays)
          (subst (λ column. (index : ℕ) (one : Stored) → column index ≡ Some one → All (WasBorn (roll_of kinds (seen_of w)).births) one.named) (sym (column-stays kind is)) (may.born kind is));
    };
    scene = same_scene _ _ (ap (λ r. r.noting.next) roll-stays) (ap ids_in roll-stays) (λ id kind. part id kind (is_among kind kinds.part_names) refl) (λ other. global other (bytes_eq other name) refl);
    queues = λ position. ap (λ held. option_map_or kinds.queued held []) (stays (kinds.queue_id position) (apart (queue position) (value name) refl known));
    grows = subst (λ roll. GrowsByLiving (roll_of kinds (seen_of w)) roll) (sym roll-stays) (grows-none (roll_of kinds (seen_of w)).births (length (ids_in (roll_of kinds (seen_of w)))));
  }
    where
      part : (id : ℕ) (kind : Name) (b : Bool) → is_among kind kinds.part_names ≡ b
          → cond b (part_in (roll_of kinds (seen_of later)) (column_of kinds (seen_of later) kind) id) None ≡ cond b (part_in (roll_of kinds (seen_of w)) (column_of kinds (seen_of w) kind) id) None
      part id kind true is = ap (λ r. part_in r (column_of kinds (seen_of later) kind) id) roll-stays ∙ ap (λ column. part_in (roll_of kinds (seen_of w)) column id) (column-stays kind is)
      part id kind false is = refl

      global : (other : Name) (b : Bool) → bytes_eq other name ≡ b
          → cond (is_among other kinds.global_names) (value_of kinds (seen_of later) other) None ≡ cond b (Some json) (cond (is_among other kinds.global_names) (value_of kinds (seen_of w) other) None)
      global other true same =
          ap (λ n. cond (is_among n kinds.global_names) (value_of kinds (seen_of later) n) None) ((bytes_eq-Decides other name).0 same)
          ∙ ap (λ b. cond b (value_of kinds (seen_of later) name) None) known
          ∙ ap (option_and_then (kinds.value name)) stands ∙ reads
      global other false differ = at_other (is_among other kinds.global_names) refl
        where
          at_other : (b : Bool) → is_among other kinds.global_names ≡ b → cond b (value_of kinds (seen_of later) other) None ≡ cond b (value_of kinds (seen_of w) other) None
          at_other true is = ap (option_and_then (kinds.value other)) (stays (kinds.global_id other) (apart (value other) (value name) is known ∙ differ))
          at_other false is = refl
