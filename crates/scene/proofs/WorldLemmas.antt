-- What stays of the scene that stands in a world while queues are taken out and put in.
use Rattle.std.proofs.Common.{◌≡◌, ◌<◌, ◌+◌, ℕ, zero, suc, Bool, true, false, cond, eqb, List, [], ◌∷◌, ◌++◌, length, take, get_or, Option, Some, None, refl, ap, sym, ◌∙◌, subst, arith, All}
use Rattle.std.specs.Prelude.{IsSome, option_and_then}
use Rattle.std.specs.Option.{option_map_or}
use Rattle.std.specs.FinMap as slots
use Rattle.std.proofs.lemmas.Bool.{true≢false, eqb-true, eq-eqb, or_parts}
use Rattle.std.proofs.lemmas.Bool.Decides.{nat_tests}
use Rattle.std.proofs.lemmas.List.{take_more}
use Rattle.std.proofs.lemmas.List.Elements.{All-nil, All-cons, All-head, All-tail, All-append}
use Rattle.shred_world.specs.declared.resource_id.ResourceId.{ResourceId}
use Rattle.shred_world.specs.ResourceIds.{same_id}
use Rattle.shred_world.specs.Worlds.{Slots}
use Rattle.shred_world.specs.Bundles.{readable, slot_of}
use Rattle.shred_world.proofs.CallerLemmas.{ids_total}
use Rattle.scene_model.specs.Parts.{Name, is_among}
use Rattle.scene_model.specs.Scenes.{lives}
use Rattle.scene_model.proofs.CallerLemmas.{same_scene, all_front, all_back}
use Rattle.scene_world.specs.Rolls.{Roll, IsRoll, ids_in, part_in}
use Rattle.scene_world.specs.Standing.{Kinds, roll_of, column_in, column_of, plain_of, commands_of, IsWithin}
use Rattle.scene_world.specs.Lent.{Place, entities, markers, allocator, parts, value, queue, id_of_place, is_known, same_place, StandApart}
use Rattle.scene_world.specs.Ages.{Ages}
use Rattle.scene_world.proofs.CallerLemmas.{same-roll, ages-none, kind-stays, markers-stay as shown-markers}
use Rattle.scene_commands.specs.Bounds.{GrowsByIds}
use Rattle.scene_commands.proofs.CallerLemmas.{grows-none}
use Rattle.scene_commands.specs.Acts.{seen_of, WasBorn, MayAct, StaysElsewhere, GoesOn}
use Rattle.scene_commands.proofs.CallerLemmas.{sees-now}
use Rattle.scene.specs.Waiting.{PlacesAscend, IsNoQueue, StaysBeside, StaysApart, NoneWaitsAt}
use Rattle.scene.proofs.QueueLemmas.{ArePlacesAbove, PlacesRise, places-rise}

-- a slot that was put in is there, and each other is what it was
pub put-else : {V : Type 0} (w later : Slots V) (asked id : ResourceId) (slot : Option V) → later ≡ slots.insert w asked slot → same_id id asked ≡ false → seen_of later id ≡ seen_of w id
put-else w later asked id slot is apart = ap (λ one. readable (slot_of one)) (ap (λ m. slots.get m id) is ∙ slots.get-insert ids_total w asked slot id ∙ ap (λ b. cond b (Some slot) (slots.get w id)) apart)

module _ {V : Type 0} (kinds : Kinds V) (apart : StandApart kinds) where
  -- no queue stands where something else does
  no-queue : (one : Place) → is_known kinds one ≡ true → ((position : ℕ) → same_place one (queue position) ≡ false) → (places : List ℕ) → IsNoQueue kinds places (id_of_place kinds one)
  no-queue one known differ [] = All-nil (λ place. same_id (id_of_place kinds one) (kinds.queue_id place) ≡ false)
  no-queue one known differ (place ∷ places) =
      All-cons (λ other. same_id (id_of_place kinds one) (kinds.queue_id other) ≡ false) place places (apart one (queue place) known refl ∙ differ place) (no-queue one known differ places)

  -- and two queues stand apart
  pub other-queue : (place other : ℕ) → eqb place other ≡ false → same_id (kinds.queue_id place) (kinds.queue_id other) ≡ false
  other-queue place other differ = apart (queue place) (queue other) refl refl ∙ differ

  module _ (places : List ℕ) (w later : Slots V) (beside : StaysBeside kinds places w later) where
    entities-stay : seen_of later kinds.entities_id ≡ seen_of w kinds.entities_id
    entities-stay = beside kinds.entities_id (no-queue entities refl (λ position. refl) places)

    markers-stay : seen_of later kinds.markers_id ≡ seen_of w kinds.markers_id
    markers-stay = beside kinds.markers_id (no-queue markers refl (λ position. refl) places)

    allocator-stays : seen_of later kinds.allocator_id ≡ seen_of w kinds.allocator_id
    allocator-stays = beside kinds.allocator_id (no-queue allocator refl (λ position. refl) places)

    part-stays : (kind : Name) → is_among kind kinds.part_names ≡ true → seen_of later (kinds.part_id kind) ≡ seen_of w (kinds.part_id kind)
    part-stays kind known = beside (kinds.part_id kind) (no-queue (parts kind) known (λ position. refl) places)

    value-stays : (name : Name) → is_among name kinds.global_names ≡ true → seen_of later (kinds.global_id name) ≡ seen_of w (kinds.global_id name)
    value-stays name known = beside (kinds.global_id name) (no-queue (value name) known (λ position. refl) places)

    pub roll-stays : roll_of kinds (seen_of later) ≡ roll_of kinds (seen_of w)
    roll-stays = same-roll kinds (seen_of later) (seen_of w) entities-stay markers-stay allocator-stays

    column-stays : (kind : Name) → is_among kind kinds.part_names ≡ true → column_of kinds (seen_of later) kind ≡ column_of kinds (seen_of w) kind
    column-stays kind known = ap (column_in kinds kind) (part-stays kind known)

    -- so the scene that stands there is the same
    pub scene-stays : plain_of kinds (seen_of later) ≡ plain_of kinds (seen_of w)
    scene-stays = same_scene (plain_of kinds (seen_of later)) (plain_of kinds (seen_of w))
        (ap (λ (roll : Roll). roll.noting.next) roll-stays)
        (ap ids_in roll-stays)
        (λ id kind. part id kind (is_among kind kinds.part_names) refl)
        (λ name. global name (is_among name kinds.global_names) refl)
      where
        part : (id : ℕ) (kind : Name) (b : Bool) → is_among kind kinds.part_names ≡ b
            → cond b (part_in (roll_of kinds (seen_of later)) (column_of kinds (seen_of later) kind) id) None ≡ cond b (part_in (roll_of kinds (seen_of w)) (column_of kinds (seen_of w) kind) id) None
        part id kind true known = ap (λ roll. part_in roll (column_of kinds (seen_of later) kind) id) roll-stays ∙ ap (λ column. part_in (roll_of kinds (seen_of w)) column id) (column-stays kind known)
        part id kind false known = refl

        global : (name : Name) (b : Bool) → is_among name kinds.global_names ≡ b
            → cond b (option_and_then (kinds.value name) (seen_of later (kinds.global_id name))) None ≡ cond b (option_and_then (kinds.value name) (seen_of w (kinds.global_id name))) None
        global name true known = ap (option_and_then (kinds.value name)) (value-stays name known)
        global name false known = refl

    -- nothing is told, and no time passed
    pub goes-beside : GoesOn kinds w later
    goes-beside = record {
      shown = record {
        parts = λ kind known. kind-stays kinds kind (seen_of w) (seen_of later) (part-stays kind known);
        markers = shown-markers kinds (seen_of w) (seen_of later) markers-stay;
      };
      ages = subst (λ roll. Ages (roll_of kinds (seen_of w)) roll) (sym roll-stays) (ages-none (roll_of kinds (seen_of w)));
      grows = subst (λ roll. GrowsByIds (roll_of kinds (seen_of w)) roll) (sym roll-stays) (grows-none (roll_of kinds (seen_of w)).births (roll_of kinds (seen_of w)).noting.next);
    }

    -- and commands may be carried out there as before
    pub may-stays : MayAct kinds w → MayAct kinds later
    may-stays may = record {
      entities = subst (λ held. IsSome (option_and_then kinds.births held)) (sym entities-stay) may.entities;
      markers = subst IsSome (sym markers-stay) may.markers;
      allocator = subst (λ held. IsSome (option_and_then kinds.noting held)) (sym allocator-stays) may.allocator;
      roll = subst IsRoll (sym roll-stays) may.roll;
      below = subst (λ roll. All (λ id. id < roll.noting.next) (ids_in roll)) (sym roll-stays) may.below;
      within = λ kind known. subst (λ roll. IsWithin kinds roll (column_of kinds (seen_of later) kind)) (sym roll-stays) (subst (IsWithin kinds (roll_of kinds (seen_of w))) (sym (column-stays kind known)) (may.within kind known));
      born = λ kind known index stored is. subst (λ (roll : Roll). All (WasBorn roll.births) stored.named) (sym roll-stays) (may.born kind known index stored (ap (λ column. column index) (sym (column-stays kind known)) ∙ is));
    }

  -- what stays elsewhere, and then beside queues, stays apart from both
  pub stays-apart : (places : List ℕ) (w between later : Slots V) → StaysElsewhere kinds w between → StaysBeside kinds places between later → StaysApart kinds places w later
  stays-apart places w between later elsewhere beside id e m a p none = beside id none ∙ elsewhere id e m a p

  -- and what stayed beside them before
  pub beside-apart : (places : List ℕ) (w between later : Slots V) → StaysBeside kinds places w between → StaysApart kinds places between later → StaysApart kinds places w later
  beside-apart places w between later beside stays id e m a p none = stays id e m a p none ∙ beside id none

  -- the commands of a queue at no place stay
  pub waits-apart : (places : List ℕ) (w later : Slots V) (place : ℕ) → StaysApart kinds places w later → lives place places ≡ false → commands_of kinds (seen_of later) place ≡ commands_of kinds (seen_of w) place
  waits-apart places w later place stays none = ap (λ held. option_map_or kinds.queued held [])
      (stays (kinds.queue_id place) (apart (queue place) entities refl refl) (apart (queue place) markers refl refl) (apart (queue place) allocator refl refl) (λ kind known. apart (queue place) (parts kind) refl known) (all places none))
    where
      other : (first : ℕ) → eqb first place ≡ false → eqb place first ≡ false
      other first differ = by (eqb place first) refl
        where
          by : (b : Bool) → eqb place first ≡ b → b ≡ false
          by true at = absurd (true≢false (sym (eq-eqb first place (sym (eqb-true place first at))) ∙ differ))
          by false at = refl

      all : (some : List ℕ) → lives place some ≡ false → IsNoQueue kinds some (kinds.queue_id place)
      all [] none = All-nil (λ one. same_id (kinds.queue_id place) (kinds.queue_id one) ≡ false)
      all (first ∷ some) none = let both = or_parts (eqb first place) (lives place some) none in
          All-cons (λ one. same_id (kinds.queue_id place) (kinds.queue_id one) ≡ false) first some (other-queue place first (other first both.0)) (all some both.1)

  -- a place behind others is none of theirs
  above-at : (least : ℕ) (places : List ℕ) → ArePlacesAbove least places → (i d : ℕ) → i < length places → least < get_or places i d
  above-at least [] above i d below = absurd (omega (arith, below))
  above-at least (place ∷ places) above zero d below = above.0
  above-at least (place ∷ places) above (suc i) d below = above-at least places above.1 i d (omega (arith, below))

  behind-apart : (places : List ℕ) → PlacesRise places → (i place : ℕ) → i < length places → place ≡ get_or places i place → IsNoQueue kinds (take i places) (kinds.queue_id place)
  behind-apart [] rise i place below is = absurd (omega (arith, below))
  behind-apart (first ∷ places) rise zero place below is = All-nil (λ one. same_id (kinds.queue_id place) (kinds.queue_id one) ≡ false)
  behind-apart (first ∷ places) rise (suc i) place below is =
      let less : first < get_or places i place = above-at first places rise.0 i place (omega (arith, below)) in
      let apart_ids : same_id (kinds.queue_id place) (kinds.queue_id first) ≡ false = other-queue place first (differ place first (omega (arith, less, is))) in
      All-cons (λ one. same_id (kinds.queue_id place) (kinds.queue_id one) ≡ false) first (take i places) apart_ids (behind-apart places rise.1 i place (omega (arith, below)) is)
    where
      differ : (one other : ℕ) → other < one → eqb one other ≡ false
      differ one other less = grind (arith, nat_tests)

  module _ (places : List ℕ) (ascend : PlacesAscend places) (i place : ℕ) (below : i < length places) (is : place ≡ get_or places i place) where
    -- what waits at a place is there still, while those before it are taken out
    pub waits-yet : (w between : Slots V) → StaysBeside kinds (take i places) w between → commands_of kinds (seen_of between) place ≡ commands_of kinds (seen_of w) place
    waits-yet w between beside = ap (λ held. option_map_or kinds.queued held []) (beside (kinds.queue_id place) (behind-apart places (places-rise places ascend) i place below is))

    -- none waits at one place more
    pub empty-more : (between later : Slots V) → NoneWaitsAt kinds (take i places) (seen_of between) → commands_of kinds (seen_of later) place ≡ [] → StaysBeside kinds (place ∷ []) between later → NoneWaitsAt kinds (take (i + 1) places) (seen_of later)
    empty-more between later empty now beside =
        subst (λ some. NoneWaitsAt kinds some (seen_of later)) (sym (take_more places i place below ∙ ap (λ one. take i places ++ one ∷ []) (sym is)))
        (All-append (λ one. commands_of kinds (seen_of later) one ≡ []) (take i places) (place ∷ [])
        (earlier (take i places) empty (behind-apart places (places-rise places ascend) i place below is))
        (All-cons (λ one. commands_of kinds (seen_of later) one ≡ []) place [] now (All-nil (λ one. commands_of kinds (seen_of later) one ≡ []))))
      where
        turned : (first : ℕ) → same_id (kinds.queue_id place) (kinds.queue_id first) ≡ false → same_id (kinds.queue_id first) (kinds.queue_id place) ≡ false
        turned first differ = apart (queue first) (queue place) refl refl ∙ same first (sym (apart (queue place) (queue first) refl refl) ∙ differ)
          where
            same : (first : ℕ) → eqb place first ≡ false → eqb first place ≡ false
            same first differ = grind (arith, nat_tests)

        earlier : (some : List ℕ) → NoneWaitsAt kinds some (seen_of between) → IsNoQueue kinds some (kinds.queue_id place) → NoneWaitsAt kinds some (seen_of later)
        earlier [] none differ = All-nil (λ one. commands_of kinds (seen_of later) one ≡ [])
        earlier (first ∷ some) none differ = All-cons (λ one. commands_of kinds (seen_of later) one ≡ []) first some
            (ap (λ held. option_map_or kinds.queued held []) (beside (kinds.queue_id first) (All-cons (λ one. same_id (kinds.queue_id first) (kinds.queue_id one) ≡ false) place []
            (turned first (All-head (λ one. same_id (kinds.queue_id place) (kinds.queue_id one) ≡ false) first some differ)) (All-nil (λ one. same_id (kinds.queue_id first) (kinds.queue_id one) ≡ false))))
            ∙ All-head (λ one. commands_of kinds (seen_of between) one ≡ []) first some none)
            (earlier some (All-tail (λ one. commands_of kinds (seen_of between) one ≡ []) first some none) (All-tail (λ one. same_id (kinds.queue_id place) (kinds.queue_id one) ≡ false) first some differ))

-- what stays beside queues stays beside one more
pub beside-more : {V : Type 0} (kinds : Kinds V) (places : List ℕ) (i place : ℕ) → i < length places → place ≡ get_or places i place → (w between later : Slots V) → StaysBeside kinds (take i places) w between → StaysBeside kinds (place ∷ []) between later
    → StaysBeside kinds (take (i + 1) places) w later
beside-more kinds places i place below is w between later first last id none =
    let split = subst (λ some. IsNoQueue kinds some id) (take_more places i place below ∙ ap (λ one. take i places ++ one ∷ []) (sym is)) none in
    last id (all_back (λ one. same_id id (kinds.queue_id one) ≡ false) (take i places) (place ∷ []) split) ∙ first id (all_front (λ one. same_id id (kinds.queue_id one) ≡ false) (take i places) (place ∷ []) split)
