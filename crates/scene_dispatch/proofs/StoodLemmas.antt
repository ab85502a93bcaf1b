-- Lemmas on worlds into which queues were put.
use Rattle.std.proofs.Common.{◌≡◌, ◌<◌, ◌+◌, ℕ, true, false, Bool, List, [], ◌∷◌, ◌++◌, length, take, drop, get_or, Option, Some, None, IsSome, cond, refl, ap, sym, subst, ◌∙◌}
use Rattle.std.specs.List.{All}
use Rattle.std.specs.Option.{option_and_then, option_map_or, option_flatten}
use Rattle.std.specs.FinMap as map
use Rattle.std.proofs.lemmas.List.Elements.{All-nil, All-cons, All-head, All-push, All-weaker}
use Rattle.std.proofs.lemmas.List.{take_more, take-append-drop}
use Rattle.shred_world.specs.declared.resource_id.ResourceId.{ResourceId}
use Rattle.shred_world.specs.ResourceIds.{same_id}
use Rattle.shred_world.specs.Bundles.{readable, slot_of, holding_of}
use Rattle.shred_world.specs.Worlds.{Slots, value_at}
use Rattle.shred_world.proofs.CallerLemmas.{ids_total, same_id-is, same_id-itself}
use Rattle.scene_model.specs.declared.command.Queue.{Queue}
use Rattle.scene_model.specs.Queues.{waiting, plain_commands}
use Rattle.scene_model.specs.Parts.{Name, Part, is_among}
use Rattle.scene_model.specs.Rulebook.{Book}
use Rattle.scene_model.specs.Scenes.{IsProper}
use Rattle.scene_model.proofs.CallerLemmas.{same_scene, all_front, all_back}
use Rattle.scene_world.specs.Rolls.{ids_in, part_in, IsRoll}
use Rattle.scene_world.specs.Standing.{Sight, Kinds, seen_in, roll_in, roll_of, column_in, column_of, value_of, plain_of, commands_of, IsWithin, IsSceneWorld}
use Rattle.scene_world.specs.Lent.{Place, entities, markers, allocator, parts, value, queue, same_place, id_of_place, is_known, StandApart}
use Rattle.scene_world.specs.Places.{Places, Columns, kinds_of}
use Rattle.scene_dispatch.specs.Opened.{HasEmptyQueue, IsElsewhere, StandsElse}

-- a sight shows the same at the places of a scene
pub record ShowsSame {V : Type 0} (kinds : Kinds V) (w later : Sight V) : Type 0 where
  pub entities : later kinds.entities_id ≡ w kinds.entities_id
  pub markers : later kinds.markers_id ≡ w kinds.markers_id
  pub allocator : later kinds.allocator_id ≡ w kinds.allocator_id
  pub parts : (kind : Name) → is_among kind kinds.part_names ≡ true → later (kinds.part_id kind) ≡ w (kinds.part_id kind)
  pub globals : (name : Name) → is_among name kinds.global_names ≡ true → later (kinds.global_id name) ≡ w (kinds.global_id name)

module _ {V : Type 0} (kinds : Kinds V) (w later : Sight V) (shows : ShowsSame kinds w later) where
  -- who lives is the same
  pub same-roll : roll_of kinds later ≡ roll_of kinds w
  same-roll =
      ap (λ e. roll_in kinds e (later kinds.markers_id) (later kinds.allocator_id)) shows.entities
      ∙ ap (λ m. roll_in kinds (w kinds.entities_id) m (later kinds.allocator_id)) shows.markers
      ∙ ap (λ a. roll_in kinds (w kinds.entities_id) (w kinds.markers_id) a) shows.allocator

  -- and so is each column
  pub same-column : (kind : Name) → is_among kind kinds.part_names ≡ true → column_of kinds later kind ≡ column_of kinds w kind
  same-column kind known = ap (column_in kinds kind) (shows.parts kind known)

  -- the same scene is seen
  pub same-scene : plain_of kinds later ≡ plain_of kinds w
  same-scene =
      same_scene _ _ (ap (λ r. r.noting.next) same-roll) (ap ids_in same-roll)
      (λ id kind. part id kind (is_among kind kinds.part_names) refl)
      (λ name. global name (is_among name kinds.global_names) refl)
    where
      part : (id : ℕ) (kind : Name) (b : Bool) → is_among kind kinds.part_names ≡ b → cond b (part_in (roll_of kinds later) (column_of kinds later kind) id) None ≡ cond b (part_in (roll_of kinds w) (column_of kinds w kind) id) None
      part id kind false known = refl
      part id kind true known = ap (λ r. part_in r (column_of kinds later kind) id) same-roll ∙ ap (λ column. part_in (roll_of kinds w) column id) (same-column kind known)

      global : (name : Name) (b : Bool) → is_among name kinds.global_names ≡ b → cond b (value_of kinds later name) None ≡ cond b (value_of kinds w name) None
      global name false known = refl
      global name true known = ap (option_and_then (kinds.value name)) (shows.globals name known)

  -- and so a scene stands still
  pub same-stands : (book : Book) → IsSceneWorld kinds book w → IsSceneWorld kinds book later
  same-stands book stands = record {
    entities = subst (λ v. IsSome (option_and_then kinds.births v)) (sym shows.entities) stands.entities;
    markers = subst IsSome (sym shows.markers) stands.markers;
    allocator = subst (λ v. IsSome (option_and_then kinds.noting v)) (sym shows.allocator) stands.allocator;
    roll = subst IsRoll (sym same-roll) stands.roll;
    within = λ kind known. subst (λ column. IsWithin kinds (roll_of kinds later) column) (sym (same-column kind known)) (subst (λ r. IsWithin kinds r (column_of kinds w kind)) (sym same-roll) (stands.within kind known));
    proper = subst (IsProper book) (sym same-scene) stands.proper;
  }

module _ {V D : Type 0} (places : Places V D) where
  -- what is elsewhere than each of some positions, and what is read there
  elsewhere : (positions : List ℕ) (id : ResourceId) → ((position : ℕ) → same_id id (places.queue_id position) ≡ false) → IsElsewhere places positions id
  elsewhere positions id apart k d below = apart (get_or positions k d)

  -- a queue that is put in stands there, and is empty
  pub put-queue : (w later : Slots V) (position : ℕ) (one : Queue D) (v : V) → waiting one ≡ [] → places.queue v ≡ Some one → later ≡ map.insert w (places.queue_id position) (Some v) → HasEmptyQueue places later position
  put-queue w later position one v empty reads put = record {
    queue = one;
    there = ap (λ found. option_and_then places.queue (option_flatten found)) (ap (λ m. map.get m (places.queue_id position)) put ∙ map.get-insert ids_total w (places.queue_id position) (Some v) (places.queue_id position)
        ∙ ap (λ b. cond b (Some (Some v)) (map.get w (places.queue_id position))) (same_id-itself (places.queue_id position))) ∙ reads;
    empty = empty;
  }

  -- and elsewhere is what was there
  pub put-else : (w later : Slots V) (position : ℕ) (v : V) → later ≡ map.insert w (places.queue_id position) (Some v) → StandsElse places (position ∷ []) w later
  put-else w later position v put id other =
      ap (λ m. map.get m id) put ∙ map.get-insert ids_total w (places.queue_id position) (Some v) id
      ∙ ap (λ b. cond b (Some (Some v)) (map.get w id)) (All-head (λ position. same_id id (places.queue_id position) ≡ false) position [] other)

  -- an empty queue stands still once another is put in
  pub kept-queue : (w later : Slots V) (position other : ℕ) → HasEmptyQueue places w position → HasEmptyQueue places later other → StandsElse places (other ∷ []) w later → HasEmptyQueue places later position
  kept-queue w later position other has put stands = by (same_id (places.queue_id position) (places.queue_id other)) refl
    where
      by : (b : Bool) → same_id (places.queue_id position) (places.queue_id other) ≡ b → HasEmptyQueue places later position
      by true same = record {
        queue = put.queue;
        there = ap (λ id. option_and_then places.queue (value_at later id)) (same_id-is (places.queue_id position) (places.queue_id other) same) ∙ put.there;
        empty = put.empty;
      }
      by false apart = record {
        queue = has.queue;
        there = ap (λ found. option_and_then places.queue (option_flatten found)) (stands (places.queue_id position) (All-cons (λ at. same_id (places.queue_id position) (places.queue_id at) ≡ false) other [] apart (All-nil _))) ∙ has.there;
        empty = has.empty;
      }

  -- the queues of positions, of which the one at a place is put in
  module _ (positions : List ℕ) (k : ℕ) (below : k < length positions) (w mid later : Slots V) where
    pub queues-more : All (HasEmptyQueue places mid) (take k positions) → HasEmptyQueue places later (get_or positions k 0) → StandsElse places (get_or positions k 0 ∷ []) mid later → All (HasEmptyQueue places later) (take (k + 1) positions)
    queues-more early put stands =
        subst (All (HasEmptyQueue places later)) (sym (take_more positions k 0 below))
        (All-push (HasEmptyQueue places later) (take k positions) (get_or positions k 0)
        (All-weaker (HasEmptyQueue places mid) (HasEmptyQueue places later) (λ position has. kept-queue mid later position (get_or positions k 0) has put stands) (take k positions) early) put)

    pub else-more : StandsElse places (take k positions) w mid → StandsElse places (get_or positions k 0 ∷ []) mid later → StandsElse places (take (k + 1) positions) w later
    else-more early stands id other =
        let both : IsElsewhere places (take k positions ++ get_or positions k 0 ∷ []) id = subst (λ list. IsElsewhere places list id) (take_more positions k 0 below) other in
        stands id (all_back (λ position. same_id id (places.queue_id position) ≡ false) (take k positions) (get_or positions k 0 ∷ []) both)
        ∙ early id (all_front (λ position. same_id id (places.queue_id position) ≡ false) (take k positions) (get_or positions k 0 ∷ []) both)

  -- what stands elsewhere than a front stands elsewhere than all
  pub else-all : (positions : List ℕ) (k : ℕ) (w later : Slots V) → StandsElse places (take k positions) w later → StandsElse places positions w later
  else-all positions k w later stands id other =
      stands id (all_front (λ position. same_id id (places.queue_id position) ≡ false) (take k positions) (drop k positions) (subst (λ list. IsElsewhere places list id) (sym (take-append-drop k positions)) other))

  module _ (part_of : D → Part) (columns : Columns V) (apart : StandApart (kinds_of places part_of columns)) where
    -- the places of a scene are elsewhere than queues
    place-elsewhere : (positions : List ℕ) (place : Place) → is_known (kinds_of places part_of columns) place ≡ true → ((position : ℕ) → same_place place (queue position) ≡ false) → IsElsewhere places positions (id_of_place (kinds_of places part_of columns) place)
    place-elsewhere positions place known other = elsewhere positions (id_of_place (kinds_of places part_of columns) place) (λ position. apart place (queue position) known refl ∙ other position)

    -- so they show the same where queues were put in
    pub shows-same : (positions : List ℕ) (w later : Slots V) → StandsElse places positions w later → ShowsSame (kinds_of places part_of columns) (seen_in (holding_of w)) (seen_in (holding_of later))
    shows-same positions w later stands = record {
      entities = seen entities refl (λ position. refl);
      markers = seen markers refl (λ position. refl);
      allocator = seen allocator refl (λ position. refl);
      parts = λ kind known. seen (parts kind) known (λ position. refl);
      globals = λ name known. seen (value name) known (λ position. refl);
    }
      where
        seen : (place : Place) → is_known (kinds_of places part_of columns) place ≡ true → ((position : ℕ) → same_place place (queue position) ≡ false)
            → seen_in (holding_of later) (id_of_place (kinds_of places part_of columns) place) ≡ seen_in (holding_of w) (id_of_place (kinds_of places part_of columns) place)
        seen place known other = ap (λ slot. readable (slot_of slot)) (stands (id_of_place (kinds_of places part_of columns) place) (place-elsewhere positions place known other))

    -- the scene that is seen is the same, where queues were put in
    pub opened-scene : (positions : List ℕ) (w later : Slots V) → StandsElse places positions w later → plain_of (kinds_of places part_of columns) (seen_in (holding_of later)) ≡ plain_of (kinds_of places part_of columns) (seen_in (holding_of w))
    opened-scene positions w later stands = same-scene (kinds_of places part_of columns) (seen_in (holding_of w)) (seen_in (holding_of later)) (shows-same positions w later stands)

    -- and a scene stands still
    pub opened-stands : (book : Book) (positions : List ℕ) (w later : Slots V) → StandsElse places positions w later → IsSceneWorld (kinds_of places part_of columns) book (seen_in (holding_of w)) → IsSceneWorld (kinds_of places part_of columns) book (seen_in (holding_of later))
    opened-stands book positions w later stands is = same-stands (kinds_of places part_of columns) (seen_in (holding_of w)) (seen_in (holding_of later)) (shows-same positions w later stands) book is

    -- no commands wait in a queue that is empty
    pub empty-commands : (w : Slots V) (position : ℕ) → HasEmptyQueue places w position → commands_of (kinds_of places part_of columns) (seen_in (holding_of w)) position ≡ []
    empty-commands w position has = by (map.get w (places.queue_id position)) has.there
      where
        by : (slot : Option (Option V)) → option_and_then places.queue (option_flatten slot) ≡ Some has.queue → option_map_or (kinds_of places part_of columns).queued (readable (slot_of slot)) [] ≡ []
        by None is = refl
        by (Some None) is = refl
        by (Some (Some v)) is = ap (λ found. option_map_or (λ one. plain_commands part_of (waiting one)) found []) is ∙ ap (plain_commands part_of) has.empty
