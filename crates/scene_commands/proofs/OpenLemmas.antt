-- Worlds in which nobody lives yet are ones in which commands may be carried out.
use Rattle.std.proofs.Common.{◌≡◌, ◌<◌, ℕ, Bool, true, false, cond, List, [], ◌∷◌, filter, Option, Some, None, is_some, refl, ap, sym, ◌∙◌, subst}
use Rattle.std.specs.Prelude.{option_map, IsSome, All, option_and_then}
use Rattle.std.specs.Option.{option_flatten, option_map_or, unwrap_or}
use Rattle.std.specs.FinMap as slots
use Rattle.std.specs.FinSet as set
use Rattle.std.specs.Ordering.{nat_cmp}
use Rattle.std.proofs.Math.Path.{fun_ext}
use Rattle.std.proofs.lemmas.Bool.{false≢true}
use Rattle.std.proofs.lemmas.Option.{none-some}
use Rattle.std.proofs.lemmas.List.Elements.{All-nil}
use Rattle.shred_world.specs.declared.resource_id.ResourceId.{ResourceId}
use Rattle.shred_world.specs.ResourceIds.{same_id}
use Rattle.shred_world.specs.Worlds.{Slots, value_at}
use Rattle.shred_world.proofs.CallerLemmas.{ids_total, get-insert_here}
use Rattle.specs_entity.specs.Births.{living, living_of, persistent_at, none_born}
use Rattle.specs_markers.specs.Simple.{noted_under, none_noted}
use Rattle.scene_model.specs.Ids.{ascending}
use Rattle.scene_model.specs.Parts.{Json, Name, Part, is_among}
use Rattle.scene_model.specs.Scenes.{PlainScene}
use Rattle.scene_world.specs.Stored.{part_under}
use Rattle.scene_world.specs.Rolls.{IsRoll, part_in, ref_to, index_of, index_if, ids_in}
use Rattle.scene_world.specs.Standing.{Sight, Kinds, roll_of, column_of, value_of, plain_of}
use Rattle.scene_world.specs.Lent.{entities, markers, allocator, parts, value, queue, StandApart}
use Rattle.scene_world.specs.Places.{Places, Columns, kinds_of}
use Rattle.scene_world.specs.Putting.{Registers}
use Rattle.scene_commands.specs.Acts.{seen_of, MayAct}
use Rattle.scene_commands.proofs.LookLemmas.{seen-value}
use Rattle.scene_commands.specs.Openings.{without_entities}
use Rattle.scene_commands.specs.Becoming.{IsQuiet}

-- a list of which none is kept
none-kept : {A : Type 0} (keeps : A → Bool) (xs : List A) → ((x : A) → keeps x ≡ false) → filter keeps xs ≡ []
none-kept keeps [] none = refl
none-kept keeps (x ∷ xs) none = ap (λ b. cond b (x ∷ filter keeps xs) (filter keeps xs)) (none x) ∙ none-kept keeps xs none

-- what is put in at one id leaves what stands at another
kept : {V : Type 0} (w : Slots V) (id other : ResourceId) (v : V) → same_id other id ≡ false → slots.get (slots.insert w id (Some v)) other ≡ slots.get w other
kept w id other v apart = slots.get-insert ids_total w id (Some v) other ∙ ap (λ b. cond b (Some (Some v)) (slots.get w other)) apart

-- values of which one has no births, one no markers, and one no notes
module _ {V : Type 0} (kinds : Kinds V) (w : Sight V) (born marked noting : V)
    (at_entities : w kinds.entities_id ≡ Some born) (at_markers : w kinds.markers_id ≡ Some marked) (at_allocator : w kinds.allocator_id ≡ Some noting)
    (indices generations next : ℕ) (births : kinds.births born ≡ Some (none_born indices generations))
    (unmarked : (index : ℕ) → kinds.marker marked index ≡ None) (notes : kinds.noting noting ≡ Some (record { next = next; noted = slots.empty })) where
  -- nobody lives
  pub nobody : (index : ℕ) → living (roll_of kinds w).births index ≡ None
  nobody index =
      ap (λ held. living (unwrap_or (option_and_then kinds.births held) (none_born 0 0)) index) at_entities
      ∙ ap (λ o. living (unwrap_or o (none_born 0 0)) index) births
      ∙ ap (λ b. living_of b (persistent_at (none_born indices generations) index)) (set.contains-empty nat_cmp index)

  -- no index is marked
  pub no-marker : (index : ℕ) → (roll_of kinds w).marker index ≡ None
  no-marker index = ap (λ held. option_and_then (λ v. kinds.marker v index) held) at_markers ∙ unmarked index

  -- nothing is noted
  pub no-note : (id : ℕ) → noted_under (roll_of kinds w).noting id ≡ None
  no-note id =
      ap (λ held. noted_under (unwrap_or (option_and_then kinds.noting held) none_noted) id) at_allocator
      ∙ ap (λ o. noted_under (unwrap_or o none_noted) id) notes
      ∙ slots.get-empty nat_cmp id

  -- that is a roll
  pub open-roll : IsRoll (roll_of kinds w)
  open-roll = record {
    marked = λ index life lives. absurd (none-some life (sym (nobody index) ∙ lives));
    unmarked = λ index none. no-marker index;
  }

  -- in which there is no id
  pub no-ids : ids_in (roll_of kinds w) ≡ []
  no-ids = ap ascending (none-kept (λ id. is_some (index_of (roll_of kinds w) id)) (slots.keys (roll_of kinds w).noting.noted) (λ id. ap (λ o. is_some (option_and_then (index_if (roll_of kinds w) id) o)) (no-note id)))

module _ {V D : Type 0} (places : Places V D) (part_of : D → Part) (columns : Columns V) (apart : StandApart (kinds_of places part_of columns)) (w later : Slots V) (born marked noting : V) where
  abbrev seated : Slots V
  seated = slots.insert (slots.insert (slots.insert w places.entities_id (Some born)) places.markers_id (Some marked)) places.allocator_id (Some noting)

  -- so it is of worlds into which one after the other was put
  pub seated-is : (one two three : Slots V) (first second third : ResourceId) → first ≡ places.entities_id → second ≡ places.markers_id → third ≡ places.allocator_id
      → one ≡ slots.insert w first (Some born) → two ≡ slots.insert one second (Some marked) → three ≡ slots.insert two third (Some noting) → three ≡ seated
  seated-is one two three first second third is_first is_second is_third into_one into_two into_three =
      into_three ∙ ap (λ id. slots.insert two id (Some noting)) is_third
      ∙ ap (λ m. slots.insert m places.allocator_id (Some noting)) (into_two ∙ ap (λ id. slots.insert one id (Some marked)) is_second
      ∙ ap (λ m. slots.insert m places.markers_id (Some marked)) (into_one ∙ ap (λ id. slots.insert w id (Some born)) is_first))

  -- what stands at an id that is none of a kind's is there after storages were registered
  passes : Registers columns seated later → (id : ResourceId) → ((kind : Name) → is_among kind columns.part_names ≡ true → same_id id (columns.part_id kind) ≡ false) → seen_of later id ≡ value_at seated id
  passes registers id away = seen-value later id ∙ ap option_flatten (registers.others id away)

  -- no part is stored
  no-part : Registers columns seated later → (kind : Name) → is_among kind columns.part_names ≡ true → (index : ℕ) → column_of (kinds_of places part_of columns) (seen_of later) kind index ≡ None
  no-part registers kind known index =
      ap (λ held. option_and_then (λ v. columns.stored kind v index) held) (seen-value later (columns.part_id kind)) ∙ by (value_at later (columns.part_id kind)) refl
    where
      by : (o : Option V) → value_at later (columns.part_id kind) ≡ o → option_and_then (λ v. columns.stored kind v index) o ≡ None
      by None e = refl
      by (Some v) e = registers.empty kind v known e index

  at-entities : Registers columns seated later → seen_of later places.entities_id ≡ Some born
  at-entities registers =
      passes registers places.entities_id (λ kind known. apart entities (parts kind) refl known)
      ∙ ap option_flatten (kept _ places.allocator_id places.entities_id noting (apart entities allocator refl refl)
      ∙ kept _ places.markers_id places.entities_id marked (apart entities markers refl refl)
      ∙ get-insert_here w places.entities_id (Some born))

  at-markers : Registers columns seated later → seen_of later places.markers_id ≡ Some marked
  at-markers registers =
      passes registers places.markers_id (λ kind known. apart markers (parts kind) refl known)
      ∙ ap option_flatten (kept _ places.allocator_id places.markers_id noting (apart markers allocator refl refl)
      ∙ get-insert_here _ places.markers_id (Some marked))

  at-allocator : Registers columns seated later → seen_of later places.allocator_id ≡ Some noting
  at-allocator registers =
      passes registers places.allocator_id (λ kind known. apart allocator (parts kind) refl known)
      ∙ ap option_flatten (get-insert_here _ places.allocator_id (Some noting))

  -- commands may be carried out in such a world
  pub open-may : Registers columns seated later → (indices generations next : ℕ) → places.births born ≡ Some (none_born indices generations)
      → ((index : ℕ) → places.marker marked index ≡ None) → places.noting noting ≡ Some (record { next = next; noted = slots.empty }) → MayAct (kinds_of places part_of columns) later
  open-may registers indices generations next births unmarked notes = record {
    entities = subst (λ held. IsSome (option_and_then places.births held)) (sym (at-entities registers)) (ap is_some births);
    markers = ap is_some (at-markers registers);
    allocator = subst (λ held. IsSome (option_and_then places.noting held)) (sym (at-allocator registers)) (ap is_some notes);
    roll = open-roll (kinds_of places part_of columns) (seen_of later) born marked noting (at-entities registers) (at-markers registers) (at-allocator registers) indices generations next births unmarked notes;
    below = subst (λ ids. All (λ id. id < (roll_of (kinds_of places part_of columns) (seen_of later)).noting.next) ids)
        (sym (no-ids (kinds_of places part_of columns) (seen_of later) born marked noting (at-entities registers) (at-markers registers) (at-allocator registers) indices generations next births unmarked notes))
        (All-nil (λ id. id < (roll_of (kinds_of places part_of columns) (seen_of later)).noting.next));
    within = λ kind known index some. absurd (false≢true (sym (ap is_some (no-part registers kind known index)) ∙ some));
    born = λ kind known index stored e. absurd (none-some stored (sym (no-part registers kind known index) ∙ e));
  }

  -- nobody was born in it
  pub open-births : Registers columns seated later → (indices generations : ℕ) → places.births born ≡ Some (none_born indices generations)
      → (roll_of (kinds_of places part_of columns) (seen_of later)).births ≡ none_born indices generations
  open-births registers indices generations births =
      ap (λ held. unwrap_or (option_and_then places.births held) (none_born 0 0)) (at-entities registers) ∙ ap (λ o. unwrap_or o (none_born 0 0)) births

  -- no global has a value, where nothing stood before
  no-value : Registers columns seated later → ((id : ResourceId) → value_at w id ≡ None) → (name : Name) → is_among name columns.global_names ≡ true → seen_of later (columns.global_id name) ≡ None
  no-value registers bare name known =
      passes registers (columns.global_id name) (λ kind is. apart (value name) (parts kind) known is)
      ∙ ap option_flatten (kept _ places.allocator_id (columns.global_id name) noting (apart (value name) allocator known refl)
      ∙ kept _ places.markers_id (columns.global_id name) marked (apart (value name) markers known refl)
      ∙ kept w places.entities_id (columns.global_id name) born (apart (value name) entities known refl))
      ∙ bare (columns.global_id name)

  -- no queue has commands
  pub open-quiet : Registers columns seated later → ((id : ResourceId) → value_at w id ≡ None) → IsQuiet (kinds_of places part_of columns) later
  open-quiet registers bare position =
      ap (λ held. option_map_or (kinds_of places part_of columns).queued held [])
      (passes registers (places.queue_id position) (λ kind known. apart (queue position) (parts kind) refl known)
      ∙ ap option_flatten (kept _ places.allocator_id (places.queue_id position) noting (apart (queue position) allocator refl refl)
      ∙ kept _ places.markers_id (places.queue_id position) marked (apart (queue position) markers refl refl)
      ∙ kept w places.entities_id (places.queue_id position) born (apart (queue position) entities refl refl))
      ∙ bare (places.queue_id position))

  -- the scene that stands in such a world is the one in which nobody lives
  pub open-scene : Registers columns seated later → ((id : ResourceId) → value_at w id ≡ None) → (indices generations next : ℕ) → places.births born ≡ Some (none_born indices generations)
      → ((index : ℕ) → places.marker marked index ≡ None) → places.noting noting ≡ Some (record { next = next; noted = slots.empty })
      → plain_of (kinds_of places part_of columns) (seen_of later) ≡ without_entities next
  open-scene registers bare indices generations next births unmarked notes =
      ap (λ n. scene n (ids_in (roll_of (kinds_of places part_of columns) (seen_of later))) (plain_of (kinds_of places part_of columns) (seen_of later)).part (plain_of (kinds_of places part_of columns) (seen_of later)).global) next-is
      ∙ ap (λ ids. scene next ids (plain_of (kinds_of places part_of columns) (seen_of later)).part (plain_of (kinds_of places part_of columns) (seen_of later)).global) ids-are
      ∙ ap (λ parts_of. scene next [] parts_of (plain_of (kinds_of places part_of columns) (seen_of later)).global) (fun_ext (λ id. fun_ext (λ kind. no-part-of id kind (is_among kind columns.part_names))))
      ∙ ap (λ values. scene next [] (λ id kind. None) values) (fun_ext (λ name. no-global name (is_among name columns.global_names) refl))
    where
      scene : ℕ → List ℕ → (ℕ → Name → Option Part) → (Name → Option Json) → PlainScene
      scene n ids parts_of values = record { next = n; ids = ids; part = parts_of; global = values }

      next-is : (roll_of (kinds_of places part_of columns) (seen_of later)).noting.next ≡ next
      next-is = ap (λ held. (unwrap_or (option_and_then places.noting held) none_noted).next) (at-allocator registers) ∙ ap (λ o. (unwrap_or o none_noted).next) notes

      ids-are : ids_in (roll_of (kinds_of places part_of columns) (seen_of later)) ≡ []
      ids-are = no-ids (kinds_of places part_of columns) (seen_of later) born marked noting (at-entities registers) (at-markers registers) (at-allocator registers) indices generations next births unmarked notes

      no-part-of : (id : ℕ) (kind : Name) (b : Bool) → cond b (part_in (roll_of (kinds_of places part_of columns) (seen_of later)) (column_of (kinds_of places part_of columns) (seen_of later) kind) id) None ≡ None
      no-part-of id kind true =
          ap (λ o. option_and_then (λ index. option_map (part_under (ref_to (roll_of (kinds_of places part_of columns) (seen_of later)))) (column_of (kinds_of places part_of columns) (seen_of later) kind index)) (option_and_then (index_if (roll_of (kinds_of places part_of columns) (seen_of later)) id) o))
          (no-note (kinds_of places part_of columns) (seen_of later) born marked noting (at-entities registers) (at-markers registers) (at-allocator registers) indices generations next births unmarked notes id)
      no-part-of id kind false = refl

      no-global : (name : Name) (b : Bool) → is_among name columns.global_names ≡ b → cond b (value_of (kinds_of places part_of columns) (seen_of later) name) None ≡ None
      no-global name true known = ap (option_and_then (columns.value name)) (no-value registers bare name known)
      no-global name false unknown = refl
