-- An entity that begins to live in a world, under an id of its own.
use Rattle.std.proofs.Common.{◌≡◌, ◌<◌, ◌≤◌, ◌+◌, ℕ, Bool, true, false, cond, eqb, max, length, [], ◌∷◌, Option, Some, None, refl, ap, sym, ◌∙◌, subst, arith, All}
use Rattle.std.specs.Prelude.{IsSome, option_and_then}
use Rattle.std.specs.Option.{option_map_or, unwrap_or}
use Rattle.std.specs.FinMap as map
use Rattle.std.specs.Cmp.{nat_cmp_total}
use Rattle.std.proofs.lemmas.Bool.{false≢true}
use Rattle.std.proofs.lemmas.List.Elements.{All-cons, All-weaker}
use Rattle.shred_world.specs.Worlds.{Slots}
use Rattle.specs_entity.specs.Births.{count, living, none_born}
use Rattle.specs_entity.specs.Life.{Life, LifeAt}
use Rattle.specs_markers.specs.Simple.{Noting, allocated, noted_under, none_noted}
use Rattle.scene_model.specs.Ids.{ascending}
use Rattle.scene_model.specs.Parts.{Name, is_among}
use Rattle.scene_model.specs.Scenes.{lives}
use Rattle.scene_model.proofs.CallerLemmas.{is_eq-nat_cmp, same_scene}
use Rattle.scene_world.specs.Stored.{Stored}
use Rattle.scene_world.specs.Rolls.{Roll, ids_in, part_in}
use Rattle.scene_world.specs.Standing.{Sight, Kinds, roll_of, column_of, column_in, value_of}
use Rattle.scene_world.specs.Lent.{StandApart, entities, markers, allocator, parts, value, queue}
use Rattle.scene_world.specs.Changes.{but_at, IsAnother, IsUnnamed}
use Rattle.scene_world.proofs.CallerLemmas.{living-lives, ids-ascend}
use Rattle.scene_commands.specs.Acts.{seen_of, WasBorn, MayAct}
use Rattle.scene_commands.specs.Newborns.{ComesToLife, Marks}
use Rattle.scene_commands.proofs.ActLemmas.{life-counted}
use Rattle.scene_commands.proofs.SpawnLemmas.{born-another}
use Rattle.scene_commands.specs.Entries.{with_entities}
use Rattle.scene_commands.specs.Becoming.{Becomes}
use Rattle.scene_commands.specs.Notes.{NotesUnder}
use Rattle.scene_commands.specs.Bounds.{Grows}
use Rattle.scene_commands.proofs.BoundLemmas.{grows-as, longer-with}
use Rattle.scene_commands.proofs.RollLemmas.{apart-turned, all-ascending, roll-entered, ids-entered, part-stays}

-- what is noted where an id was asked for
noted-there : (noting : Noting) (entity : LifeAt) (id other : ℕ) → noted_under (allocated noting entity (Some id)) other ≡ but_at id (Some entity) (noted_under noting) other
noted-there noting entity id other =
    map.get-insert nat_cmp_total noting.noted id entity other ∙ ap (λ b. cond b (Some entity) (noted_under noting other)) (is_eq-nat_cmp other id ∙ turned (eqb id other) refl)
  where
    turned : (b : Bool) → eqb id other ≡ b → eqb id other ≡ eqb other id
    turned true same = grind arith
    turned false differ = differ ∙ sym (apart-turned id other differ)

module _ {V : Type 0} (kinds : Kinds V) (apart : StandApart kinds) (w : Slots V) (alive noted : Sight V) (later : Slots V) (entity : LifeAt) (id : ℕ)
    (may : MayAct kinds w) (absent : lives id (ids_in (roll_of kinds (seen_of w))) ≡ false)
    (comes : ComesToLife kinds entity (seen_of w) alive) (notes : NotesUnder kinds entity id alive noted) (marks : Marks kinds entity.id id noted (seen_of later)) where
  abbrev old : Roll
  old = roll_of kinds (seen_of w)

  abbrev new : Roll
  new = roll_of kinds (seen_of later)

  -- what each step leaves as it was
  entities-last : seen_of later kinds.entities_id ≡ alive kinds.entities_id
  entities-last = marks.others kinds.entities_id (apart entities markers refl refl) ∙ notes.others kinds.entities_id (apart entities allocator refl refl)

  markers-first : noted kinds.markers_id ≡ seen_of w kinds.markers_id
  markers-first = notes.others kinds.markers_id (apart markers allocator refl refl) ∙ comes.others kinds.markers_id (apart markers entities refl refl)

  allocator-last : seen_of later kinds.allocator_id ≡ noted kinds.allocator_id
  allocator-last = marks.others kinds.allocator_id (apart allocator markers refl refl)

  births-last : new.births ≡ (roll_of kinds alive).births
  births-last = ap (λ held. unwrap_or (option_and_then kinds.births held) (none_born 0 0)) entities-last

  noting-last : new.noting ≡ allocated old.noting entity (Some id)
  noting-last =
      ap (λ held. unwrap_or (option_and_then kinds.noting held) none_noted) allocator-last ∙ notes.noting
      ∙ ap (λ held. allocated (unwrap_or (option_and_then kinds.noting held) none_noted) entity (Some id)) (comes.others kinds.allocator_id (apart allocator entities refl refl))

  column-stays : (kind : Name) → is_among kind kinds.part_names ≡ true → (index : ℕ) → column_of kinds (seen_of later) kind index ≡ column_of kinds (seen_of w) kind index
  column-stays kind known index = ap (λ held. column_in kinds kind held index)
      (marks.others (kinds.part_id kind) (apart (parts kind) markers known refl) ∙ notes.others (kinds.part_id kind) (apart (parts kind) allocator known refl)
      ∙ comes.others (kinds.part_id kind) (apart (parts kind) entities known refl))

  value-stays : (name : Name) → is_among name kinds.global_names ≡ true → value_of kinds (seen_of later) name ≡ value_of kinds (seen_of w) name
  value-stays name known =
      ap (λ held. option_and_then (kinds.value name) held)
      (marks.others (kinds.global_id name) (apart (value name) markers known refl) ∙ notes.others (kinds.global_id name) (apart (value name) allocator known refl)
      ∙ comes.others (kinds.global_id name) (apart (value name) entities known refl))

  lives-now : entity.generation.lives ≡ true
  lives-now = living-lives (roll_of kinds alive).births entity.id entity.generation comes.alive

  -- nobody lived there before, who would live on
  free : living old.births entity.id ≡ None
  free = by (living old.births entity.id) refl
    where
      by : (o : Option Life) → living old.births entity.id ≡ o → o ≡ None
      by None e = refl
      by (Some life) e =
          let both : Some life ≡ Some entity.generation = sym (comes.live_on (record { id = entity.id; generation = life }) e) ∙ comes.alive in
          let same : life ≡ entity.generation = cc in
          absurd (comes.unborn (lives-now, comes.counts, life-counted old.births entity.id entity.generation (e ∙ ap Some same)))

  lives-last : (at : ℕ) → living new.births at ≡ but_at entity.id (Some entity.generation) (living old.births) at
  lives-last at = ap (λ b. living b at) births-last ∙ comes.lives at

  marker-last : (at : ℕ) → new.marker at ≡ but_at entity.id (Some id) old.marker at
  marker-last at = marks.marker at ∙ ap (λ held. cond (eqb at entity.id) (Some id) (option_and_then (λ v. kinds.marker v at) held)) markers-first

  notes-last : (other : ℕ) → noted_under new.noting other ≡ but_at id (Some entity) (noted_under old.noting) other
  notes-last other = ap (λ n. noted_under n other) noting-last ∙ noted-there old.noting entity id other

  ids-last : ids_in new ≡ ascending (id ∷ ids_in old)
  ids-last = ids-entered old new may.roll id absent entity free lives-last marker-last notes-last

  -- the ids are below the next one
  below-last : All (λ one. one < new.noting.next) (ids_in new)
  below-last = subst (λ noting. All (λ one. one < noting.next) (ids_in new)) (sym noting-last) (subst (All (λ one. one < max old.noting.next (id + 1))) (sym ids-last)
      (all-ascending (λ one. one < max old.noting.next (id + 1)) (id ∷ ids_in old) (All-cons (λ one. one < max old.noting.next (id + 1)) id (ids_in old) (omega arith)
      (All-weaker (λ one. one < old.noting.next) (λ one. one < max old.noting.next (id + 1)) (λ one lower. omega (arith, lower)) (ids_in old) may.below))))

  -- more live than before
  more-live : length (ids_in old) + 1 ≤ length (ids_in new)
  more-live = subst (λ ids. length (ids_in old) + 1 ≤ length ids) (sym ids-last) (longer-with (ids_in old) id (ids-ascend old) absent)

  -- no part stands at its index, and none names it
  none-there : (kind : Name) → is_among kind kinds.part_names ≡ true → column_of kinds (seen_of w) kind entity.id ≡ None
  none-there kind known = by (column_of kinds (seen_of w) kind entity.id) refl
    where
      by : (o : Option Stored) → column_of kinds (seen_of w) kind entity.id ≡ o → o ≡ None
      by None e = refl
      by (Some one) e = absurd (false≢true (subst (λ o. IsSome o) free (may.within kind known entity.id (subst (λ o. IsSome o) (sym e) refl))))

  unnamed : (kind : Name) → is_among kind kinds.part_names ≡ true → IsUnnamed entity (column_of kinds (seen_of w) kind)
  unnamed kind known index one e = All-weaker (WasBorn old.births) (IsAnother entity) (λ named was. born-another old.births entity named comes.counts lives-now comes.unborn was) one.named (may.born kind known index one e)

  -- the world has one entity more
  pub enters : Becomes kinds (with_entities (id ∷ [])) w later
  enters = record {
    may = record {
      entities = subst (λ held. IsSome (option_and_then kinds.births held)) (sym entities-last) comes.there;
      markers = marks.there;
      allocator = subst (λ held. IsSome (option_and_then kinds.noting held)) (sym allocator-last) notes.there;
      roll = roll-entered old new may.roll id absent entity free lives-last marker-last notes-last;
      below = below-last;
      within = λ kind known index some. subst (λ l. IsSome l) (sym (lives-last index)) (there kind known index (eqb index entity.id) (subst (λ o. IsSome o) (column-stays kind known index) some));
      born = λ kind known index one e. All-weaker (WasBorn old.births) (WasBorn new.births) (λ named was. omega (arith, was, more named.id)) one.named (may.born kind known index one (sym (column-stays kind known index) ∙ e));
    };
    scene = same_scene _ _ (ap (λ n. n.next) noting-last) ids-last (λ other kind. part other kind (is_among kind kinds.part_names) refl) (λ name. global name (is_among name kinds.global_names) refl);
    queues = λ position. ap (λ held. option_map_or kinds.queued held [])
        (marks.others (kinds.queue_id position) (apart (queue position) markers refl refl) ∙ notes.others (kinds.queue_id position) (apart (queue position) allocator refl refl)
        ∙ comes.others (kinds.queue_id position) (apart (queue position) entities refl refl));
    grows = subst (λ b. Grows old.births b (length (ids_in old)) (length (ids_in new))) (sym births-last)
        (grows-as old.births (roll_of kinds alive).births 0 1 (length (ids_in old)) (length (ids_in new)) (omega (arith, more-live)) comes.grows);
  }
    where
      there : (kind : Name) → is_among kind kinds.part_names ≡ true → (index : ℕ) (b : Bool) → IsSome (column_of kinds (seen_of w) kind index) → IsSome (cond b (Some entity.generation) (living old.births index))
      there kind known index true some = refl
      there kind known index false some = may.within kind known index some

      more : (at : ℕ) → count old.births at ≤ count new.births at
      more at = subst (λ b. count old.births at ≤ count b at) (sym births-last) (comes.births at)

      part : (other : ℕ) (kind : Name) (b : Bool) → is_among kind kinds.part_names ≡ b
          → cond b (part_in new (column_of kinds (seen_of later) kind) other) None ≡ cond b (part_in old (column_of kinds (seen_of w) kind) other) None
      part other kind true known = part-stays old new may.roll id absent entity free lives-last marker-last notes-last
          (column_of kinds (seen_of w) kind) (column_of kinds (seen_of later) kind) (column-stays kind known) (none-there kind known) (unnamed kind known) other
      part other kind false unknown = refl

      global : (name : Name) (b : Bool) → is_among name kinds.global_names ≡ b → cond b (value_of kinds (seen_of later) name) None ≡ cond b (value_of kinds (seen_of w) name) None
      global name true known = value-stays name known
      global name false unknown = refl
