-- A birth with its parts is a spawn.
use Rattle.std.proofs.Common.{◌≡◌, ◌<◌, ◌≤◌, ◌+◌, ℕ, Bool, true, false, cond, eqb, ◌&&◌, max, List, [], ◌∷◌, ◌++◌, map, Option, Some, None, refl, ap, sym, ◌∙◌, subst, arith, All}
use Rattle.std.specs.Prelude.{IsSome, option_and_then, option_map}
use Rattle.std.specs.Option.{unwrap_or}
use Rattle.std.specs.List.{list_all}
use Rattle.std.specs.Str.{bytes_eq}
use Rattle.std.proofs.lemmas.Bool.{true≢false, false≢true, eqb-true, and_parts}
use Rattle.std.proofs.lemmas.List.Elements.{All-nil, All-cons, All-weaker, All-append, All-head, All-tail}
use Rattle.std.proofs.lemmas.Slice.Eq.{bytes_eq-Decides}
use Rattle.shred_world.specs.Worlds.{Slots}
use Rattle.specs_entity.specs.Births.{Births, count, living, none_born, IsBorn}
use Rattle.specs_entity.specs.Life.{Life, LifeAt}
use Rattle.specs_markers.specs.Simple.{noted_under, allocated, none_noted}
use Rattle.scene_model.specs.Parts.{Name, Part, is_among, under}
use Rattle.scene_model.specs.Rulebook.{spawn}
use Rattle.scene_model.specs.Scenes.{PlainScene, lives}
use Rattle.scene_model.specs.Commands.{changed, skipped, ids_spent, ref_lives, refs_live, last_next}
use Rattle.scene_model.specs.Laws.{refs_to}
use Rattle.scene_world.specs.Stored.{Stored, part_under}
use Rattle.scene_world.specs.Rolls.{Roll, is_life, ids_in, ref_to}
use Rattle.scene_world.specs.Standing.{Sight, Kinds, roll_of, column_of, column_in, owning_in, plain_of}
use Rattle.scene_world.specs.Lent.{StandApart, entities, markers, allocator, parts, value}
use Rattle.scene_world.specs.Changes.{IsAnother, Bears}
use Rattle.scene_world.proofs.CallerLemmas.{living-lives, lives-below, next-noted, next-after, born-roll, born-within, born-scene}
use Rattle.scene_commands.specs.Acts.{seen_of, entity_under, AreUnder, WasBorn, MayAct, Acts}
use Rattle.scene_commands.specs.Newborns.{IsGiven, ComesToLife, Settles}
use Rattle.scene_commands.proofs.LookLemmas.{same-noted, stored-part, lives-under}
use Rattle.scene_commands.proofs.ActLemmas.{life-counted, all-born}

-- an entity that was born is another than one that wasn't
pub born-another : (births : Births) (entity named : LifeAt) → 0 < entity.generation.number → entity.generation.lives ≡ true → ¬ (IsBorn births entity) → WasBorn births named → IsAnother entity named
born-another births entity named counts alive unborn born = by (eqb named.id entity.id) refl
  where
    tested : (b : Bool) → eqb entity.generation.number named.generation.number ≡ b → named.id ≡ entity.id → (named.generation.lives && b) ≡ false
    tested true same at =
        let number : entity.generation.number ≡ named.generation.number = eqb-true entity.generation.number named.generation.number same in
        let had : named.generation.number ≤ count births entity.id = subst (λ i. named.generation.number ≤ count births i) at born in
        absurd (unborn (alive, counts, omega (arith, number, had)))
    tested false differ at = none named.generation.lives
      where
        none : (b : Bool) → (b && false) ≡ false
        none true = refl
        none false = refl

    by : (b : Bool) → eqb named.id entity.id ≡ b → cond b (is_life named.generation (Some entity.generation)) false ≡ false
    by true at = tested (eqb entity.generation.number named.generation.number) refl (eqb-true named.id entity.id at)
    by false at = refl

module _ {V : Type 0} (kinds : Kinds V) (apart : StandApart kinds) (w : Slots V) (alive : Sight V) (later : Slots V) (entity : LifeAt) (given : List (Name × Part))
    (comes : ComesToLife kinds entity (seen_of w) alive) (settles : Settles kinds entity given alive (seen_of later)) (may : MayAct kinds w) where
  abbrev old : Roll
  old = roll_of kinds (seen_of w)

  abbrev noted : Sight V
  noted = settles.noted

  abbrev marked : Sight V
  marked = settles.marked

  -- what each step leaves as it was
  entities-last : seen_of later kinds.entities_id ≡ alive kinds.entities_id
  entities-last =
      settles.gives.others kinds.entities_id (λ kind known. apart entities (parts kind) refl known) ∙ settles.marks.others kinds.entities_id (apart entities markers refl refl)
      ∙ settles.gets.others kinds.entities_id (apart entities allocator refl refl)

  markers-last : seen_of later kinds.markers_id ≡ marked kinds.markers_id
  markers-last = settles.gives.others kinds.markers_id (λ kind known. apart markers (parts kind) refl known)

  markers-first : noted kinds.markers_id ≡ seen_of w kinds.markers_id
  markers-first = settles.gets.others kinds.markers_id (apart markers allocator refl refl) ∙ comes.others kinds.markers_id (apart markers entities refl refl)

  allocator-last : seen_of later kinds.allocator_id ≡ noted kinds.allocator_id
  allocator-last =
      settles.gives.others kinds.allocator_id (λ kind known. apart allocator (parts kind) refl known) ∙ settles.marks.others kinds.allocator_id (apart allocator markers refl refl)

  allocator-first : alive kinds.allocator_id ≡ seen_of w kinds.allocator_id
  allocator-first = comes.others kinds.allocator_id (apart allocator entities refl refl)

  births-last : (roll_of kinds (seen_of later)).births ≡ (roll_of kinds alive).births
  births-last = ap (λ held. unwrap_or (option_and_then kinds.births held) (none_born 0 0)) entities-last

  noting-first : (roll_of kinds alive).noting ≡ old.noting
  noting-first = ap (λ held. unwrap_or (option_and_then kinds.noting held) none_noted) allocator-first

  noting-last : (roll_of kinds (seen_of later)).noting ≡ allocated old.noting entity None
  noting-last = ap (λ held. unwrap_or (option_and_then kinds.noting held) none_noted) allocator-last ∙ settles.gets.noting ∙ ap (λ n. allocated n entity None) noting-first

  id-is : settles.id ≡ old.noting.next
  id-is = settles.gets.id ∙ ap (λ n. n.next) noting-first

  column-first : (kind : Name) → is_among kind kinds.part_names ≡ true → (at : ℕ) → column_of kinds marked kind at ≡ column_of kinds (seen_of w) kind at
  column-first kind known at = ap (λ held. column_in kinds kind held at)
      (settles.marks.others (kinds.part_id kind) (apart (parts kind) markers known refl) ∙ settles.gets.others (kinds.part_id kind) (apart (parts kind) allocator known refl)
      ∙ comes.others (kinds.part_id kind) (apart (parts kind) entities known refl))

  lives-now : entity.generation.lives ≡ true
  lives-now = living-lives (roll_of kinds alive).births entity.id entity.generation comes.alive

  -- nobody lived there before, who would live on
  free : living old.births entity.id ≡ None
  free = by (living old.births entity.id) refl
    where
      by : (o : Option Life) → living old.births entity.id ≡ o → o ≡ None
      by None e = refl
      by (Some life) e =
          let on : living (roll_of kinds alive).births entity.id ≡ Some life = comes.live_on (record { id = entity.id; generation = life }) e in
          let both : Some life ≡ Some entity.generation = sym on ∙ comes.alive in
          let same : life ≡ entity.generation = cc in
          absurd (comes.unborn (lives-now, comes.counts, life-counted old.births entity.id entity.generation (e ∙ ap Some same)))

  noting-marked : (roll_of kinds marked).noting ≡ allocated old.noting entity None
  noting-marked =
      ap (λ held. unwrap_or (option_and_then kinds.noting held) none_noted) (settles.marks.others kinds.allocator_id (apart allocator markers refl refl))
      ∙ settles.gets.noting ∙ ap (λ n. allocated n entity None) noting-first

  -- who is known under an id that lived before was so then
  before-under : (id : ℕ) (one : LifeAt) → entity_under (roll_of kinds marked) id ≡ Some one → lives id (ids_in old) ≡ true → entity_under old id ≡ Some one
  before-under id one now lived = same-noted old (roll_of kinds marked) id one now (sym (lives-under old id) ∙ lived)
      (ap (λ n. noted_under n id) noting-marked ∙ next-noted old.noting entity id ∙ ap (λ b. cond b (Some entity) (noted_under old.noting id)) (other (eqb id old.noting.next) refl))
    where
      lower : id < old.noting.next
      lower = lives-below old.noting.next id (ids_in old) may.below lived

      other : (b : Bool) → eqb id old.noting.next ≡ b → b ≡ false
      other true same = let at : id ≡ old.noting.next = eqb-true id old.noting.next same in let wrong : ⊥ = omega (arith, lower, at) in absurd wrong
      other false differ = refl

  all-before : (ids : List ℕ) (named : List LifeAt) → AreUnder (roll_of kinds marked) ids (Some named) → list_all (ref_lives (ids_in old)) (refs_to ids) ≡ true → AreUnder old ids (Some named)
  all-before [] [] found live = refl
  all-before [] (one ∷ named) found live = cc
  all-before (id ∷ ids) [] found live = cc
  all-before (id ∷ ids) (one ∷ named) found live =
      let first : entity_under (roll_of kinds marked) id ≡ Some one = cc in
      let rest : map (entity_under (roll_of kinds marked)) ids ≡ map (λ entity. Some entity) named = cc in
      let both = and_parts (lives id (ids_in old)) (list_all (ref_lives (ids_in old)) (refs_to ids)) live in
      ap (λ o. o ∷ map (entity_under old) ids) (before-under id one first both.0) ∙ ap (λ l. Some one ∷ l) (all-before ids named rest both.1)

  module _ (live : list_all (λ entry. refs_live (ids_in old) entry.1) given ≡ true) where
    -- the references of a part that is given live
    part-live : (kind : Name) (part : Part) → under kind given ≡ Some part → refs_live (ids_in old) part ≡ true
    part-live kind part = by given live
      where
        by : (entries : List (Name × Part)) → list_all (λ entry. refs_live (ids_in old) entry.1) entries ≡ true → under kind entries ≡ Some part → refs_live (ids_in old) part ≡ true
        by [] all e = cc
        by (entry ∷ entries) all e = at (bytes_eq kind entry.0) e (and_parts (refs_live (ids_in old) entry.1) (list_all (λ one. refs_live (ids_in old) one.1) entries) all) (by entries)
          where
            at : (b : Bool) → cond b (Some entry.1) (under kind entries) ≡ Some part → (refs_live (ids_in old) entry.1 ≡ true) × (list_all (λ one. refs_live (ids_in old) one.1) entries ≡ true)
                → (list_all (λ one. refs_live (ids_in old) one.1) entries ≡ true → under kind entries ≡ Some part → refs_live (ids_in old) part ≡ true) → refs_live (ids_in old) part ≡ true
            at true f both later = let same : entry.1 ≡ part = cc in subst (λ p. refs_live (ids_in old) p ≡ true) same both.0
            at false f both later = later both.1 f

    module _ (kind : Name) (known : is_among kind kinds.part_names ≡ true) where
      -- a part that is given is stored as it is, with entities that were known before
      module _ (part : Part) (is_given : under kind given ≡ Some part) where
        abbrev is : IsGiven (roll_of kinds marked) part (column_of kinds (seen_of later) kind entity.id)
        is = settles.gives.here kind known part is_given

        found-before : AreUnder old is.ids (Some is.named)
        found-before = all-before is.ids is.named is.found (ap (list_all (ref_lives (ids_in old))) is.refs ∙ part-live kind part is_given)

        part-stored : option_map (part_under (ref_to old)) (column_of kinds (seen_of later) kind entity.id) ≡ Some part
        part-stored = ap (option_map (part_under (ref_to old))) is.there ∙ ap Some (stored-part old part is.ids is.named is.one is.refs found-before is.is)

        part-born : (one : Stored) → column_of kinds (seen_of later) kind entity.id ≡ Some one → All (WasBorn old.births) one.named
        part-born one e =
            let same : is.one ≡ one = let both : Some is.one ≡ Some one = sym is.there ∙ e in cc in
            subst (λ s. All (WasBorn old.births) s.named) same (subst (All (WasBorn old.births)) (sym is.is.names) (all-born old is.ids is.named found-before))

      -- where none is given nothing is stored, for nobody lived there
      none-stored : under kind given ≡ None → column_of kinds (seen_of later) kind entity.id ≡ None
      none-stored none = by (column_of kinds (seen_of w) kind entity.id) refl
        where
          same : column_of kinds (seen_of later) kind entity.id ≡ column_of kinds (seen_of w) kind entity.id
          same = settles.gives.none kind known none ∙ column-first kind known entity.id

          by : (o : Option Stored) → column_of kinds (seen_of w) kind entity.id ≡ o → column_of kinds (seen_of later) kind entity.id ≡ None
          by None e = same ∙ e
          by (Some one) e =
              let there : IsSome (living old.births entity.id) = may.within kind known entity.id (subst (λ o. IsSome o) (sym e) refl) in
              absurd (false≢true (subst (λ o. IsSome o) free there))

      -- each entity that is named was born before
      all-named-born : (index : ℕ) (one : Stored) → column_of kinds (seen_of later) kind index ≡ Some one → All (WasBorn old.births) one.named
      all-named-born index one e = by (eqb index entity.id) refl
        where
          here : (o : Option Part) → under kind given ≡ o → column_of kinds (seen_of later) kind entity.id ≡ Some one → All (WasBorn old.births) one.named
          here None none f = let both : ◌≡◌ {A = Option Stored} None (Some one) = sym (none-stored none) ∙ f in cc
          here (Some part) is_given f = part-born part is_given one f

          by : (b : Bool) → eqb index entity.id ≡ b → All (WasBorn old.births) one.named
          by true at = here (under kind given) refl (ap (λ i. column_of kinds (seen_of later) kind i) (sym (eqb-true index entity.id at)) ∙ e)
          by false away = may.born kind known index one (sym (settles.gives.elsewhere kind known index away ∙ column-first kind known index) ∙ e)

    -- so the entity is born with these parts
    bears : Bears kinds entity (λ kind. column_of kinds (seen_of later) kind entity.id) (seen_of w) (seen_of later)
    bears = record {
      free = free;
      alive = lives-now;
      lives = λ at. ap (λ b. living b at) births-last ∙ comes.lives at;
      marker = λ at.
          ap (λ held. option_and_then (λ v. kinds.marker v at) held) markers-last ∙ settles.marks.marker at
          ∙ ap (λ id. cond (eqb at entity.id) (Some id) ((roll_of kinds noted).marker at)) id-is
          ∙ ap (λ held. cond (eqb at entity.id) (Some old.noting.next) (option_and_then (λ v. kinds.marker v at) held)) markers-first;
      noting = noting-last;
      parts_so = λ kind known at. column kind known at (eqb at entity.id) refl;
      unnamed = λ kind known index one e. All-weaker (WasBorn old.births) (IsAnother entity) (λ named born. born-another old.births entity named comes.counts lives-now comes.unborn born) one.named (all-named-born kind known index one e);
      values = λ name is. ap (λ held. option_and_then (kinds.value name) held)
          (settles.gives.others (kinds.global_id name) (λ kind known. apart (value name) (parts kind) is known) ∙ settles.marks.others (kinds.global_id name) (apart (value name) markers is refl)
          ∙ settles.gets.others (kinds.global_id name) (apart (value name) allocator is refl) ∙ comes.others (kinds.global_id name) (apart (value name) entities is refl));
    }
      where
        column : (kind : Name) → is_among kind kinds.part_names ≡ true → (at : ℕ) (b : Bool) → eqb at entity.id ≡ b
            → column_of kinds (seen_of later) kind at ≡ cond (eqb at entity.id) (column_of kinds (seen_of later) kind entity.id) (column_of kinds (seen_of w) kind at)
        column kind known at true is =
            ap (λ i. column_of kinds (seen_of later) kind i) (eqb-true at entity.id is)
            ∙ sym (ap (λ b. cond b (column_of kinds (seen_of later) kind entity.id) (column_of kinds (seen_of w) kind at)) is)
        column kind known at false is =
            settles.gives.elsewhere kind known at is ∙ column-first kind known at
            ∙ sym (ap (λ b. cond b (column_of kinds (seen_of later) kind entity.id) (column_of kinds (seen_of w) kind at)) is)

    module _ (all_known : All (λ entry. is_among entry.0 kinds.part_names ≡ true) given) (left : eqb old.noting.next last_next ≡ false) where
      -- and the command does that
      pub spawn-acts : Acts kinds (spawn given) true w later
      spawn-acts = born-scene kinds (seen_of w) (seen_of later) may.roll may.below entity (λ kind. column_of kinds (seen_of later) kind entity.id) bears (owning_in kinds) given live left
          (λ kind. same kind (is_among kind kinds.part_names) refl (under kind given) refl)
        where
          strange : (kind : Name) (entries : List (Name × Part)) → is_among kind kinds.part_names ≡ false → All (λ entry. is_among entry.0 kinds.part_names ≡ true) entries → under kind entries ≡ None
          strange kind [] un all = refl
          strange kind (entry ∷ entries) un all = at (bytes_eq kind entry.0) refl (strange kind entries un (All-tail (λ one. is_among one.0 kinds.part_names ≡ true) entry entries all))
            where
              at : (b : Bool) → bytes_eq kind entry.0 ≡ b → under kind entries ≡ None → cond (bytes_eq kind entry.0) (Some entry.1) (under kind entries) ≡ None
              at true is rest =
                  absurd (true≢false (sym (ap (λ n. is_among n kinds.part_names) ((bytes_eq-Decides kind entry.0).0 is) ∙ All-head (λ one. is_among one.0 kinds.part_names ≡ true) entry entries all) ∙ un))
              at false is rest = ap (λ b. cond b (Some entry.1) (under kind entries)) is ∙ rest

          same : (kind : Name) (b : Bool) → is_among kind kinds.part_names ≡ b → (o : Option Part) → under kind given ≡ o
              → under kind given ≡ cond (is_among kind kinds.part_names) (option_map (part_under (ref_to old)) (column_of kinds (seen_of later) kind entity.id)) None
          same kind true known (Some part) e = e ∙ sym (ap (λ b. cond b (option_map (part_under (ref_to old)) (column_of kinds (seen_of later) kind entity.id)) None) known ∙ part-stored kind known part e)
          same kind true known None e =
              e ∙ sym (ap (λ b. cond b (option_map (part_under (ref_to old)) (column_of kinds (seen_of later) kind entity.id)) None) known ∙ ap (option_map (part_under (ref_to old))) (none-stored kind known e))
          same kind false un o e = strange kind given un all_known ∙ sym (ap (λ b. cond b (option_map (part_under (ref_to old)) (column_of kinds (seen_of later) kind entity.id)) None) un)

      ids-now : ids_in (roll_of kinds (seen_of later)) ≡ ids_in old ++ old.noting.next ∷ []
      ids-now = sym (ap (λ scene. scene.ids) same)
        where
          made : PlainScene
          made = record {
            next = old.noting.next + 1;
            ids = ids_in old ++ old.noting.next ∷ [];
            part = λ id kind. cond (eqb id old.noting.next) (under kind given) ((plain_of kinds (seen_of w)).part id kind);
            global = (plain_of kinds (seen_of w)).global;
          }

          same : made ≡ plain_of kinds (seen_of later)
          same =
              let told : changed made ≡ changed (plain_of kinds (seen_of later)) =
              sym (ap (λ b. cond b (cond (eqb old.noting.next last_next) ids_spent (changed made)) skipped) live ∙ ap (λ b. cond b ids_spent (changed made)) left) ∙ spawn-acts in
              cc

      pub spawn-may : MayAct kinds later
      spawn-may = record {
        entities = subst (λ held. IsSome (option_and_then kinds.births held)) (sym entities-last) comes.there;
        markers = subst (λ held. IsSome held) (sym markers-last) settles.marks.there;
        allocator = subst (λ held. IsSome (option_and_then kinds.noting held)) (sym allocator-last) settles.gets.there;
        roll = born-roll kinds (seen_of w) (seen_of later) may.roll may.below entity (λ kind. column_of kinds (seen_of later) kind entity.id) bears;
        below = subst (λ noting. All (λ id. id < noting.next) (ids_in (roll_of kinds (seen_of later)))) (sym noting-last)
            (subst (λ ids. All (λ id. id < max old.noting.next (old.noting.next + 1)) ids) (sym ids-now)
            (All-append (λ id. id < max old.noting.next (old.noting.next + 1)) (ids_in old) (old.noting.next ∷ [])
            (All-weaker (λ id. id < old.noting.next) (λ id. id < max old.noting.next (old.noting.next + 1)) (λ id lower. subst (λ n. id < n) (sym (next-after old.noting.next)) (omega (arith, lower))) (ids_in old) may.below)
            (All-cons (λ id. id < max old.noting.next (old.noting.next + 1)) old.noting.next [] (subst (λ n. old.noting.next < n) (sym (next-after old.noting.next)) (omega arith)) (All-nil (λ id. id < max old.noting.next (old.noting.next + 1))))));
        within = λ kind known. born-within kinds (seen_of w) (seen_of later) may.roll may.below entity (λ name. column_of kinds (seen_of later) name entity.id) bears kind known (may.within kind known);
        born = λ kind known index one e. All-weaker (WasBorn old.births) (WasBorn (roll_of kinds (seen_of later)).births) (λ named was. omega (arith, was, more named.id)) one.named (all-named-born kind known index one e);
      }
        where
          more : (at : ℕ) → count old.births at ≤ count (roll_of kinds (seen_of later)).births at
          more at = subst (λ b. count old.births at ≤ count b at) (sym births-last) (comes.births at)
