-- What commands make of a world is shown, and time goes on.
use Rattle.std.proofs.Common.{◌≡◌, ◌≤◌, ◌+◌, ℕ, Bool, true, false, List, Option, None, Some, max, refl, ap, sym, ◌∙◌, subst, arith}
use Rattle.std.specs.Prelude.{option_and_then}
use Rattle.std.specs.Option.{unwrap_or}
use Rattle.std.specs.Str.{bytes_eq}
use Rattle.std.proofs.lemmas.Slice.Eq.{bytes_eq-Decides}
use Rattle.shred_world.specs.Worlds.{Slots}
use Rattle.specs_entity.specs.Births.{count, living, none_born}
use Rattle.specs_entity.specs.Life.{LifeAt}
use Rattle.specs_markers.specs.Simple.{none_noted}
use Rattle.scene_model.specs.Parts.{Name, Part, is_among}
use Rattle.scene_world.specs.Ages.{Ages}
use Rattle.scene_world.specs.Changes.{but_at}
use Rattle.scene_world.specs.Lent.{StandApart, entities, markers, allocator, parts}
use Rattle.scene_world.specs.Standing.{Sight, Kinds, roll_of}
use Rattle.scene_world.specs.Stored.{Stored}
use Rattle.scene_world.specs.Telling.{ShowsKind}
use Rattle.scene_world.proofs.CallerLemmas.{living-lives, same-roll, kind-stays, kind-both, markers-stay, markers-both, world-stays, world-both, ages-none, ages-both, ages-by-death, ages-by-birth}
use Rattle.scene_commands.specs.Acts.{seen_of, SetsColumn, GoesOn}
use Rattle.scene_commands.specs.Deaths.{DropsParts, Unmarks, Forgets, LetsDie}
use Rattle.scene_commands.specs.Newborns.{ComesToLife, Settles}
use Rattle.scene_commands.specs.Bounds.{Grows, GrowsByIds}
use Rattle.scene_commands.proofs.BoundLemmas.{grows-none, grows-both, grows-as}

module _ {V : Type 0} (kinds : Kinds V) where
  -- the next id of an allocator that may stand in a world
  abbrev noting_in : Option V → ℕ
  noting_in held = (unwrap_or (option_and_then kinds.noting held) none_noted).next

  -- where nothing is done, and where one thing is done after another
  pub goes-nowhere : (w : Slots V) → GoesOn kinds w w
  goes-nowhere w = record { shown = world-stays kinds (seen_of w); ages = ages-none (roll_of kinds (seen_of w)); grows = grows-none (roll_of kinds (seen_of w)).births (roll_of kinds (seen_of w)).noting.next }

  pub goes-both : (first second third : Slots V) → GoesOn kinds first second → GoesOn kinds second third → GoesOn kinds first third
  goes-both first second third one two = record {
    shown = world-both kinds (seen_of first) (seen_of second) (seen_of third) one.shown two.shown;
    ages = ages-both (roll_of kinds (seen_of first)) (roll_of kinds (seen_of second)) (roll_of kinds (seen_of third)) one.ages two.ages;
    grows = grows-both (roll_of kinds (seen_of first)).births (roll_of kinds (seen_of second)).births (roll_of kinds (seen_of third)).births
        (roll_of kinds (seen_of first)).noting.next (roll_of kinds (seen_of second)).noting.next (roll_of kinds (seen_of third)).noting.next one.grows two.grows;
  }

  module _ (apart : StandApart kinds) where
    -- where a part of one kind is set
    pub goes-by-part : (kind : Name) → is_among kind kinds.part_names ≡ true → (index : ℕ) (part : Option Stored) (w later : Slots V) → SetsColumn kinds kind index part (seen_of w) (seen_of later) → GoesOn kinds w later
    goes-by-part kind known index part w later sets = record {
      shown = record {
        parts = λ other is. shown other is (bytes_eq other kind) refl;
        markers = markers-stay kinds (seen_of w) (seen_of later) at-markers;
      };
      ages = subst (λ roll. Ages (roll_of kinds (seen_of w)) roll) (sym rolls) (ages-none (roll_of kinds (seen_of w)));
      grows = subst (λ roll. GrowsByIds (roll_of kinds (seen_of w)) roll) (sym rolls) (grows-none (roll_of kinds (seen_of w)).births (roll_of kinds (seen_of w)).noting.next);
    }
      where
        at-markers : seen_of later kinds.markers_id ≡ seen_of w kinds.markers_id
        at-markers = sets.others kinds.markers_id (apart markers (parts kind) refl known)

        rolls : roll_of kinds (seen_of later) ≡ roll_of kinds (seen_of w)
        rolls = same-roll kinds (seen_of later) (seen_of w) (sets.others kinds.entities_id (apart entities (parts kind) refl known)) at-markers (sets.others kinds.allocator_id (apart allocator (parts kind) refl known))

        shown : (other : Name) → is_among other kinds.part_names ≡ true → (b : Bool) → bytes_eq other kind ≡ b → ShowsKind kinds other (seen_of w) (seen_of later)
        shown other is true same = subst (λ n. ShowsKind kinds n (seen_of w) (seen_of later)) (sym ((bytes_eq-Decides other kind).0 same)) sets.shown
        shown other is false differ = kind-stays kinds other (seen_of w) (seen_of later) (sets.others (kinds.part_id other) (apart (parts other) (parts kind) is known ∙ differ))

    -- where an entity dies
    pub goes-by-death : (w w1 w2 w3 w4 : Slots V) (id index : ℕ) → DropsParts kinds index kinds.part_names (seen_of w) (seen_of w1) → Unmarks kinds index (seen_of w1) (seen_of w2)
        → Forgets kinds id (seen_of w2) (seen_of w3) → LetsDie kinds index (seen_of w3) (seen_of w4) → GoesOn kinds w w4
    goes-by-death w w1 w2 w3 w4 id index drops unmarks forgets dies = record {
      shown = record {
        parts = λ kind known. kind-both kinds kind (seen_of w) (seen_of w1) (seen_of w4) (drops.shown kind known)
            (kind-stays kinds kind (seen_of w1) (seen_of w4) (dies.others (kinds.part_id kind) (apart (parts kind) entities known refl)
            ∙ forgets.others (kinds.part_id kind) (apart (parts kind) allocator known refl) ∙ unmarks.others (kinds.part_id kind) (apart (parts kind) markers known refl)));
        markers = markers-both kinds (seen_of w) (seen_of w1) (seen_of w4) (markers-stay kinds (seen_of w) (seen_of w1) markers-before)
            (markers-both kinds (seen_of w1) (seen_of w2) (seen_of w4) unmarks.shown (markers-stay kinds (seen_of w2) (seen_of w4) markers-after));
      };
      ages = ages-by-death (roll_of kinds (seen_of w)) (roll_of kinds (seen_of w4)) index
          (λ at. subst (λ b. count b at ≤ count (roll_of kinds (seen_of w4)).births at) births-before (dies.births at))
          (λ at. subst (λ b. living (roll_of kinds (seen_of w4)).births at ≡ but_at index None (living b) at) births-before (dies.lives at))
          (λ at. ap (λ held. option_and_then (λ v. kinds.marker v at) held) markers-after ∙ unmarks.marker at
          ∙ ap (λ held. but_at index None (λ i. option_and_then (λ v. kinds.marker v i) held) at) markers-before);
      grows = subst (λ b. Grows b (roll_of kinds (seen_of w4)).births (roll_of kinds (seen_of w)).noting.next (roll_of kinds (seen_of w4)).noting.next) births-before
          (grows-as (roll_of kinds (seen_of w3)).births (roll_of kinds (seen_of w4)).births 0 0 (roll_of kinds (seen_of w)).noting.next (roll_of kinds (seen_of w4)).noting.next (omega (arith, next-stays)) dies.grows);
    }
      where
        next-stays : (roll_of kinds (seen_of w4)).noting.next ≡ (roll_of kinds (seen_of w)).noting.next
        next-stays =
            ap (λ held. noting_in held) (dies.others kinds.allocator_id (apart allocator entities refl refl)) ∙ forgets.next
            ∙ ap (λ held. noting_in held) (unmarks.others kinds.allocator_id (apart allocator markers refl refl) ∙ drops.others kinds.allocator_id (λ kind known. apart allocator (parts kind) refl known))

        markers-before : seen_of w1 kinds.markers_id ≡ seen_of w kinds.markers_id
        markers-before = drops.others kinds.markers_id (λ kind known. apart markers (parts kind) refl known)

        markers-after : seen_of w4 kinds.markers_id ≡ seen_of w2 kinds.markers_id
        markers-after = dies.others kinds.markers_id (apart markers entities refl refl) ∙ forgets.others kinds.markers_id (apart markers allocator refl refl)

        births-before : (roll_of kinds (seen_of w3)).births ≡ (roll_of kinds (seen_of w)).births
        births-before = ap (λ held. unwrap_or (option_and_then kinds.births held) (none_born 0 0))
            (forgets.others kinds.entities_id (apart entities allocator refl refl) ∙ unmarks.others kinds.entities_id (apart entities markers refl refl)
            ∙ drops.others kinds.entities_id (λ kind known. apart entities (parts kind) refl known))

    -- where one is born
    pub goes-by-birth : (w : Slots V) (alive : Sight V) (later : Slots V) (entity : LifeAt) (given : List (Name × Part)) → ComesToLife kinds entity (seen_of w) alive → Settles kinds entity given alive (seen_of later) → GoesOn kinds w later
    goes-by-birth w alive later entity given comes settles = record {
      shown = record {
        parts = λ kind known. kind-both kinds kind (seen_of w) settles.marked (seen_of later)
            (kind-stays kinds kind (seen_of w) settles.marked (settles.marks.others (kinds.part_id kind) (apart (parts kind) markers known refl)
            ∙ settles.gets.others (kinds.part_id kind) (apart (parts kind) allocator known refl) ∙ comes.others (kinds.part_id kind) (apart (parts kind) entities known refl)))
            (settles.gives.shown kind known);
        markers = markers-both kinds (seen_of w) settles.noted (seen_of later) (markers-stay kinds (seen_of w) settles.noted markers-before)
            (markers-both kinds settles.noted settles.marked (seen_of later) settles.marks.shown (markers-stay kinds settles.marked (seen_of later) markers-after));
      };
      ages = ages-by-birth (roll_of kinds (seen_of w)) (roll_of kinds (seen_of later)) entity settles.id
          (λ born. comes.unborn (living-lives (roll_of kinds alive).births entity.id entity.generation comes.alive, comes.counts, born))
          (λ at. subst (λ b. count (roll_of kinds (seen_of w)).births at ≤ count b at) (sym births-after) (comes.births at))
          (λ at. ap (λ b. living b at) births-after ∙ comes.lives at)
          (λ at. ap (λ held. option_and_then (λ v. kinds.marker v at) held) markers-after ∙ settles.marks.marker at
          ∙ ap (λ held. but_at entity.id (Some settles.id) (λ i. option_and_then (λ v. kinds.marker v i) held) at) markers-before);
      grows = subst (λ b. Grows (roll_of kinds (seen_of w)).births b (roll_of kinds (seen_of w)).noting.next (roll_of kinds (seen_of later)).noting.next) (sym births-after)
          (grows-as (roll_of kinds (seen_of w)).births (roll_of kinds alive).births 0 1 (roll_of kinds (seen_of w)).noting.next (roll_of kinds (seen_of later)).noting.next (omega (arith, next-given)) comes.grows);
    }
      where
        next-given : (roll_of kinds (seen_of later)).noting.next ≡ max (roll_of kinds (seen_of w)).noting.next ((roll_of kinds (seen_of w)).noting.next + 1)
        next-given =
            ap (λ held. noting_in held) (settles.gives.others kinds.allocator_id (λ kind known. apart allocator (parts kind) refl known) ∙ settles.marks.others kinds.allocator_id (apart allocator markers refl refl))
            ∙ ap (λ n. n.next) settles.gets.noting
            ∙ ap (λ held. max (noting_in held) (noting_in held + 1)) (comes.others kinds.allocator_id (apart allocator entities refl refl))

        markers-before : settles.noted kinds.markers_id ≡ seen_of w kinds.markers_id
        markers-before = settles.gets.others kinds.markers_id (apart markers allocator refl refl) ∙ comes.others kinds.markers_id (apart markers entities refl refl)

        markers-after : seen_of later kinds.markers_id ≡ settles.marked kinds.markers_id
        markers-after = settles.gives.others kinds.markers_id (λ kind known. apart markers (parts kind) refl known)

        births-after : (roll_of kinds (seen_of later)).births ≡ (roll_of kinds alive).births
        births-after = ap (λ held. unwrap_or (option_and_then kinds.births held) (none_born 0 0))
            (settles.gives.others kinds.entities_id (λ kind known. apart entities (parts kind) refl known) ∙ settles.marks.others kinds.entities_id (apart entities markers refl refl)
            ∙ settles.gets.others kinds.entities_id (apart entities allocator refl refl))
