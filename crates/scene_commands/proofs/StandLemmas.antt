-- Commands may be carried out in a world in which a scene stands, and one stands in it when they are done.
use Rattle.std.proofs.Common.{◌≡◌, ℕ, Bool, true, false, cond, eqb, ◌||◌, List, [], ◌∷◌, map, Option, Some, None, is_some, refl, ap, sym, ◌∙◌, subst, All}
use Rattle.std.specs.Prelude.{IsSome, option_and_then, option_map}
use Rattle.std.specs.List.{list_any, find}
use Rattle.std.proofs.lemmas.Bool.{true≢false, false≢true, eqb-true, or_parts}
use Rattle.std.proofs.lemmas.List.Elements.{All-nil, All-cons, All-head, All-tail}
use Rattle.shred_world.specs.Worlds.{Slots}
use Rattle.specs_entity.specs.Births.{living}
use Rattle.specs_entity.specs.Life.{Life, LifeAt}
use Rattle.scene_model.specs.Parts.{Name, Part, is_among}
use Rattle.scene_model.specs.Rulebook.{Book}
use Rattle.scene_model.specs.Scenes.{lives, RefLives, RefsLive, PartsAdmitted, GlobalsReadable}
use Rattle.scene_model.specs.Commands.{is_gone, holds_gone, first_gone}
use Rattle.scene_world.specs.Stored.{Stored, part_under}
use Rattle.scene_world.specs.Rolls.{Roll, IsRoll, is_life, reference, id_at, index_of, ids_in, ref_to, part_in}
use Rattle.scene_world.specs.Standing.{Kinds, roll_of, column_of, plain_of, IsSceneWorld}
use Rattle.scene_world.proofs.CallerLemmas.{index-of-id, lives-index, ids-ascend}
use Rattle.scene_world.proofs.CallerLemmas.{owned-plain}
use Rattle.scene_commands.specs.Acts.{seen_of, WasBorn, MayAct}
use Rattle.scene_commands.proofs.ActLemmas.{alive-born}
use Rattle.scene_model.proofs.CallerLemmas.{none-of-names}

-- a stored entity whose reference lives is alive
ref-alive : (roll : Roll) (entity : LifeAt) → RefLives (ids_in roll) (ref_to roll entity) → is_life entity.generation (living roll.births entity.id) ≡ true
ref-alive roll entity lives_now = by (is_life entity.generation (living roll.births entity.id)) refl lives_now
  where
    by : (b : Bool) → is_life entity.generation (living roll.births entity.id) ≡ b → RefLives (ids_in roll) (reference (cond (is_life entity.generation (living roll.births entity.id)) (id_at roll entity.id) None))
        → is_life entity.generation (living roll.births entity.id) ≡ true
    by true is now = is
    by false is now = absurd (subst (λ b. RefLives (ids_in roll) (reference (cond b (id_at roll entity.id) None))) is now)

refs-alive : (roll : Roll) (named : List LifeAt) → All (RefLives (ids_in roll)) (map (ref_to roll) named) → All (WasBorn roll.births) named
refs-alive roll [] all = All-nil (WasBorn roll.births)
refs-alive roll (entity ∷ named) all =
    All-cons (WasBorn roll.births) entity named (alive-born roll.births entity (ref-alive roll entity (All-head (RefLives (ids_in roll)) (ref_to roll entity) (map (ref_to roll) named) all)))
    (refs-alive roll named (All-tail (RefLives (ids_in roll)) (ref_to roll entity) (map (ref_to roll) named) all))

-- what is found nowhere fails of each
find-passed : (test : ℕ → Bool) (ids : List ℕ) (id : ℕ) → find test ids ≡ None → lives id ids ≡ true → test id ≡ false
find-passed test [] id none lived = absurd (false≢true lived)
find-passed test (first ∷ ids) id none lived = by (test first) refl none (eqb first id) refl lived (λ rest on. find-passed test ids id rest on)
  where
    by : (b : Bool) → test first ≡ b → cond b (Some first) (find test ids) ≡ None → (c : Bool) → eqb first id ≡ c → (c || lives id ids) ≡ true → (find test ids ≡ None → lives id ids ≡ true → test id ≡ false) → test id ≡ false
    by true is f c at on later = cc
    by false is f true at on later = ap test (sym (eqb-true first id at)) ∙ is
    by false is f false at on later = later f on

module _ {V : Type 0} (kinds : Kinds V) (book : Book) (w : Slots V) where
  abbrev roll : Roll
  roll = roll_of kinds (seen_of w)

  -- a part that is stored under a kind of the rules is that of an id
  stored-under : IsRoll roll → (kind : Name) → is_among kind kinds.part_names ≡ true → (index id : ℕ) (stored : Stored) → id_at roll index ≡ Some id → column_of kinds (seen_of w) kind index ≡ Some stored
      → (plain_of kinds (seen_of w)).part id kind ≡ Some (part_under (ref_to roll) stored)
  stored-under is kind known index id stored at e =
      ap (λ b. cond b (part_in roll (column_of kinds (seen_of w) kind) id) None) known
      ∙ ap (option_and_then (λ i. option_map (part_under (ref_to roll)) (column_of kinds (seen_of w) kind i))) (index-of-id roll is id index at)
      ∙ ap (option_map (part_under (ref_to roll))) e

  pub may-begin : IsSceneWorld kinds book (seen_of w) → MayAct kinds w
  may-begin stands = record {
    entities = stands.entities;
    markers = stands.markers;
    allocator = stands.allocator;
    roll = stands.roll;
    below = stands.proper.ids.below;
    within = stands.within;
    born = λ kind known index stored e. born kind known index stored e (living roll.births index) refl;
  }
    where
      born : (kind : Name) → is_among kind kinds.part_names ≡ true → (index : ℕ) (stored : Stored) → column_of kinds (seen_of w) kind index ≡ Some stored → (o : Option Life) → living roll.births index ≡ o → All (WasBorn roll.births) stored.named
      born kind known index stored e None nobody =
          let there : IsSome (living roll.births index) = stands.within kind known index (subst (λ o. IsSome o) (sym e) refl) in
          absurd (false≢true (subst (λ o. IsSome o) nobody there))
      born kind known index stored e (Some life) lived =
          let mark = stands.roll.marked index life lived in
          let at : id_at roll index ≡ Some mark.0 = ap (λ o. cond (is_some o) (roll.marker index) None) lived ∙ mark.1.marker in
          let part = stored-under stands.roll kind known index mark.0 stored at e in
          refs-alive roll stored.named (stands.proper.living mark.0 kind (part_under (ref_to roll) stored)
          (lives-index roll mark.0 ∙ ap is_some (index-of-id roll stands.roll mark.0 index at)) part)

  -- where no reference is gone, each names an id that lives
  ref-lives : IsRoll roll → (entity : LifeAt) → is_gone (ref_to roll entity) ≡ false → RefLives (ids_in roll) (ref_to roll entity)
  ref-lives is entity there = by (is_life entity.generation (living roll.births entity.id)) there
    where
      marked : (o : Option ℕ) → id_at roll entity.id ≡ o → is_gone (reference o) ≡ false → RefLives (ids_in roll) (reference o)
      marked None e f = absurd (true≢false f)
      marked (Some id) e f = lives-index roll id ∙ ap is_some (index-of-id roll is id entity.id e)

      by : (b : Bool) → is_gone (reference (cond b (id_at roll entity.id) None)) ≡ false → RefLives (ids_in roll) (reference (cond b (id_at roll entity.id) None))
      by true f = marked (id_at roll entity.id) refl f
      by false f = absurd (true≢false f)

  refs-live : IsRoll roll → (named : List LifeAt) → list_any is_gone (map (ref_to roll) named) ≡ false → All (RefLives (ids_in roll)) (map (ref_to roll) named)
  refs-live is [] none = All-nil (RefLives (ids_in roll))
  refs-live is (entity ∷ named) none =
      let both = or_parts (is_gone (ref_to roll entity)) (list_any is_gone (map (ref_to roll) named)) none in
      All-cons (RefLives (ids_in roll)) (ref_to roll entity) (map (ref_to roll) named) (ref-lives is entity both.0) (refs-live is named both.1)

  -- the part of an id is one that is stored
  part-is : (id : ℕ) (kind : Name) (held : Part) → (plain_of kinds (seen_of w)).part id kind ≡ Some held → (is_among kind kinds.part_names ≡ true) × (stored : Stored) × (held ≡ part_under (ref_to roll) stored)
  part-is id kind held e = by (is_among kind kinds.part_names) refl e
    where
      stored-is : (o : Option Stored) → option_map (part_under (ref_to roll)) o ≡ Some held → (stored : Stored) × (held ≡ part_under (ref_to roll) stored)
      stored-is None f = cc
      stored-is (Some one) f = let same : part_under (ref_to roll) one ≡ held = cc in (one, sym same)

      index-is : (o : Option ℕ) → option_and_then (λ i. option_map (part_under (ref_to roll)) (column_of kinds (seen_of w) kind i)) o ≡ Some held → (stored : Stored) × (held ≡ part_under (ref_to roll) stored)
      index-is None f = cc
      index-is (Some i) f = stored-is (column_of kinds (seen_of w) kind i) f

      by : (b : Bool) → is_among kind kinds.part_names ≡ b → cond b (part_in roll (column_of kinds (seen_of w) kind) id) None ≡ Some held → (is_among kind kinds.part_names ≡ true) × (stored : Stored) × (held ≡ part_under (ref_to roll) stored)
      by true known f = let found = index-is (index_of roll id) f in (known, found.0, found.1)
      by false un f = cc

  pub may-stand : kinds.part_names ≡ book.part_names → MayAct kinds w → PartsAdmitted book (plain_of kinds (seen_of w)).part → GlobalsReadable book (plain_of kinds (seen_of w)).global → first_gone book (plain_of kinds (seen_of w)) ≡ None
      → IsSceneWorld kinds book (seen_of w)
  may-stand names may admitted readable none = record {
    entities = may.entities;
    markers = may.markers;
    allocator = may.allocator;
    roll = may.roll;
    within = may.within;
    proper = record {
      ids = record { ascend = ids-ascend roll; below = may.below };
      owned = owned-plain kinds (seen_of w);
      admitted = admitted;
      living = living-all;
      readable = readable;
    };
  }
    where
      living-all : RefsLive (ids_in roll) (plain_of kinds (seen_of w)).part
      living-all id kind held lived e =
          let found = part-is id kind held e in
          let kept = sym (ap holds_gone e) ∙ none-of-names (λ name. holds_gone ((plain_of kinds (seen_of w)).part id name)) book.part_names kind
          (find-passed (λ one. list_any (λ name. holds_gone ((plain_of kinds (seen_of w)).part one name)) book.part_names) (ids_in roll) id none lived) (sym (ap (is_among kind) names) ∙ found.0) in
          subst (λ part. All (RefLives (ids_in roll)) part.refs) (sym found.2) (refs-live may.roll found.1.named (ap (λ part. list_any is_gone part.refs) (sym found.2) ∙ kept))
