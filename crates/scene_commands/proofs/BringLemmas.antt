-- What a command brings of references that own their holder: an index that has these before it is carried out covers what it leaves.
use Rattle.std.proofs.Common.{◌≡◌, ◌⊎◌, inl, inr, ◌+◌, ◌&&◌, ◌||◌, ℕ, Result, Ok, Err, OnOk, Bool, true, false, cond, eqb, not, filter, List, [], ◌∷◌, ◌++◌, map, Option, Some, None, is_some, refl, ap, sym, ◌∙◌, subst}
use Rattle.std.specs.Prelude.{option_and_then, option_map}
use Rattle.std.specs.List.{list_any, list_all}
use Rattle.std.specs.Str.{bytes_eq}
use Rattle.std.proofs.lemmas.Bool.{false≢true, eqb-true, eq-eqb, and_parts, and_from, or_cases, or_left, or_right}
use Rattle.std.proofs.lemmas.Slice.Eq.{bytes_eq-Decides}
use Rattle.shred_world.specs.Worlds.{Slots}
use Rattle.specs_entity.specs.Births.{living}
use Rattle.specs_entity.specs.Life.{LifeAt}
use Rattle.scene_model.specs.Parts.{Name, Ref, living as reaching, gone, Part, is_among, under}
use Rattle.scene_model.specs.Rulebook.{Command, spawn, kill, put, take}
use Rattle.scene_model.specs.Scenes.{PlainScene, lives}
use Rattle.scene_model.specs.Deaths.{is_to, refers_to, holds_on, dies_with, without, without_ref, part_without}
use Rattle.scene_model.specs.Laws.{refs_to}
use Rattle.scene_model.specs.Commands.{changed, skipped, ids_spent, apply, refs_live, last_next, with_part}
use Rattle.scene_model.proofs.CallerLemmas.{lives-kept, lives-behind}
use Rattle.scene_world.specs.Stored.{Stored, part_under}
use Rattle.scene_world.specs.Rolls.{Roll, IsRoll, is_life, reference, id_at, index_of, ids_in, ref_to}
use Rattle.scene_world.specs.Standing.{Kinds, roll_of, column_of, owning_in, plain_of}
use Rattle.scene_world.proofs.CallerLemmas.{lives-index, index-of-id}
use Rattle.scene_commands.specs.Acts.{seen_of, MayAct, Acts}
use Rattle.scene_commands.specs.declared.holders.Holders.{Holders}
use Rattle.scene_commands.specs.Links.{Holds, IsChained, Grows, Covers, Foresees, end_in}
use Rattle.scene_commands.proofs.LinkLemmas.{grows-not}

-- ---- kinds

-- a kind that passes, among those that own their holders
record Found (owns : Name → Bool) (kinds : List Name) (test : Name → Bool) : Type 0 where
  pub kind : Name
  pub own : owns kind ≡ true
  pub passes : test kind ≡ true
  pub again : (other : Name → Bool) → other kind ≡ true → list_any other kinds ≡ true

-- where one of those passes, there is such a kind
found : (owns : Name → Bool) (names : List Name) (test : Name → Bool) → list_any test (filter owns names) ≡ true → Found owns (filter owns names) test
found owns [] test is = absurd (false≢true is)
found owns (name ∷ names) test is = by (owns name) refl (found owns names test) is
  where
    by : (b : Bool) → owns name ≡ b → (list_any test (filter owns names) ≡ true → Found owns (filter owns names) test)
        → list_any test (cond b (name ∷ filter owns names) (filter owns names)) ≡ true → Found owns (cond b (name ∷ filter owns names) (filter owns names)) test
    by true own later some = elim (or_cases (test name) (list_any test (filter owns names)) some) [
      | inl here ↦ record { kind = name; own = own; passes = here; again = λ other passes. or_left (other name) (list_any other (filter owns names)) passes }
      | inr there ↦
          let one = later there in
          record { kind = one.kind; own = one.own; passes = one.passes; again = λ other passes. or_right (other name) (list_any other (filter owns names)) (one.again other passes) }
    ]
    by false own later some = later some

-- ---- scenes

-- what a command makes of a scene, where it is done
done-is : (b : Bool) (made after : PlainScene) → cond b (changed made) skipped ≡ changed after → made ≡ after
done-is true made after e = cc
done-is false made after e = cc

-- and where it finds an id
spawned-is : (live none : Bool) (made after : PlainScene) → cond live (cond none ids_spent (changed made)) skipped ≡ changed after → made ≡ after
spawned-is true true made after e = cc
spawned-is true false made after e = cc
spawned-is false none made after e = cc

-- a reference that isn't to the dead is what it was
still-to : (dead : ℕ → Bool) (target : ℕ) (refs : List Ref) → list_any (is_to (λ other. eqb other target)) (map (without_ref dead) refs) ≡ true → list_any (is_to (λ other. eqb other target)) refs ≡ true
still-to dead target [] is = is
still-to dead target (ref ∷ refs) is =
    elim (or_cases (is_to (λ other. eqb other target) (without_ref dead ref)) (list_any (is_to (λ other. eqb other target)) (map (without_ref dead) refs)) is) [
      | inl here ↦ or_left (is_to (λ other. eqb other target) ref) (list_any (is_to (λ other. eqb other target)) refs) (one ref here)
      | inr there ↦ or_right (is_to (λ other. eqb other target) ref) (list_any (is_to (λ other. eqb other target)) refs) (still-to dead target refs there)
    ]
  where
    at : (b : Bool) (id : ℕ) → is_to (λ other. eqb other target) (cond b gone (reaching id)) ≡ true → eqb id target ≡ true
    at true id e = absurd (false≢true e)
    at false id e = e

    one : (some : Ref) → is_to (λ other. eqb other target) (without_ref dead some) ≡ true → is_to (λ other. eqb other target) some ≡ true
    one (reaching id) e = at (dead id) id e
    one gone e = e

-- and so is a part of which such references are gone
part-still : (dead : ℕ → Bool) (target : ℕ) (b : Bool) (held : Option Part) → refers_to target (cond b None (option_map (part_without dead) held)) ≡ true → refers_to target held ≡ true
part-still dead target true held is = absurd (false≢true is)
part-still dead target false None is = is
part-still dead target false (Some part) is = still-to dead target part.refs is

-- one of two parts is referred by
part-or : (target : ℕ) (b : Bool) (one other : Option Part) → refers_to target (cond b one other) ≡ true → ((b ≡ true) × (refers_to target one ≡ true)) ⊎ (refers_to target other ≡ true)
part-or target true one other is = inl (refl, is)
part-or target false one other is = inr is

module _ (owns : Name → Bool) (names : List Name) (scene after : PlainScene) (holder target : ℕ) where
  abbrev owning : List Name
  owning = filter owns names

  -- what holding on says
  record IsHeld (some : PlainScene) : Type 0 where
    pub lives_one : lives holder some.ids ≡ true
    pub lives_other : lives target some.ids ≡ true
    pub by : Found owns owning (λ kind. refers_to target (some.part holder kind))

  -- what is so where one holds on to another
  held-is : (some : PlainScene) → holds_on owning some holder target ≡ true → IsHeld some
  held-is some holds =
      let one = and_parts (lives holder some.ids) (lives target some.ids && list_any (λ kind. refers_to target (some.part holder kind)) owning) holds in
      let other = and_parts (lives target some.ids) (list_any (λ kind. refers_to target (some.part holder kind)) owning) one.1 in
      record { lives_one = one.0; lives_other = other.0; by = found owns names (λ kind. refers_to target (some.part holder kind)) other.1 }

  -- who held on before
  held-before : (kind : Name) → ((other : Name → Bool) → other kind ≡ true → list_any other owning ≡ true) → lives holder scene.ids ≡ true → lives target scene.ids ≡ true
      → refers_to target (scene.part holder kind) ≡ true → holds_on owning scene holder target ≡ true
  held-before kind again one other refers = and_from (lives holder scene.ids) (lives target scene.ids && list_any (λ some. refers_to target (scene.part holder some)) owning) one
      (and_from (lives target scene.ids) (list_any (λ some. refers_to target (scene.part holder some)) owning) other (again (λ some. refers_to target (scene.part holder some)) refers))

  -- a kill brings none
  kill-brings : (id : ℕ) → apply owning (kill id) scene ≡ changed after → holds_on owning after holder target ≡ true → holds_on owning scene holder target ≡ true
  kill-brings id acts holds =
      let dead : ℕ → Bool = dies_with owning scene id in
      let held = held-is (without dead scene) (subst (λ some. holds_on owning some holder target ≡ true) (sym (done-is (lives id scene.ids) (without dead scene) after acts)) holds) in
      held-before held.by.kind held.by.again
      (and_parts (lives holder scene.ids) (not (dead holder)) (sym (lives-kept (λ one. not (dead one)) holder scene.ids) ∙ held.lives_one)).0
      (and_parts (lives target scene.ids) (not (dead target)) (sym (lives-kept (λ one. not (dead one)) target scene.ids) ∙ held.lives_other)).0
      (part-still dead target (dead holder) (scene.part holder held.by.kind) held.by.passes)

  -- nor does a part that is taken
  take-brings : (id : ℕ) (kind : Name) → apply owning (take id kind) scene ≡ changed after → holds_on owning after holder target ≡ true → holds_on owning scene holder target ≡ true
  take-brings id kind acts holds =
      let made : PlainScene = record { next = scene.next; ids = scene.ids; part = with_part id kind None scene.part; global = scene.global } in
      let held = held-is made (subst (λ some. holds_on owning some holder target ≡ true) (sym (done-is (lives id scene.ids) made after acts)) holds) in
      elim (part-or target (eqb holder id && bytes_eq held.by.kind kind) None (scene.part holder held.by.kind) held.by.passes) [
        | inl never ↦ absurd (false≢true never.1)
        | inr refers ↦ held-before held.by.kind held.by.again held.lives_one held.lives_other refers
      ]

  -- a part that is put brings its own references
  put-brings : (id : ℕ) (kind : Name) (part : Part) → apply owning (put id kind part) scene ≡ changed after → holds_on owning after holder target ≡ true
      → (holds_on owning scene holder target ≡ true) ⊎ ((holder ≡ id) × (owns kind ≡ true) × (refers_to target (Some part) ≡ true))
  put-brings id kind part acts holds =
      let made : PlainScene = record { next = scene.next; ids = scene.ids; part = with_part id kind (Some part) scene.part; global = scene.global } in
      let held = held-is made (subst (λ some. holds_on owning some holder target ≡ true) (sym (done-is (lives id scene.ids && refs_live scene.ids part) made after acts)) holds) in
      elim (part-or target (eqb holder id && bytes_eq held.by.kind kind) (Some part) (scene.part holder held.by.kind) held.by.passes) [
        | inl new ↦
            let both = and_parts (eqb holder id) (bytes_eq held.by.kind kind) new.0 in
            inr (eqb-true holder id both.0, ap owns (sym ((bytes_eq-Decides held.by.kind kind).0 both.1)) ∙ held.by.own, new.1)
        | inr refers ↦ inl (held-before held.by.kind held.by.again held.lives_one held.lives_other refers)
      ]

  -- a newborn brings those of its parts, where nobody referred to its id before
  spawn-brings : (parts : List (Name × Part)) → ((kind : Name) → refers_to target (scene.part holder kind) ≡ true → lives target scene.ids ≡ true) → apply owning (spawn parts) scene ≡ changed after
      → holds_on owning after holder target ≡ true → (holds_on owning scene holder target ≡ true) ⊎ ((holder ≡ scene.next) × (kind : Name) × (owns kind ≡ true) × (refers_to target (under kind parts) ≡ true))
  spawn-brings parts there acts holds =
      let made : PlainScene = record { next = scene.next + 1; ids = scene.ids ++ scene.next ∷ []; part = λ id kind. cond (eqb id scene.next) (under kind parts) (scene.part id kind); global = scene.global } in
      let held = held-is made (subst (λ some. holds_on owning some holder target ≡ true)
      (sym (spawned-is (list_all (λ entry. refs_live scene.ids entry.1) parts) (eqb scene.next last_next) made after acts)) holds) in
      by held.by.kind held.by.own held.by.again (sym (lives-behind holder scene.next scene.ids) ∙ held.lives_one) (eqb holder scene.next) refl held.by.passes
    where
      by : (kind : Name) → owns kind ≡ true → ((other : Name → Bool) → other kind ≡ true → list_any other owning ≡ true) → (lives holder scene.ids || eqb scene.next holder) ≡ true
          → (b : Bool) → eqb holder scene.next ≡ b → refers_to target (cond b (under kind parts) (scene.part holder kind)) ≡ true
          → (holds_on owning scene holder target ≡ true) ⊎ ((holder ≡ scene.next) × (some : Name) × (owns some ≡ true) × (refers_to target (under some parts) ≡ true))
      by kind own again alive true same refers = inr (eqb-true holder scene.next same, kind, own, refers)
      by kind own again alive false apart refers = elim (or_cases (lives holder scene.ids) (eqb scene.next holder) alive) [
        | inl old ↦ inl (held-before kind again old (there kind refers) refers)
        | inr new ↦ absurd (false≢true (sym apart ∙ eq-eqb holder scene.next (sym (eqb-true scene.next holder new))))
      ]

-- ---- what is noted

-- what follows from two facts of a call that came back
pub on_ok_both : {X Y P Q R : Type 0} (outcome : Result X Y) → (P → Q → R) → OnOk outcome P → OnOk outcome Q → OnOk outcome R
on_ok_both (Ok x) f p q = f p q
on_ok_both (Err y) f p q = tt

-- the ids to which a part refers are those that a datum names
pub told-refs : (target : ℕ) (ids : List ℕ) (part : Part) → refs_to ids ≡ part.refs → refers_to target (Some part) ≡ true → lives target ids ≡ true
told-refs target ids part are refers = by ids (ap (list_any (is_to (λ other. eqb other target))) are ∙ refers)
  where
    by : (some : List ℕ) → list_any (is_to (λ other. eqb other target)) (refs_to some) ≡ true → lives target some ≡ true
    by [] e = absurd (false≢true e)
    by (id ∷ some) e = elim (or_cases (eqb id target) (list_any (is_to (λ other. eqb other target)) (refs_to some)) e) [
      | inl here ↦ or_left (eqb id target) (lives target some) here
      | inr there ↦ or_right (eqb id target) (lives target some) (by some there)
    ]

-- what stands under a kind stands among the first entries, or is the next one
pub under-more : (target : ℕ) (kind : Name) (entries : List (Name × Part)) (entry : Name × Part) → refers_to target (under kind (entries ++ entry ∷ [])) ≡ true
    → (refers_to target (under kind entries) ≡ true) ⊎ ((bytes_eq kind entry.0 ≡ true) × (refers_to target (Some entry.1) ≡ true))
under-more target kind [] entry refers = by (bytes_eq kind entry.0) refers
  where
    by : (b : Bool) → refers_to target (cond b (Some entry.1) None) ≡ true → (false ≡ true) ⊎ ((b ≡ true) × (refers_to target (Some entry.1) ≡ true))
    by true e = inr (refl, e)
    by false e = inl e
under-more target kind (first ∷ entries) entry refers = by (bytes_eq kind first.0) (under-more target kind entries entry) refers
  where
    by : (b : Bool) → (refers_to target (under kind (entries ++ entry ∷ [])) ≡ true → (refers_to target (under kind entries) ≡ true) ⊎ ((bytes_eq kind entry.0 ≡ true) × (refers_to target (Some entry.1) ≡ true)))
        → refers_to target (cond b (Some first.1) (under kind (entries ++ entry ∷ []))) ≡ true
        → (refers_to target (cond b (Some first.1) (under kind entries)) ≡ true) ⊎ ((bytes_eq kind entry.0 ≡ true) × (refers_to target (Some entry.1) ≡ true))
    by true later e = inl e
    by false later e = later e

-- ---- worlds

-- what a stored entity is a reference to lives
ref-lives : (roll : Roll) → IsRoll roll → (target : ℕ) (entity : LifeAt) → is_to (λ other. eqb other target) (ref_to roll entity) ≡ true → lives target (ids_in roll) ≡ true
ref-lives roll is target entity to = by (is_life entity.generation (living roll.births entity.id)) to
  where
    at : (o : Option ℕ) → id_at roll entity.id ≡ o → is_to (λ other. eqb other target) (reference o) ≡ true → lives target (ids_in roll) ≡ true
    at None e never = absurd (false≢true never)
    at (Some id) e same = lives-index roll target ∙ ap is_some (index-of-id roll is target entity.id (e ∙ ap Some (eqb-true id target same)))

    by : (b : Bool) → is_to (λ other. eqb other target) (reference (cond b (id_at roll entity.id) None)) ≡ true → lives target (ids_in roll) ≡ true
    by true e = at (id_at roll entity.id) refl e
    by false e = absurd (false≢true e)

-- so do all that a stored part names
refs-live : (roll : Roll) → IsRoll roll → (target : ℕ) (named : List LifeAt) → list_any (is_to (λ other. eqb other target)) (map (ref_to roll) named) ≡ true → lives target (ids_in roll) ≡ true
refs-live roll is target [] e = absurd (false≢true e)
refs-live roll is target (entity ∷ named) e = elim (or_cases (is_to (λ other. eqb other target) (ref_to roll entity)) (list_any (is_to (λ other. eqb other target)) (map (ref_to roll) named)) e) [
  | inl here ↦ ref-lives roll is target entity here
  | inr there ↦ refs-live roll is target named there
]

-- and so does each to whom a part refers
parts-live : {V : Type 0} (kinds : Kinds V) (w : Slots V) → MayAct kinds w → (holder target : ℕ) (kind : Name) → refers_to target ((plain_of kinds (seen_of w)).part holder kind) ≡ true → lives target (plain_of kinds (seen_of w)).ids ≡ true
parts-live kinds w may holder target kind refers = by (is_among kind kinds.part_names) (index_of (roll_of kinds (seen_of w)) holder) refers
  where
    at : (held : Option Stored) → refers_to target (option_map (part_under (ref_to (roll_of kinds (seen_of w)))) held) ≡ true → lives target (ids_in (roll_of kinds (seen_of w))) ≡ true
    at None e = absurd (false≢true e)
    at (Some stored) e = refs-live (roll_of kinds (seen_of w)) may.roll target stored.named e

    by : (b : Bool) (o : Option ℕ) → refers_to target (cond b (option_and_then (λ index. option_map (part_under (ref_to (roll_of kinds (seen_of w)))) (column_of kinds (seen_of w) kind index)) o) None) ≡ true
        → lives target (ids_in (roll_of kinds (seen_of w))) ≡ true
    by true None e = absurd (false≢true e)
    by true (Some index) e = at (column_of kinds (seen_of w) kind index) e
    by false o e = absurd (false≢true e)

module _ {V : Type 0} (kinds : Kinds V) (w : Slots V) (old new : Holders) (covers : Covers kinds old w) (grows : Grows old new) where
  -- an index that grew covers what it covered
  covers-still : Covers kinds new w
  covers-still = record { chained = grows.chained; linked = λ made holder target holds. grows.kept holder target (covers.linked (sym grows.made ∙ made) holder target holds) }

  -- a kill brings nothing to note
  pub kill-foreseen : (id : ℕ) → Foresees kinds (kill id) w new
  kill-foreseen id = record {
    now = covers-still;
    after = λ later acts. record {
      chained = grows.chained;
      linked = λ made holder target holds. covers-still.linked made holder target (kill-brings kinds.owning kinds.part_names (plain_of kinds (seen_of w)) (plain_of kinds (seen_of later)) holder target id acts holds);
    };
  }

  -- nor does a part that is taken
  pub take-foreseen : (id : ℕ) (kind : Name) → Foresees kinds (take id kind) w new
  take-foreseen id kind = record {
    now = covers-still;
    after = λ later acts. record {
      chained = grows.chained;
      linked = λ made holder target holds. covers-still.linked made holder target (take-brings kinds.owning kinds.part_names (plain_of kinds (seen_of w)) (plain_of kinds (seen_of later)) holder target id kind acts holds);
    };
  }

  -- a part that is put was foreseen where its references are noted
  pub put-foreseen : (id : ℕ) (kind : Name) (part : Part) → (old.made ≡ true → kinds.owning kind ≡ true → (target : ℕ) → refers_to target (Some part) ≡ true → Holds new.links.items id target) → Foresees kinds (put id kind part) w new
  put-foreseen id kind part noted = record {
    now = covers-still;
    after = λ later acts. record {
      chained = grows.chained;
      linked = λ made holder target holds.
          elim (put-brings kinds.owning kinds.part_names (plain_of kinds (seen_of w)) (plain_of kinds (seen_of later)) holder target id kind part acts holds) [
            | inl before ↦ covers-still.linked made holder target before
            | inr new_one ↦ subst (λ one. Holds new.links.items one target) (sym new_one.0) (noted (sym grows.made ∙ made) new_one.1 target new_one.2)
          ];
    };
  }

  -- and a newborn where those of its parts are
  pub spawn-foreseen : MayAct kinds w → (parts : List (Name × Part)) (next : ℕ) → next ≡ (roll_of kinds (seen_of w)).noting.next
      → (old.made ≡ true → (kind : Name) → kinds.owning kind ≡ true → (target : ℕ) → refers_to target (under kind parts) ≡ true → Holds new.links.items next target) → Foresees kinds (spawn parts) w new
  spawn-foreseen may parts next is noted = record {
    now = covers-still;
    after = λ later acts. record {
      chained = grows.chained;
      linked = λ made holder target holds.
          elim (spawn-brings kinds.owning kinds.part_names (plain_of kinds (seen_of w)) (plain_of kinds (seen_of later)) holder target parts (parts-live kinds w may holder target) acts holds) [
            | inl before ↦ covers-still.linked made holder target before
            | inr newborn ↦ subst (λ one. Holds new.links.items one target) (is ∙ sym newborn.0) (noted (sym grows.made ∙ made) newborn.1 newborn.2 target newborn.3)
          ];
    };
  }

-- a kill leaves an index that covers what it leaves
pub kill-covers : {V : Type 0} (kinds : Kinds V) (w later : Slots V) (holders : Holders) (id : ℕ) → Covers kinds holders w → apply (owning_in kinds) (kill id) (plain_of kinds (seen_of w)) ≡ changed (plain_of kinds (seen_of later)) → Covers kinds holders later
kill-covers kinds w later holders id covers acts = (kill-foreseen kinds w holders holders covers (grows-not holders covers.chained) id).after later acts

-- and so does a command that was foreseen, done or skipped
pub foreseen-covers : {V : Type 0} (kinds : Kinds V) (command : Command) (done : Bool) (w later : Slots V) (holders : Holders) → Foresees kinds command w holders → Acts kinds command done w later → Covers kinds holders later
foreseen-covers kinds command true w later holders foresees acts = foresees.after later acts
foreseen-covers kinds command false w later holders foresees acts = subst (Covers kinds holders) (sym acts.1) foresees.now
