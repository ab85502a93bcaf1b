-- Who holds a reference that is gone, and the least of them.
use Rattle.std.proofs.Common.{◌≡◌, ◌<◌, ◌≤◌, ◌+◌, ℕ, suc, Bool, true, false, cond, eqb, ◌||◌, ◌⊎◌, inl, inr, ⊎_elim, List, [], ◌∷◌, ◌++◌, All, length, get_or, map, take, Option, Some, None, is_some, refl, ap, sym, ◌∙◌, subst, arith}
use Rattle.std.specs.Prelude.{IsSome, option_and_then, option_map}
use Rattle.std.specs.List.{list_any, find}
use Rattle.std.proofs.lemmas.Bool.{true≢false, false≢true, eqb-true, eq-eqb, or_right}
use Rattle.std.proofs.lemmas.List.Folds.{list_any_more, list_any_at, list_any-append}
use Rattle.std.proofs.Math.ListN.{get_or-map}
use Rattle.std.proofs.lemmas.List.{length-map, map-append, take_more}
use denote.Ref.{Bor}
use Rattle.scene_model.specs.Declaring.{texts}
use Rattle.std.proofs.lemmas.Slice.Eq.{bytes_eq-Decides}
use Rattle.std.specs.Str.{bytes_eq}
use Rattle.hibitset_sets.specs.Walk.{walk}
use Rattle.hibitset_sets.proofs.CallerLemmas.{any-walk}
use Rattle.specs_entity.specs.Births.{Births, IsAlive, CanKill, living, all_living, entity_at}
use Rattle.specs_entity.specs.Life.{Life, LifeAt}
use Rattle.scene_model.specs.Parts.{Name, Ref, is_among}
use Rattle.scene_model.specs.Scenes.{lives, IdsAscend}
use Rattle.scene_model.specs.Commands.{is_gone, holds_gone}
use Rattle.scene_model.proofs.CallerLemmas.{front_at}
use Rattle.scene_world.specs.Stored.{Stored, part_under}
use Rattle.scene_world.specs.Rolls.{Roll, IsRoll, is_life, reference, id_at, index_of, ids_in, part_in, ref_to}
use Rattle.scene_world.proofs.CallerLemmas.{life-is, living-lives, lives-index, ids-ascend, index-of-id}
use Rattle.scene_world.specs.Putting.{named_in}
use Rattle.scene_commands.specs.Acts.{entity_under}
use Rattle.scene_world.specs.Standing.{Kinds, Sight, roll_of, column_of}
use Rattle.scene_commands.specs.Gone.{AreLiving, IsAtMost, IsLesser, IsLesserIf, any_gone, names_some, refers_among}
use Rattle.scene_commands.proofs.LookLemmas.{lives-under, under-is, index-under}

-- the entities that live, as they are listed, are those
pub are-living : (births : Births) (entities : List LifeAt) → ((index : ℕ) → IsSome (living births index) → index < 16777216) → entities ≡ all_living births → CanKill (living births) entities → AreLiving births entities
are-living births entities bounded are can = record { alive = can.alive; all = λ entity alive. subst (λ list. list_any (λ one. eqb one.id entity.id) list ≡ true) (sym are) (listed entity alive) }
  where
    mapped : (index : ℕ) (walked : List ℕ) → list_any (eqb index) walked ≡ true → list_any (λ one. eqb one.id index) (map (entity_at births) walked) ≡ true
    mapped index [] e = absurd (false≢true e)
    mapped index (first ∷ walked) e = by (eqb index first) refl e (mapped index walked)
      where
        by : (b : Bool) → eqb index first ≡ b → (b || list_any (eqb index) walked) ≡ true → (list_any (eqb index) walked ≡ true → list_any (λ one. eqb one.id index) (map (entity_at births) walked) ≡ true)
            → (eqb first index || list_any (λ one. eqb one.id index) (map (entity_at births) walked)) ≡ true
        by true is f later = ap (λ b. b || list_any (λ one. eqb one.id index) (map (entity_at births) walked)) (eq-eqb first index (sym (eqb-true index first is)))
        by false is f later = or_right (eqb first index) (list_any (λ one. eqb one.id index) (map (entity_at births) walked)) (later f)

    listed : (entity : LifeAt) → IsAlive births entity → list_any (λ one. eqb one.id entity.id) (all_living births) ≡ true
    listed entity alive =
        let there : is_some (living births entity.id) ≡ true = ap is_some alive in
        mapped entity.id (walk (λ index. is_some (living births index))) (any-walk (λ index. is_some (living births index)) entity.id (bounded entity.id there) there)

-- the least of those that pass a test, among ids that ascend, is the first of them that is found
pub find-least : (test : ℕ → Bool) (ids : List ℕ) (least : Option ℕ) → IdsAscend ids → ((id : ℕ) → least ≡ Some id → (lives id ids ≡ true) × (test id ≡ true)) → ((id : ℕ) → lives id ids ≡ true → test id ≡ true → IsAtMost least id)
    → least ≡ find test ids
find-least test [] None ascend is below = refl
find-least test [] (Some id) ascend is below = absurd (false≢true (is id refl).0)
find-least test (first ∷ ids) least ascend is below = by (test first) refl (find-least test ids least (λ i j d lower within. ascend (suc i) (suc j) d (omega (arith, lower)) (omega (arith, within))))
  where
    later : (id : ℕ) → lives id ids ≡ true → first < id
    later id on = after ids (λ j d lower. ascend 0 (suc j) d (omega arith) (omega (arith, lower))) on
      where
        after : (ids : List ℕ) → ((j d : ℕ) → j < length ids → first < get_or ids j d) → lives id ids ≡ true → first < id
        after [] above on = absurd (false≢true on)
        after (x ∷ ids) above on = at (eqb x id) refl on (after ids (λ j d lower. above (suc j) d (omega (arith, lower))))
          where
            at : (b : Bool) → eqb x id ≡ b → (b || lives id ids) ≡ true → (lives id ids ≡ true → first < id) → first < id
            at true same f more = subst (λ n. first < n) (eqb-true x id same) (above 0 x (omega arith))
            at false differ f more = more f

    or-on : (id : ℕ) → lives id ids ≡ true → (eqb first id || lives id ids) ≡ true
    or-on id on = by (eqb first id)
      where
        by : (b : Bool) → (b || lives id ids) ≡ true
        by true = refl
        by false = on

    -- where the first passes, it is the least
    passes : test first ≡ true → (o : Option ℕ) → least ≡ o → least ≡ Some first
    passes ok None e = absurd (subst (λ o. IsAtMost o first) e (below first (ap (λ b. b || lives first ids) (eq-eqb first first refl)) ok))
    passes ok (Some id) e =
        let at_most : id ≤ first = subst (λ o. IsAtMost o first) e (below first (ap (λ b. b || lives first ids) (eq-eqb first first refl)) ok) in
        e ∙ ap Some (same id at_most (eqb first id) refl (is id e).0)
      where
        same : (id : ℕ) → id ≤ first → (b : Bool) → eqb first id ≡ b → (b || lives id ids) ≡ true → id ≡ first
        same id at_most true at f = sym (eqb-true first id at)
        same id at_most false at f = let wrong : ⊥ = let lower = later id f in omega (arith, lower, at_most) in absurd wrong

    off : test first ≡ false → (id : ℕ) → least ≡ Some id → lives id ids ≡ true
    off fails id e = at (eqb first id) refl (is id e).0
      where
        at : (b : Bool) → eqb first id ≡ b → (b || lives id ids) ≡ true → lives id ids ≡ true
        at true same f = absurd (true≢false (sym (ap test (eqb-true first id same) ∙ (is id e).1) ∙ fails))
        at false differ f = f

    by : (b : Bool) → test first ≡ b → (((id : ℕ) → least ≡ Some id → (lives id ids ≡ true) × (test id ≡ true)) → ((id : ℕ) → lives id ids ≡ true → test id ≡ true → IsAtMost least id) → least ≡ find test ids)
        → least ≡ cond (test first) (Some first) (find test ids)
    by true ok rest = passes ok least refl ∙ sym (ap (λ b. cond b (Some first) (find test ids)) ok)
    by false fails rest = rest (λ id e. (off fails id e, (is id e).1)) (λ id on ok. below id (or-on id on) ok) ∙ sym (ap (λ b. cond b (Some first) (find test ids)) fails)

-- whether a part that is stored refers to somebody who is gone, by the entities that it names
pub holds-named : (ref : LifeAt → Ref) (stored : Option Stored) → holds_gone (option_map (part_under ref) stored) ≡ list_any is_gone (map ref (named_in stored))
holds-named ref None = refl
holds-named ref (Some one) = refl

-- whoever holds a reference that is gone under one of some kinds refers to somebody under one of them
pub refers-gone : {V : Type 0} (kinds : Kinds V) (w : Sight V) (names : List Name) (index : ℕ) → any_gone kinds w names index ≡ true → refers_among kinds w names index ≡ true
refers-gone kinds w [] index held = held
refers-gone kinds w (kind ∷ names) index held = here (named_in (column_of kinds w kind index)) refl (refers-gone kinds w names index)
  where
    here : (named : List LifeAt) → named_in (column_of kinds w kind index) ≡ named → (any_gone kinds w names index ≡ true → refers_among kinds w names index ≡ true) → refers_among kinds w (kind ∷ names) index ≡ true
    here [] is later =
        let clear : holds_gone (option_map (part_under (ref_to (roll_of kinds w))) (column_of kinds w kind index)) ≡ false =
        holds-named (ref_to (roll_of kinds w)) (column_of kinds w kind index) ∙ ap (λ list. list_any is_gone (map (ref_to (roll_of kinds w)) list)) is in
        or_right (names_some (named_in (column_of kinds w kind index))) (refers_among kinds w names index)
        (later (sym (ap (λ b. b || any_gone kinds w names index) clear) ∙ held))
    here (one ∷ more) is later = ap (λ list. names_some list || refers_among kinds w names index) is

module _ (roll : Roll) where
  -- who isn't alive is gone
  pub dead-gone : (entity : LifeAt) → is_life entity.generation (living roll.births entity.id) ≡ false → is_gone (ref_to roll entity) ≡ true
  dead-gone entity dead = ap (λ b. is_gone (reference (cond b (id_at roll entity.id) None))) dead

  -- who is alive is the one that lives at its index
  alive-is : (entity : LifeAt) → is_life entity.generation (living roll.births entity.id) ≡ true → IsAlive roll.births entity
  alive-is entity alive = by (living roll.births entity.id) refl
    where
      by : (o : Option Life) → living roll.births entity.id ≡ o → living roll.births entity.id ≡ Some entity.generation
      by None e = absurd (false≢true (sym (ap (is_life entity.generation) e) ∙ alive))
      by (Some life) e = e ∙ ap Some (life-is entity.generation life (living-lives roll.births entity.id life e) (sym (ap (is_life entity.generation) e) ∙ alive))

  -- who is alive has an id
  pub alive-marked : IsRoll roll → (entity : LifeAt) → is_life entity.generation (living roll.births entity.id) ≡ true → (id : ℕ) × (id_at roll entity.id ≡ Some id)
  alive-marked is entity alive = by (living roll.births entity.id) refl
    where
      by : (o : Option Life) → living roll.births entity.id ≡ o → (id : ℕ) × (id_at roll entity.id ≡ Some id)
      by None e = absurd (false≢true (sym (ap (is_life entity.generation) e) ∙ alive))
      by (Some life) e =
          let mark = is.marked entity.id life e in
          (mark.0, ap (λ o. cond (is_some o) (roll.marker entity.id) None) e ∙ mark.1.marker)

  -- and isn't gone
  pub alive-there : IsRoll roll → (entity : LifeAt) → is_life entity.generation (living roll.births entity.id) ≡ true → is_gone (ref_to roll entity) ≡ false
  alive-there is entity alive = ap (λ b. is_gone (reference (cond b (id_at roll entity.id) None))) alive ∙ ap (λ o. is_gone (reference o)) (alive-marked is entity alive).1

  -- each of the entities that live does
  pub living-at : (items : List LifeAt) (k : ℕ) (entity : LifeAt) → k < length items → entity ≡ get_or items k entity → All (IsAlive roll.births) items → IsAlive roll.births entity
  living-at items k entity inside is alive = subst (λ one. IsAlive roll.births one) (sym is) (alive k entity inside)

  -- whether somebody at an index holds a reference that is gone
  module _ (holds : ℕ → Bool) where
    -- the least id of those among some entities who hold a reference that is gone
    pub record IsLeast (front : List LifeAt) (least : Option ℕ) : Type 0 where
      pub within : (id : ℕ) → least ≡ Some id → (index : ℕ) × (index_of roll id ≡ Some index) × (holds index ≡ true)
      pub below : (index id : ℕ) → list_any (λ one. eqb one.id index) front ≡ true → roll.marker index ≡ Some id → holds index ≡ true → IsAtMost least id

    module _ (items : List LifeAt) (k : ℕ) (entity : LifeAt) (inside : k < length items) (is : entity ≡ get_or items k entity) where
      -- who is among the entities up to one is among those before, or is that one
      in-front : (index : ℕ) → list_any (λ one. eqb one.id index) (take (k + 1) items) ≡ true → (list_any (λ one. eqb one.id index) (take k items) ≡ true) ⊎ (entity.id ≡ index)
      in-front index on =
          by (list_any (λ one. eqb one.id index) (take k items)) refl
          (sym (list_any_more (λ one. eqb one.id index) items k entity inside ∙ ap (λ one. list_any (λ x. eqb x.id index) (take k items) || eqb one.id index) (sym is)) ∙ on)
        where
          by : (b : Bool) → list_any (λ one. eqb one.id index) (take k items) ≡ b → (b || eqb entity.id index) ≡ true → (list_any (λ one. eqb one.id index) (take k items) ≡ true) ⊎ (entity.id ≡ index)
          by true e f = inl e
          by false e f = inr (eqb-true entity.id index f)

      -- an entity who holds none changes nothing
      least-same : (least : Option ℕ) → holds entity.id ≡ false → IsLeast (take k items) least → IsLeast (take (k + 1) items) least
      least-same least clear so = record {
        within = so.within;
        below = λ index id on marked held. ⊎_elim (λ before. so.below index id before marked held) (λ same. absurd (true≢false (sym held ∙ ap holds (sym same) ∙ clear))) (in-front index on);
      }

      -- with an entity who holds one, it is the lesser of its id and of the least so far
      least-more : IsRoll roll → (least result : Option ℕ) (id : ℕ) → IsAlive roll.births entity → roll.marker entity.id ≡ Some id → holds entity.id ≡ true → IsLesser least id result → IsLeast (take k items) least
          → IsLeast (take (k + 1) items) result
      least-more rolls least result id alive marked held lesser so = record {
        within = λ number e. ⊎_elim (λ same. (entity.id, subst (λ n. index_of roll n ≡ Some entity.id) (sym same) placed, held)) (λ before. so.within number before) (lesser.one number e);
        below = λ index number on mark holding. ⊎_elim (λ before. at_most least refl number (so.below index number before mark holding))
            (λ same. let one : number ≡ id = let both : Some number ≡ Some id = sym mark ∙ ap roll.marker (sym same) ∙ marked in cc in subst (IsAtMost result) (sym one) lesser.other) (in-front index on);
      }
        where
          placed : index_of roll id ≡ Some entity.id
          placed = index-of-id roll rolls id entity.id (ap (λ o. cond (is_some o) (roll.marker entity.id) None) alive ∙ marked)

          further : (o : Option ℕ) (number other : ℕ) → number ≤ other → IsAtMost o number → IsAtMost o other
          further None number other up so_far = so_far
          further (Some one) number other up so_far = omega (arith, up, so_far)

          at_most : (o : Option ℕ) → least ≡ o → (number : ℕ) → IsAtMost least number → IsAtMost result number
          at_most None e number low = absurd (subst (λ o. IsAtMost o number) e low)
          at_most (Some one) e number low = further result one number (subst (λ o. IsAtMost o number) e low) (lesser.before one e)

      pub least-next : IsRoll roll → (counts : Bool) (least result : Option ℕ) (id : ℕ) → IsAlive roll.births entity → roll.marker entity.id ≡ Some id → counts ≡ holds entity.id → IsLesserIf counts least id result
          → IsLeast (take k items) least → IsLeast (take (k + 1) items) result
      least-next rolls true least result id alive marked held lesser so = least-more rolls least result id alive marked (sym held) lesser so
      least-next rolls false least result id alive marked clear same so = subst (λ o. IsLeast (take (k + 1) items) o) (sym same) (least-same least (sym clear) so)

    -- the least id among all who live and hold one is the first that is found
    pub least-found : (test : ℕ → Bool) → ((id index : ℕ) → index_of roll id ≡ Some index → test id ≡ holds index) → (entities : List LifeAt) (least : Option ℕ)
        → ((entity : LifeAt) → IsAlive roll.births entity → holds entity.id ≡ true → list_any (λ one. eqb one.id entity.id) entities ≡ true) → IsLeast entities least
        → least ≡ find test (ids_in roll)
    least-found test tests entities least are so =
        find-least test (ids_in roll) least (ids-ascend roll)
        (λ id e. let found = so.within id e in (lives-index roll id ∙ ap is_some found.1, tests id found.0 found.1 ∙ found.2))
        (λ id on ok. by id (entity_under roll id) refl (sym (lives-under roll id) ∙ on) ok)
      where
        by : (id : ℕ) (o : Option LifeAt) → entity_under roll id ≡ o → is_some o ≡ true → test id ≡ true → IsAtMost least id
        by id None e there ok = absurd (false≢true there)
        by id (Some entity) e there ok =
            let known = under-is roll id entity e in
            let placed : index_of roll id ≡ Some entity.id = index-under roll id ∙ ap (option_map (λ one. one.id)) e in
            let held : holds entity.id ≡ true = sym (tests id entity.id placed) ∙ ok in
            so.below entity.id id (are entity (alive-is entity known.alive) held) known.marked held

-- whether an id has a part that refers to somebody who is gone, by the index at which it stands
pub test-at : (roll : Roll) (names : List Name) (column : Name → ℕ → Option Stored) (id index : ℕ) → index_of roll id ≡ Some index
    → list_any (λ kind. holds_gone (cond (is_among kind names) (part_in roll (column kind) id) None)) names ≡ list_any (λ kind. holds_gone (option_map (part_under (ref_to roll)) (column kind index))) names
test-at roll names column id index at = among names (λ kind known. known)
  where
    by_id : Name → Bool
    by_id kind = holds_gone (cond (is_among kind names) (part_in roll (column kind) id) None)

    by_index : Name → Bool
    by_index kind = holds_gone (option_map (part_under (ref_to roll)) (column kind index))

    one : (kind : Name) → is_among kind names ≡ true → by_id kind ≡ by_index kind
    one kind known = ap (λ b. holds_gone (cond b (part_in roll (column kind) id) None)) known ∙ ap (λ o. holds_gone (option_and_then (λ i. option_map (part_under (ref_to roll)) (column kind i)) o)) at

    among : (some : List Name) → ((kind : Name) → is_among kind some ≡ true → is_among kind names ≡ true) → list_any by_id some ≡ list_any by_index some
    among [] known = refl
    among (kind ∷ some) known =
        ap (λ b. b || list_any by_id some) (one kind (known kind (ap (λ b. b || is_among kind some) ((bytes_eq-Decides kind kind).1 refl))))
        ∙ ap (λ b. by_index kind || b) (among some (λ other on. known other (or_right (bytes_eq other kind) (is_among other some) on)))

-- where one of a list passes, one does
pub any-here : {X Y : Type 0} (f : X → Y) (xs : List X) (k : ℕ) (d : X) → k < length xs → (p : Y → Bool) → p (f (get_or xs k d)) ≡ true → list_any p (map f xs) ≡ true
any-here f xs k d inside p ok = list_any_at p (map f xs) k (f d) (subst (λ n. k < n) (sym (length-map xs f)) inside) (ap p (get_or-map f xs k d) ∙ ok)

-- a list of entities up to one that is gone, and up to one that is there
module _ (roll : Roll) (items : List LifeAt) (k : ℕ) (entity : LifeAt) (inside : k < length items) (is : entity ≡ get_or items k entity) where
  pub one-gone : is_life entity.generation (living roll.births entity.id) ≡ false → list_any is_gone (map (ref_to roll) items) ≡ true
  one-gone dead =
      any-here (ref_to roll) items k entity inside is_gone (ap (λ one. is_gone (ref_to roll one)) (sym is) ∙ dead-gone roll entity dead)

  pub still-there : IsRoll roll → is_life entity.generation (living roll.births entity.id) ≡ true → list_any is_gone (map (ref_to roll) (take k items)) ≡ false → list_any is_gone (map (ref_to roll) (take (k + 1) items)) ≡ false
  still-there rolls alive none =
      ap (list_any is_gone) (front_at (ref_to roll) items k entity inside is) ∙ list_any-append is_gone (map (ref_to roll) (take k items)) (ref_to roll entity ∷ [])
      ∙ ap (λ b. b || (is_gone (ref_to roll entity) || false)) none ∙ ap (λ b. b || false) (alive-there roll rolls entity alive)

-- ---- kinds whose parts may refer to an entity

-- no test that always fails finds one
find-none : (test : ℕ → Bool) (ids : List ℕ) → ((id : ℕ) → test id ≡ false) → find test ids ≡ None
find-none test [] fails = refl
find-none test (id ∷ ids) fails = ap (λ b. cond b (Some id) (find test ids)) (fails id) ∙ find-none test ids fails

-- where at no index a part refers to somebody who is gone, no id has one
pub none-gone : (roll : Roll) (names : List Name) (column : Name → ℕ → Option Stored) → ((index : ℕ) → list_any (λ kind. holds_gone (option_map (part_under (ref_to roll)) (column kind index))) names ≡ false)
    → find (λ id. list_any (λ kind. holds_gone (cond (is_among kind names) (part_in roll (column kind) id) None)) names) (ids_in roll) ≡ None
none-gone roll names column none = find-none _ (ids_in roll) (λ id. by id (index_of roll id) refl)
  where
    never : (id : ℕ) → index_of roll id ≡ None → (kinds : List Name) → list_any (λ kind. holds_gone (cond (is_among kind names) (part_in roll (column kind) id) None)) kinds ≡ false
    never id at [] = refl
    never id at (kind ∷ kinds) =
        let one : holds_gone (cond (is_among kind names) (part_in roll (column kind) id) None) ≡ false =
        ap (λ o. holds_gone (cond (is_among kind names) (option_and_then (λ index. option_map (part_under (ref_to roll)) (column kind index)) o) None)) at ∙ nothing (is_among kind names) in
        ap (λ b. b || list_any (λ kind. holds_gone (cond (is_among kind names) (part_in roll (column kind) id) None)) kinds) one ∙ never id at kinds
      where
        nothing : (b : Bool) → holds_gone (cond b None None) ≡ false
        nothing true = refl
        nothing false = refl

    by : (id : ℕ) (o : Option ℕ) → index_of roll id ≡ o → list_any (λ kind. holds_gone (cond (is_among kind names) (part_in roll (column kind) id) None)) names ≡ false
    by id None at = never id at names
    by id (Some index) at = test-at roll names column id index at ∙ none index

-- one kind more: it was taken, or nobody holds a gone reference under it
module _ (holds : Name → Bool) (kinds names : List (Bor Name)) (k : ℕ) (d : Bor Name) (inside : k < length names) (same : list_any holds (texts kinds) ≡ list_any holds (texts (take k names))) where
  one-more : list_any holds (texts (take (k + 1) names)) ≡ (list_any holds (texts kinds) || (holds (get_or names k d).now || false))
  one-more =
      ap (λ list. list_any holds (texts list)) (take_more names k d inside) ∙ ap (list_any holds) (map-append (λ (name : Bor Name). name.now) (take k names) (get_or names k d ∷ []))
      ∙ list_any-append holds (texts (take k names)) ((get_or names k d).now ∷ []) ∙ ap (λ b. b || (holds (get_or names k d).now || false)) (sym same)

  pub kind-taken : list_any holds (texts (kinds ++ get_or names k d ∷ [])) ≡ list_any holds (texts (take (k + 1) names))
  kind-taken =
      ap (list_any holds) (map-append (λ (name : Bor Name). name.now) kinds (get_or names k d ∷ []))
      ∙ list_any-append holds (texts kinds) ((get_or names k d).now ∷ []) ∙ sym one-more

  pub kind-left : holds (get_or names k d).now ≡ false → list_any holds (texts kinds) ≡ list_any holds (texts (take (k + 1) names))
  kind-left none = or-false (list_any holds (texts kinds)) ∙ sym (one-more ∙ ap (λ b. list_any holds (texts kinds) || (b || false)) none)
    where
      or-false : (b : Bool) → b ≡ (b || false)
      or-false true = refl
      or-false false = refl
