-- Of the living marked entities, the last with an id is the one that stays noted under it.
use Rattle.std.proofs.Common.{◌≡◌, ℕ, zero, suc, ◌+◌, ◌<◌, ◌≤◌, ◌⊎◌, Bool, true, false, cond, List, [], ◌∷◌, filter, Some, None, Option, is_some, IsSome, option_map, unwrap_or, inl, inr, refl, sym, ap, subst, ◌∙◌, arith}
use Rattle.std.proofs.lemmas.Bool.{false≢true}
use Rattle.std.specs.Cmp.{IsEquivalence}
use Rattle.std.specs.List.{range_with_len, cons_option}
use Rattle.std.specs.Map.{update, update_all}
use Rattle.hibitset_sets.specs.Walk.{walk}
use Rattle.specs_entity.specs.Births.{Births, IsAlive, living}
use Rattle.specs_entity.specs.Life.{Life, LifeAt}
use Rattle.specs_join.specs.Joins.{values_at, both, living_entity}
use Rattle.specs_layouts.specs.ToCome.{IsToCome}
use Rattle.specs_layouts.proofs.CallerLemmas.{walk-come}
use Rattle.specs_markers.specs.Marks.{IsMarked, IsLastMarked, IsNoteOfLast}
use Rattle.specs_markers.specs.Noting.{marked_list, pairs_of}
use Rattle.specs_join.proofs.CallerLemmas.{walk-is}

-- ---- a walk ascends

-- each index of a list is less than those after it
abbrev Rises : List ℕ → Type 0
Rises [] = Unit {0}
Rises (first ∷ rest) = ((other : ℕ) → IsToCome other rest → first < other) × Rises rest

test-from : (p : ℕ → Bool) (a index : ℕ) (rest : List ℕ) (test : Bool) → ((other : ℕ) → IsToCome other rest → a + 1 ≤ other) → IsToCome index (cond test (a ∷ rest) rest) → a ≤ index
test-from p a index rest true from (inl here) = omega (arith, here)
test-from p a index rest true from (inr there) = let after = from index there in omega (arith, after)
test-from p a index rest false from there = let after = from index there in omega (arith, after)

filter-from : (n a : ℕ) (p : ℕ → Bool) (index : ℕ) → IsToCome index (filter p (range_with_len a n)) → a ≤ index
filter-from zero a p index come = absurd come
filter-from (suc n) a p index come = test-from p a index (filter p (range_with_len (a + 1) n)) (p a) (filter-from n (a + 1) p) come

above : (a other : ℕ) → a + 1 ≤ other → a < other
above a other least = omega (arith, least)

test-rises : (a : ℕ) (rest : List ℕ) (test : Bool) → ((other : ℕ) → IsToCome other rest → a + 1 ≤ other) → Rises rest → Rises (cond test (a ∷ rest) rest)
test-rises a rest true from rises = (λ other come. above a other (from other come), rises)
test-rises a rest false from rises = rises

filter-rises : (n a : ℕ) (p : ℕ → Bool) → Rises (filter p (range_with_len a n))
filter-rises zero a p = tt
filter-rises (suc n) a p = test-rises a (filter p (range_with_len (a + 1) n)) (p a) (filter-from n (a + 1) p) (filter-rises n (a + 1) p)

pub rises-of : (p : ℕ → Bool) (count : ℕ) (indices : List ℕ) → indices ≡ filter p (range_with_len 0 count) → Rises indices
rises-of p count indices is = subst Rises (sym is) (filter-rises count 0 p)

walk-rises : (p : ℕ → Bool) → Rises (walk p)
walk-rises p = rises-of p 16777216 (walk p) (walk-is p)

-- ---- the items of a list of indices

-- an item stands in a list
abbrev IsIn : {X : Type 0} → X → List X → Type 0
IsIn item [] = ⊥
IsIn item (first ∷ rest) = (first ≡ item) ⊎ IsIn item rest

module _ {X : Type 0} (values : ℕ → Option X) where
  in-cons : (item : X) (value : Option X) (rest : List X) → IsIn item (cons_option value rest) → (value ≡ Some item) ⊎ IsIn item rest
  in-cons item None rest is = inr is
  in-cons item (Some first) rest (inl here) = inl (ap Some here)
  in-cons item (Some first) rest (inr there) = inr there

  cons-here : (item : X) (value : Option X) (rest : List X) → value ≡ Some item → IsIn item (cons_option value rest)
  cons-here item value rest is = subst (λ v. IsIn item (cons_option v rest)) (sym is) (inl refl)

  cons-there : (item : X) (value : Option X) (rest : List X) → IsIn item rest → IsIn item (cons_option value rest)
  cons-there item None rest is = is
  cons-there item (Some first) rest is = inr is

  -- an item is that of an index of the list
  index-of : (indices : List ℕ) (item : X) → IsIn item (values_at values indices) → (index : ℕ) × IsToCome index indices × (values index ≡ Some item)
  index-of [] item is = absurd is
  index-of (first ∷ rest) item is = elim (in-cons item (values first) (values_at values rest) is) [
    | inl here ↦ (first, inl refl, here)
    | inr there ↦ let later = index-of rest item there in (later.0, inr later.1, later.2)
  ]

  -- an index of the list has its item there
  item-of : (indices : List ℕ) (index : ℕ) (item : X) → IsToCome index indices → values index ≡ Some item → IsIn item (values_at values indices)
  item-of [] index item come is = absurd come
  item-of (first ∷ rest) index item (inl here) is = cons-here item (values first) (values_at values rest) (ap values here ∙ is)
  item-of (first ∷ rest) index item (inr there) is = cons-there item (values first) (values_at values rest) (item-of rest index item there is)

-- ---- the last with an id

-- each item's index is less than those of the items after it
abbrev Ascends : {M : Type 0} → List (LifeAt × M) → Type 0
Ascends [] = Unit {0}
Ascends {M} (first ∷ rest) = ((other : LifeAt × M) → IsIn other rest → first.0.id < other.0.id) × Ascends rest

module _ {M I : Type 0} (id_of : M → I) where
  -- no item of a list has an id
  abbrev Lacks : List (LifeAt × M) → I → Type 0
  Lacks items q = (item : LifeAt × M) → IsIn item items → id_of item.1 ≡ q → ⊥

  -- an item of a list has the id, and no other with it has a greater index
  record IsLast (items : List (LifeAt × M)) (q : I) (item : LifeAt × M) : Type 0 where
    is : IsIn item items
    id : id_of item.1 ≡ q
    last : (other : LifeAt × M) → IsIn other items → id_of other.1 ≡ q → other.0.id ≤ item.0.id

  -- what is looked up under an id: what was there where no item has it, else the entity of the last that has it
  abbrev Reads : List (LifeAt × M) → I → Option LifeAt → Option LifeAt → Type 0
  Reads items q before after = (Lacks items q × (after ≡ before)) ⊎ ((item : LifeAt × M) × IsLast items q item × (after ≡ Some item.0))

  only-here : (first : LifeAt × M) (rest : List (LifeAt × M)) (q : I) → Lacks rest q → (other : LifeAt × M) → IsIn other (first ∷ rest) → id_of other.1 ≡ q → other.0.id ≤ first.0.id
  only-here first rest q lacks other (inl here) has = let same = ap (λ (x : LifeAt × M). x.0.id) here in omega (arith, same)
  only-here first rest q lacks other (inr there) has = absurd (lacks other there has)

  or-later : (first : LifeAt × M) (rest : List (LifeAt × M)) (q : I) (item : LifeAt × M) → ((other : LifeAt × M) → IsIn other rest → first.0.id < other.0.id) → IsLast rest q item → (other : LifeAt × M) → IsIn other (first ∷ rest) → id_of other.1 ≡ q → other.0.id ≤ item.0.id
  or-later first rest q item less found other (inl here) has =
      let same = ap (λ (x : LifeAt × M). x.0.id) here in let later = less item found.is in omega (arith, same, later)
  or-later first rest q item less found other (inr there) has = found.last other there has

  module _ (eq : I → I → Bool) (laws : IsEquivalence eq) (exact : (x y : I) → eq x y ≡ true → x ≡ y) where
    past-other : (first : LifeAt × M) (rest : List (LifeAt × M)) (q : I) (test : Bool) → eq (id_of first.1) q ≡ test → test ≡ false → Lacks rest q → Lacks (first ∷ rest) q
    past-other first rest q test is not lacks item (inl here) has =
        false≢true (sym (is ∙ not) ∙ subst (λ i. eq i q ≡ true) (sym (ap (λ (x : LifeAt × M). id_of x.1) here ∙ has)) (laws.refl q))
    past-other first rest q test is not lacks item (inr there) has = lacks item there has

    one-more : (first : LifeAt × M) (rest : List (LifeAt × M)) (q : I) (before after : Option LifeAt) (test : Bool) → eq (id_of first.1) q ≡ test → ((other : LifeAt × M) → IsIn other rest → first.0.id < other.0.id) → Reads rest q (cond test (Some first.0) before) after → Reads (first ∷ rest) q before after
    one-more first rest q before after true is less (inl lacks) =
        inr (first, record { is = inl refl; id = exact (id_of first.1) q is; last = only-here first rest q lacks.0 }, lacks.1)
    one-more first rest q before after false is less (inl lacks) = inl (past-other first rest q false is refl lacks.0, lacks.1)
    one-more first rest q before after test is less (inr found) =
        inr (found.0, record { is = inr found.1.is; id = found.1.id; last = or-later first rest q found.0 less found.1 }, found.2)

    -- pairs that are put in one after the other leave the last of each id
    reads-last : (noted : I → Option LifeAt) (items : List (LifeAt × M)) (q : I) → Ascends items → Reads items q (noted q) (update_all eq noted (pairs_of id_of items) q)
    reads-last noted [] q ascends = inl ((λ item is has. is), refl)
    reads-last noted (first ∷ rest) q ascends =
        one-more first rest q (noted q) (update_all eq noted (pairs_of id_of (first ∷ rest)) q) (eq (id_of first.1) q) refl ascends.0
        (reads-last (update eq noted (id_of first.1) (Some first.0)) rest q ascends.1)

both-parts : {A B : Type 0} (one : Option A) (other : Option B) (item : A × B) → both one other ≡ Some item → (one ≡ Some item.0) × (other ≡ Some item.1)
both-parts None other item is = absurd (false≢true (ap is_some is))
both-parts (Some one) None item is = absurd (false≢true (ap is_some is))
both-parts (Some one) (Some other) item is = (ap (option_map (λ i. i.0)) is, ap (option_map (λ i. i.1)) is)

entity-of : (index : ℕ) (life : Option Life) (entity : LifeAt) → option_map (λ (l : Life). record { id = index; generation = l }) life ≡ Some entity → (entity.id ≡ index) × (life ≡ Some entity.generation)
entity-of index None entity is = absurd (false≢true (ap is_some is))
entity-of index (Some life) entity is =
    (ap (λ o. unwrap_or (option_map (λ (e : LifeAt). e.id) o) entity.id) (sym is), ap (option_map (λ (e : LifeAt). e.generation)) is)

bearer : {M I : Type 0} (id_of : M → I) (marker : Option M) (id : I) → option_map id_of marker ≡ Some id → (m : M) × (marker ≡ Some m) × (id_of m ≡ id)
bearer id_of None id is = absurd (false≢true (ap is_some is))
bearer id_of (Some m) id is = (m, refl, ap (λ o. unwrap_or o (id_of m)) is)

module _ {M : Type 0} (births : Births) (markers : ℕ → Option M) where
  -- the item of an index: the entity that lives there, with its marker
  abbrev item_at : ℕ → Option (LifeAt × M)
  item_at index = both (living_entity births index) (markers index)

  -- an item is a living entity with its marker
  record IsItem (index : ℕ) (item : LifeAt × M) : Type 0 where
    here : item.0.id ≡ index
    alive : IsAlive births item.0
    marker : markers item.0.id ≡ Some item.1

  item-is : (index : ℕ) (item : LifeAt × M) → item_at index ≡ Some item → IsItem index item
  item-is index item is =
      let parts = both-parts (living_entity births index) (markers index) item is in
      let entity = entity-of index (living births index) item.0 parts.0 in
      record {
        here = entity.0;
        alive = ap (living births) entity.0 ∙ entity.1;
        marker = ap markers entity.0 ∙ parts.1;
      }

  is-item : (entity : LifeAt) (marker : M) → IsAlive births entity → markers entity.id ≡ Some marker → item_at entity.id ≡ Some (entity, marker)
  is-item entity marker alive has =
      ap (λ o. both (option_map (λ (l : Life). record { id = entity.id; generation = l }) o) (markers entity.id)) alive
      ∙ ap (both (Some entity)) has

  cons-ascends : (value : Option (LifeAt × M)) (rest : List (LifeAt × M)) → ((item : LifeAt × M) → value ≡ Some item → (other : LifeAt × M) → IsIn other rest → item.0.id < other.0.id) → Ascends rest → Ascends (cons_option value rest)
  cons-ascends None rest less ascends = ascends
  cons-ascends (Some item) rest less ascends = (less item refl, ascends)

  less-than : (i j first later : ℕ) → i ≡ first → j ≡ later → first < later → i < j
  less-than i j first later here there less = omega arith

  values-ascend : (indices : List ℕ) → Rises indices → Ascends (values_at item_at indices)
  values-ascend [] rises = tt
  values-ascend (first ∷ rest) rises =
      cons-ascends (item_at first) (values_at item_at rest)
      (λ item is other there.
      let later = index-of item_at rest other there in
      less-than item.0.id other.0.id first later.0 (item-is first item is).here (item-is later.0 other later.2).here (rises.0 later.0 later.1))
      (values-ascend rest rises.1)

  module _ {I : Type 0} (eq : I → I → Bool) (laws : IsEquivalence eq) (exact : (x y : I) → eq x y ≡ true → x ≡ y) (id_of : M → I) (range : (index : ℕ) → IsSome (markers index) → index < 16777216) where
    ascends : Ascends (marked_list births markers)
    ascends = values-ascend (walk (λ index. is_some (item_at index))) (walk-rises (λ index. is_some (item_at index)))

    listed : (entity : LifeAt) (marker : M) → IsAlive births entity → markers entity.id ≡ Some marker → IsIn (entity, marker) (marked_list births markers)
    listed entity marker alive has =
        let is = is-item entity marker alive has in
        item-of item_at (walk (λ index. is_some (item_at index))) entity.id (entity, marker)
        (walk-come (λ index. is_some (item_at index)) entity.id (range entity.id (ap is_some has)) (ap is_some is))
        is

    from-list : (item : LifeAt × M) → IsIn item (marked_list births markers) → IsAlive births item.0 × (markers item.0.id ≡ Some item.1)
    from-list item is =
        let from = index-of item_at (walk (λ index. is_some (item_at index))) item is in
        let found = item-is from.0 item from.2 in
        (found.alive, found.marker)

    none-marked : (q : I) → Lacks id_of (marked_list births markers) q → (entity : LifeAt) → ¬ (IsMarked id_of births markers q entity)
    none-marked q lacks entity marked =
        let bears = bearer id_of (markers entity.id) q marked.bears in
        lacks (entity, bears.0) (listed entity bears.0 marked.alive bears.1) bears.2

    last-marked : (q : I) (item : LifeAt × M) → IsLast id_of (marked_list births markers) q item → IsLastMarked id_of births markers q item.0
    last-marked q item last =
        let from = from-list item last.is in
        record {
          marked = record { alive = from.0; bears = ap (option_map id_of) from.1 ∙ ap Some last.id };
          last = λ other marked.
              let bears = bearer id_of (markers other.id) q marked.bears in
              last.last (other, bears.0) (listed other bears.0 marked.alive bears.1) bears.2;
        }

    -- what the pairs of all living marked entities leave under an id
    pub note-of-last : (q : I) (found : Option LifeAt) → found ≡ update_all eq (λ _. None) (pairs_of id_of (marked_list births markers)) q → IsNoteOfLast id_of births markers q found
    note-of-last q found is =
        elim (reads-last id_of eq laws exact (λ _. None) (marked_list births markers) q ascends) [
          | inl lacks ↦ subst (IsNoteOfLast id_of births markers q) (sym (is ∙ lacks.1)) (none-marked q lacks.0)
          | inr last ↦ subst (IsNoteOfLast id_of births markers q) (sym (is ∙ last.2)) (last-marked q last.0 last.1)
        ]
