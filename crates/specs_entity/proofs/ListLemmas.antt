-- Walks of finite sets, marks of lists of entities, and runs of deaths.
use Rattle.std.proofs.Common.{◌≡◌, ◌≢◌, ℕ, zero, suc, ◌+◌, ◌<◌, ◌≤◌, List, [], ◌∷◌, ◌++◌, Bool, true, false, cond, filter, length, get_or, take, refl, sym, ap, ◌∙◌, arith, Option, Some, None, MatchOption, not, eqb, inl, inr, subst, ◌||◌, ◌&&◌}
use Rattle.std.specs.Prelude.{IfSome}
use Rattle.std.specs.FinSet as fin
use Rattle.std.specs.Ordering.{nat_cmp}
use Rattle.std.specs.Cmp.{nat_eq_equiv, nat_cmp_total}
use Rattle.std.specs.List.{IsDistinct, list_any, AllByRecursion, range_with_len}
use Rattle.std.proofs.lemmas.Bool.{true≢false, false≢true, cases_eq, eq-eqb, eqb-true, false_from_ne_true, cases_Bool, or_from, and_parts, or_left, or_cases, not-true, or_right}
use Rattle.std.proofs.lemmas.List.{map_more}
use Rattle.std.proofs.lemmas.List.Elements.{All-more, All-nil, All-get_or}
use Rattle.std.proofs.lemmas.List.Folds.{list_any-append}
use Rattle.std.proofs.lemmas.Map.Keys.{IsDistinct-push}
use Rattle.hibitset_sets.specs.Walk.{walk}
use Rattle.hibitset_sets.proofs.CallerLemmas.{contains-with, contains-without}
use Rattle.specs_entity.specs.Life.{Life, LifeAt, first_life}
use Rattle.specs_entity.specs.Births.{Births, living, buried, settled, all_buried, all_settled, indices_of, CanKill, IsFirstFault, AreFresh, LivesBut}
use Rattle.specs_entity.proofs.BirthLemmas.{not-equal, living-buried, living-buried_other, distinct-front}

-- ---- walks

filter-same : (n a : ℕ) (p q : ℕ → Bool) → ((i : ℕ) → a ≤ i → p i ≡ q i) → filter p (range_with_len a n) ≡ filter q (range_with_len a n)
filter-same zero a p q same = refl
filter-same (suc n) a p q same =
    ap (λ b. cond b (a ∷ filter p (range_with_len (a + 1) n)) (filter p (range_with_len (a + 1) n))) (same a (omega arith))
    ∙ ap (λ xs. cond (q a) (a ∷ xs) xs) (filter-same n (a + 1) p q (λ i low. same i (omega arith)))

head-same : (x y : ℕ) (xs ys : List ℕ) → x ∷ xs ≡ y ∷ ys → x ≡ y
head-same x y xs ys h = cc

tail-same : (x y : ℕ) (xs ys : List ℕ) → x ∷ xs ≡ y ∷ ys → xs ≡ ys
tail-same x y xs ys h = cc

pub nil-cons : {A : Type 0} (x : A) (xs : List A) → [] ≡ x ∷ xs → ⊥
nil-cons x xs h = cc

and-false : (b : Bool) → (b && false) ≡ false
and-false true = refl
and-false false = refl

-- without its first item a filtered range goes on with the rest
filter-rest : (n a : ℕ) (p q : ℕ → Bool) (first : ℕ) (rest : List ℕ) → ((i : ℕ) → q i ≡ (not (eqb i first) && p i)) → filter p (range_with_len a n) ≡ first ∷ rest → (p first ≡ true) × (a ≤ first) × (filter q (range_with_len a n) ≡ rest)
filter-rest zero a p q first rest without is = absurd (nil-cons first rest is)
filter-rest (suc n) a p q first rest without is =
    elim (cases_Bool (p a)) [
      | inl holds ↦
          let whole : a ∷ filter p (range_with_len (a + 1) n) ≡ first ∷ rest = sym (ap (λ b. cond b (a ∷ filter p (range_with_len (a + 1) n)) (filter p (range_with_len (a + 1) n))) holds) ∙ is in
          let here : a ≡ first = head-same a first _ rest whole in
          let gone : q a ≡ false = without a ∙ ap (λ b. not b && p a) (eq-eqb a first here) in
          let same : (i : ℕ) → a + 1 ≤ i → q i ≡ p i = λ i low. without i ∙ ap (λ b. not b && p i) (not-equal i first (λ e. absurd (omega arith))) in (
            ap p (sym here) ∙ holds,
            omega arith,
            ap (λ b. cond b (a ∷ filter q (range_with_len (a + 1) n)) (filter q (range_with_len (a + 1) n))) gone
                ∙ filter-same n (a + 1) q p same
                ∙ tail-same a first _ rest whole,
          )
      | inr lacks ↦
          let later : filter p (range_with_len (a + 1) n) ≡ first ∷ rest = sym (ap (λ b. cond b (a ∷ filter p (range_with_len (a + 1) n)) (filter p (range_with_len (a + 1) n))) lacks) ∙ is in
          let below = filter-rest n (a + 1) p q first rest without later in
          let low = below.1 in
          let out : q a ≡ false = without a ∙ ap (λ b. not (eqb a first) && b) lacks ∙ and-false (not (eqb a first)) in (
            below.0,
            omega arith,
            ap (λ b. cond b (a ∷ filter q (range_with_len (a + 1) n)) (filter q (range_with_len (a + 1) n))) out ∙ below.2,
          )
    ]

-- the first item of a walk is a member, and without it the walk goes on with the rest
pub walk-rest : (s : fin.FinSet nat_cmp) (first : ℕ) (rest : List ℕ) → walk (fin.contains s) ≡ first ∷ rest → (fin.contains s first ≡ true) × (walk (fin.contains (fin.remove s first)) ≡ rest)
unfolding walk
walk-rest s first rest is =
    let h = filter-rest 16777216 0 (fin.contains s) (fin.contains (fin.remove s first)) first rest (contains-without s first) is in
    (h.0, h.2)

-- what the first call of `next` tells of the set
pub first-walked : (s : fin.FinSet nat_cmp) (next : Option ℕ) (left after : List ℕ) → left ≡ walk (fin.contains s) → MatchOption next ((left ≡ []) × (after ≡ [])) (λ x. left ≡ x ∷ after) → MatchOption next (walk (fin.contains s) ≡ []) (λ first. walk (fin.contains s) ≡ first ∷ walk (fin.contains (fin.remove s first)))
first-walked s None left after is gave = sym is ∙ gave.0
first-walked s (Some x) left after is gave =
    let rest = walk-rest s x after (sym is ∙ gave) in
    sym is ∙ (gave ∙ ap (λ xs. x ∷ xs) (sym rest.1))

pub first-member : (s : fin.FinSet nat_cmp) (next : Option ℕ) → MatchOption next (walk (fin.contains s) ≡ []) (λ first. walk (fin.contains s) ≡ first ∷ walk (fin.contains (fin.remove s first))) → IfSome next (λ first. fin.contains s first ≡ true)
first-member s None gave = tt
first-member s (Some x) gave = (walk-rest s x _ gave).0

-- ---- marks

or-swap : (a b : Bool) → (a || b) ≡ (b || a)
or-swap true true = refl
or-swap true false = refl
or-swap false true = refl
or-swap false false = refl

or-false : (b : Bool) → (b || false) ≡ b
or-false true = refl
or-false false = refl

-- the index of the entity at a place joins those before it
pub indices-more : (entities : List LifeAt) (place : ℕ) (d : LifeAt) → place < length entities → indices_of (take (place + 1) entities) ≡ indices_of (take place entities) ++ (get_or entities place d).id ∷ []
indices-more entities place d within = map_more (λ e. e.id) entities place d within

-- a mark more, and an index more in the list
pub marks-more : (s : fin.FinSet nat_cmp) (indices : List ℕ) (index : ℕ) → ((q : ℕ) → fin.contains s q ≡ list_any (λ other. eqb q other) indices) → (q : ℕ) → fin.contains (fin.insert s index) q ≡ list_any (λ other. eqb q other) (indices ++ index ∷ [])
marks-more s indices index marks q =
    contains-with s index q
    ∙ (ap (λ b. eqb q index || b) (marks q)
    ∙ (or-swap (eqb q index) (list_any (λ other. eqb q other) indices)
    ∙ (ap (λ b. list_any (λ other. eqb q other) indices || b) (sym (or-false (eqb q index)))
    ∙ sym (list_any-append (λ other. eqb q other) indices (index ∷ [])))))

-- a mark less, and an index less in the list
pub marks-less : (s : fin.FinSet nat_cmp) (indices : List ℕ) (index : ℕ) → ((q : ℕ) → fin.contains s q ≡ true → list_any (λ other. eqb q other) (index ∷ indices) ≡ true) → (q : ℕ) → fin.contains (fin.remove s index) q ≡ true → list_any (λ other. eqb q other) indices ≡ true
marks-less s indices index marks q is =
    let both = contains-without s index q in
    elim (cases_eq q index) [
      | inl e ↦ absurd (true≢false (sym is ∙ both ∙ ap (λ b. not b && fin.contains s q) (eq-eqb q index e)))
      | inr ne ↦
          let other = not-equal q index ne in
          let member : fin.contains s q ≡ true = sym (both ∙ ap (λ b. not b && fin.contains s q) other) ∙ is in
          elim (or_cases (eqb q index) (list_any (λ one. eqb q one) indices) (marks q member)) [
            | inl here ↦ absurd (true≢false (sym here ∙ other))
            | inr later ↦ later
          ]
    ]

pub unmarked-empty : (s : fin.FinSet nat_cmp) → ((q : ℕ) → fin.contains s q ≡ true → ⊥) → s ≡ fin.empty
unmarked-empty s none = fin.same_set nat_cmp_total fin.nat_cmp-IsAntisymmetric s fin.empty (λ q. false_from_ne_true _ (none q) ∙ sym (fin.contains-empty nat_cmp q))

-- ---- lists that can be killed

pub CanKill-nil : (lives : ℕ → Option Life) → CanKill lives []
unfolding IsDistinct
CanKill-nil lives = record { alive = All-nil (λ (x : LifeAt). lives x.id ≡ Some x.generation); apart = tt }

pub CanKill-more : (lives : ℕ → Option Life) (entities : List LifeAt) (place : ℕ) (d : LifeAt) → place < length entities → CanKill lives (take place entities) → lives (get_or entities place d).id ≡ Some (get_or entities place d).generation → list_any (λ other. eqb (get_or entities place d).id other) (indices_of (take place entities)) ≡ false → CanKill lives (take (place + 1) entities)
CanKill-more lives entities place d within before alive apart =
    record {
      alive = All-more (λ (x : LifeAt). lives x.id ≡ Some x.generation) entities place d within before.alive alive;
      apart = subst (IsDistinct eqb) (sym (indices-more entities place d within)) (IsDistinct-push nat_eq_equiv (indices_of (take place entities)) (get_or entities place d).id before.apart apart);
    }

-- ---- runs of deaths

pub all_buried-more : (births : Births) (indices : List ℕ) (index : ℕ) → all_buried births (indices ++ index ∷ []) ≡ buried (all_buried births indices) index
all_buried-more births [] index = refl
all_buried-more births (one ∷ indices) index = all_buried-more (buried births one) indices index

any-tail : (a b : Bool) → (a || b) ≡ false → b ≡ false
any-tail true b is = absurd (true≢false is)
any-tail false b is = is

-- who isn't among the dead lives on
pub living-all_buried : (births : Births) (indices : List ℕ) (index : ℕ) → list_any (λ other. eqb index other) indices ≡ false → living (all_buried births indices) index ≡ living births index
living-all_buried births [] index out = refl
living-all_buried births (one ∷ indices) index out =
    let ne : index ≢ one = λ e. true≢false (sym (or_left (eqb index one) (list_any (λ other. eqb index other) indices) (eq-eqb index one e)) ∙ out) in
    living-all_buried (buried births one) indices index (any-tail (eqb index one) (list_any (λ other. eqb index other) indices) out)
    ∙ living-buried_other births one index ne

-- settling leaves the accepted deletions
pub deletions-all_settled : (births : Births) (indices : List ℕ) → (all_settled births indices).deletions ≡ births.deletions
deletions-all_settled births [] = refl
deletions-all_settled births (one ∷ indices) = deletions-all_settled (settled births one) indices

all-take : (P : ℕ → Type 0) (n : ℕ) (xs : List ℕ) → AllByRecursion P xs → AllByRecursion P (take n xs)
all-take P zero xs all = tt
all-take P (suc n) [] all = tt
all-take P (suc n) (x ∷ xs) all = (all.0, all-take P n xs all.1)

pub distinct-take : (n : ℕ) (xs : List ℕ) → IsDistinct eqb xs → IsDistinct eqb (take n xs)
unfolding IsDistinct
distinct-take zero xs all = tt
distinct-take (suc n) [] all = tt
distinct-take (suc n) (x ∷ xs) all = (all-take _ n xs all.0, distinct-take n xs all.1)

-- an index of the first entities is one of all
pub any-take : (q n : ℕ) (entities : List LifeAt) → list_any (λ other. eqb q other) (indices_of (take n entities)) ≡ true → list_any (λ other. eqb q other) (indices_of entities) ≡ true
any-take q zero entities is = absurd (false≢true is)
any-take q (suc n) [] is = is
any-take q (suc n) (entity ∷ entities) is =
    elim (or_cases (eqb q entity.id) (list_any (λ other. eqb q other) (indices_of (take n entities))) is) [
      | inl here ↦ or_left (eqb q entity.id) _ here
      | inr later ↦ or_right (eqb q entity.id) _ (any-take q n entities later)
    ]

indices-take : (n : ℕ) (entities : List LifeAt) → indices_of (take n entities) ≡ take n (indices_of entities)
indices-take zero entities = refl
indices-take (suc n) [] = refl
indices-take (suc n) (entity ∷ entities) = ap (λ xs. entity.id ∷ xs) (indices-take n entities)

-- in a list that names none twice the index at a place isn't among those before it
apart-in : (entities : List LifeAt) (place : ℕ) (d : LifeAt) → place < length entities → IsDistinct eqb (indices_of entities) → list_any (λ other. eqb (get_or entities place d).id other) (indices_of (take place entities)) ≡ false
apart-in entities place d within apart =
    let front = subst (IsDistinct eqb) (sym (indices-take (place + 1) entities) ∙ indices-more entities place d within) (distinct-take (place + 1) (indices_of entities) apart) in
    (distinct-front (indices_of (take place entities)) (get_or entities place d).id front).1

pub apart-before : (lives : ℕ → Option Life) (entities : List LifeAt) (place : ℕ) (d : LifeAt) → place < length entities → CanKill lives entities → list_any (λ other. eqb (get_or entities place d).id other) (indices_of (take place entities)) ≡ false
apart-before lives entities place d within can = apart-in entities place d within can.apart

some-entity : LifeAt
some-entity = record { id = 0; generation = first_life }

-- a list with a fault can't be killed
pub fault-not-killable : (lives : ℕ → Option Life) (entities : List LifeAt) (place : ℕ) → IsFirstFault lives entities place → CanKill lives entities → ⊥
fault-not-killable lives entities place first can =
    elim (first.fault some-entity) [
      | inl dead ↦ dead (All-get_or (λ (x : LifeAt). lives x.id ≡ Some x.generation) entities place some-entity first.inside can.alive)
      | inr again ↦ true≢false (sym again ∙ apart-before lives entities place some-entity first.inside can)
    ]

-- after those before it died the entity at a place lives on
pub living-next : (births : Births) (entities : List LifeAt) (place : ℕ) (d : LifeAt) → place < length entities → CanKill (living births) entities → living (all_buried births (indices_of (take place entities))) (get_or entities place d).id ≡ Some (get_or entities place d).generation
living-next births entities place d within can =
    living-all_buried births (indices_of (take place entities)) (get_or entities place d).id (apart-before (living births) entities place d within can)
    ∙ All-get_or (λ (x : LifeAt). living births x.id ≡ Some x.generation) entities place d within can.alive

pub buried-next : (births : Births) (entities : List LifeAt) (place : ℕ) (d : LifeAt) → place < length entities → all_buried births (indices_of (take (place + 1) entities)) ≡ buried (all_buried births (indices_of (take place entities))) (get_or entities place d).id
buried-next births entities place d within =
    ap (all_buried births) (indices-more entities place d within)
    ∙ all_buried-more births (indices_of (take place entities)) (get_or entities place d).id

-- ---- runs of births that become persistent

pub all_settled-more : (births : Births) (indices : List ℕ) (index : ℕ) → all_settled births (indices ++ index ∷ []) ≡ settled (all_settled births indices) index
all_settled-more births [] index = refl
all_settled-more births (one ∷ indices) index = all_settled-more (settled births one) indices index

-- a birth at an index that isn't among them stays fresh
fresh-all_settled : (births : Births) (indices : List ℕ) (index : ℕ) → list_any (λ other. eqb index other) indices ≡ false → fin.contains (all_settled births indices).fresh index ≡ fin.contains births.fresh index
fresh-all_settled births [] index out = refl
fresh-all_settled births (one ∷ indices) index out =
    let ne : index ≢ one = λ e. true≢false (sym (or_left (eqb index one) (list_any (λ other. eqb index other) indices) (eq-eqb index one e)) ∙ out) in
    fresh-all_settled (settled births one) indices index (any-tail (eqb index one) (list_any (λ other. eqb index other) indices) out)
    ∙ (contains-without births.fresh one index ∙ ap (λ b. not b && fin.contains births.fresh index) (not-equal index one ne))

-- after those before it became persistent the birth at a place is fresh
pub fresh-next : (births : Births) (entities : List LifeAt) (place : ℕ) (d : LifeAt) → place < length entities → AreFresh births entities → fin.contains (all_settled births (indices_of (take place entities))).fresh (get_or entities place d).id ≡ true
fresh-next births entities place d within are =
    fresh-all_settled births (indices_of (take place entities)) (get_or entities place d).id (apart-in entities place d within are.apart)
    ∙ All-get_or (λ (x : LifeAt). fin.contains births.fresh x.id ≡ true) entities place d within are.fresh

pub settled-next : (births : Births) (entities : List LifeAt) (place : ℕ) (d : LifeAt) → place < length entities → all_settled births (indices_of (take (place + 1) entities)) ≡ settled (all_settled births (indices_of (take place entities))) (get_or entities place d).id
settled-next births entities place d within =
    ap (all_settled births) (indices-more entities place d within)
    ∙ all_settled-more births (indices_of (take place entities)) (get_or entities place d).id

-- ---- who lives after deaths

-- who is among the dead lives no more
living-all_buried_in : (births : Births) (indices : List ℕ) (index : ℕ) → list_any (λ other. eqb index other) indices ≡ true → living (all_buried births indices) index ≡ None
living-all_buried_in births [] index is = absurd (false≢true is)
living-all_buried_in births (one ∷ indices) index is = elim (cases_Bool (list_any (λ other. eqb index other) indices)) [
  | inl later ↦ living-all_buried_in (buried births one) indices index later
  | inr last ↦ elim (or_cases (eqb index one) (list_any (λ other. eqb index other) indices) is) [
    | inl here ↦
        living-all_buried (buried births one) indices index last
        ∙ (ap (living (buried births one)) (eqb-true index one here) ∙ living-buried births one)
    | inr later ↦ absurd (true≢false (sym later ∙ last))
  ]
]

pub all_buried-lives : (births : Births) (indices : List ℕ) → LivesBut (λ index. list_any (λ other. eqb index other) indices) births (all_buried births indices)
all_buried-lives births indices index = elim (cases_Bool (list_any (λ other. eqb index other) indices)) [
  | inl is ↦ living-all_buried_in births indices index is ∙ sym (ap (λ b. cond b None (living births index)) is)
  | inr out ↦ living-all_buried births indices index out ∙ sym (ap (λ b. cond b None (living births index)) out)
]

-- a burial does with the deletion that was accepted
deletions-all_buried : (births : Births) (indices : List ℕ) (index : ℕ) → fin.contains (all_buried births indices).deletions index ≡ true → (fin.contains births.deletions index ≡ true) × (list_any (λ other. eqb index other) indices ≡ false)
deletions-all_buried births [] index is = (is, refl)
deletions-all_buried births (one ∷ indices) index is =
    let rest = deletions-all_buried (buried births one) indices index is in
    let parts = and_parts (not (eqb index one)) (fin.contains births.deletions index) (sym (contains-without births.deletions one index) ∙ rest.0) in
    (parts.1, or_from (eqb index one) _ (not-true (eqb index one) parts.0) rest.1)

-- where all accepted are buried no deletion is left
pub deletions-done : (births : Births) (indices : List ℕ) → ((index : ℕ) → fin.contains births.deletions index ≡ true → list_any (λ other. eqb index other) indices ≡ true) → (all_buried births indices).deletions ≡ fin.empty
deletions-done births indices all =
    unmarked-empty (all_buried births indices).deletions (λ index is.
    let was = deletions-all_buried births indices index is in
    true≢false (sym (all index was.0) ∙ was.1))
