-- Pairs that are looked at one after another, and the entities at the indices of a least set.
use Rattle.std.proofs.Common.{◌≡◌, ◌≢◌, ◌<◌, ◌≤◌, ◌+◌, ◌⊎◌, inl, inr, ℕ, Bool, true, false, eqb, List, [], ◌∷◌, length, map, take, filter, get_or, Option, Some, None, is_some, refl, sym, ◌∙◌, ap, subst, arith}
use Rattle.std.specs.Prelude.{IsSome}
use Rattle.std.specs.Option.{unwrap_or}
use Rattle.std.specs.List.{All, AllPairs, Any, IsDistinct, list_any, range_with_len}
use Rattle.std.specs.Ordering.{nat_cmp}
use Rattle.std.specs.FinSet as set
use Rattle.std.proofs.Math.Path.{fun_ext}
use Rattle.std.proofs.lemmas.Bool.{false≢true, true≢false, eqb-true, cases_Bool, cases_eq, or_cases}
use Rattle.std.proofs.lemmas.List.{get_or-map, get_or-take, get_or_default, length-map, length-take-le}
use Rattle.std.proofs.lemmas.List.Elements.{All-head, All-tail, All-map, All-weaker}
use Rattle.std.proofs.lemmas.List.Folds.{list_any_none}
use Rattle.std.proofs.lemmas.List.FromFn.{get_or-range_with_len, length-range_with_len}
use Rattle.std.proofs.lemmas.List.Kept.{AllPairs-filter}
use Rattle.hibitset_sets.specs.Walk.{walk}
use Rattle.hibitset_sets.proofs.CallerLemmas.{any-walk, members-walked}
use Rattle.specs_entity.specs.Life.{Life, LifeAt, first_life}
use Rattle.specs_entity.specs.Births.{Births, CanKill, IsAlive, living, entity_at, indices_of, is_named, persistent_at}
use Rattle.specs_entity.specs.Layout.{AreBirths}
use Rattle.specs_entity.specs.Closures.{IsLeast, IsPaired, IsClosure}
use Rattle.specs_entity.specs.Holders.{Holds, AreBelow, AreLiving}
use Rattle.specs_entity.specs.declared.holders.Link.{Link}
use Rattle.specs_entity.proofs.BirthLemmas.{used-living}
use Rattle.specs_entity.proofs.DeathLemmas.{walk-distinct, indices-at, some-is}

-- ---- one among the first so many

module _ {X : Type 0} (P : X → Type 0) (xs : List X) (k : ℕ) (d : X) (inside : k < length xs) where
  some : length (take k xs) ≡ k
  some = length-take-le k xs (omega (arith, inside))

  one-more : length (take (k + 1) xs) ≡ k + 1
  one-more = length-take-le (k + 1) xs (omega (arith, inside))

  pub any-kept : Any P (take k xs) → Any P (take (k + 1) xs)
  any-kept any =
      let early : any.0 < k = let below = any.2 in let s = some in omega (arith, below, s) in
      (any.0, any.1, (let m = one-more in omega (arith, early, m)), get_or-take (k + 1) xs any.0 any.1 (omega (arith, early)) ∙ sym (get_or-take k xs any.0 any.1 early) ∙ any.3, any.4)

  pub any-last : P (get_or xs k d) → Any P (take (k + 1) xs)
  any-last holds =
      (k, get_or xs k d, (let m = one-more in omega (arith, m)), get_or-take (k + 1) xs k (get_or xs k d) (omega arith) ∙ get_or_default xs k (get_or xs k d) d inside, holds)

  pub any-only : Any P (take (k + 1) xs) → Any P (take k xs) ⊎ P (get_or xs k d)
  any-only any = here (cases_eq any.0 k)
    where
      here : (any.0 ≡ k) ⊎ (any.0 ≢ k) → Any P (take k xs) ⊎ P (get_or xs k d)
      here (inl last) =
          inr (subst P (sym any.3 ∙ get_or-take (k + 1) xs any.0 any.1 (omega (arith, last)) ∙ ap (λ n. get_or xs n any.1) last ∙ get_or_default xs k any.1 d inside) any.4)
      here (inr apart) =
          let early : any.0 < k = let below = any.2 in let m = one-more in omega (arith, below, m, apart) in
          inl (any.0, any.1, (let s = some in omega (arith, early, s)), get_or-take k xs any.0 any.1 early ∙ sym (get_or-take (k + 1) xs any.0 any.1 (omega (arith, early))) ∙ any.3, any.4)

-- ---- where those that live are

-- whoever is alive lives at its index
pub roots-live : (births : Births) (entities : List LifeAt) → All (IsAlive births) entities → All (λ root. IsSome (living births root)) (indices_of entities)
roots-live births entities alive =
    All-map (λ root. IsSome (living births root)) (λ (e : LifeAt). e.id) entities
    (All-weaker (IsAlive births) (λ e. IsSome (living births e.id)) (λ e is. subst (λ o. IsSome o) (sym is) refl) entities alive)

named-lives : (births : Births) (entities : List LifeAt) → All (IsAlive births) entities → (index : ℕ) → is_named entities index ≡ true → is_some (living births index) ≡ true
named-lives births [] alive index is = absurd (false≢true is)
named-lives births (entity ∷ entities) alive index is = elim (or_cases (eqb index entity.id) (is_named entities index) is) [
  | inl same ↦ ap (λ i. is_some (living births i)) (eqb-true index entity.id same) ∙ ap is_some (All-head (IsAlive births) entity entities alive)
  | inr later ↦ named-lives births entities (All-tail (IsAlive births) entity entities alive) index later
]

-- ---- a walk ascends

range-ascends : (members : ℕ → Bool) (n : ℕ) → AllPairs (λ one other. one < other) (filter members (range_with_len 0 n))
range-ascends members n = AllPairs-filter (λ one other. one < other) members (range_with_len 0 n)
    (λ i j d before inside.
    let within : j < n = let long = length-range_with_len 0 n in omega (arith, inside, long) in
    let first = get_or-range_with_len 0 n i d (omega (arith, before, within)) in
    let second = get_or-range_with_len 0 n j d within in
    omega (arith, first, second, before))

walk-ascends : (members : ℕ → Bool) → AllPairs (λ one other. one < other) (walk members)
unfolding walk
walk-ascends members = range-ascends members 16777216

entities-ascend : (births : Births) (indices : List ℕ) → AllPairs (λ one other. one < other) indices → AllPairs (λ (one other : LifeAt). one.id < other.id) (map (entity_at births) indices)
entities-ascend births indices ascend i j d before inside =
    let within : j < length indices = let long = length-map indices (entity_at births) in omega (arith, inside, long) in
    let first : (get_or (map (entity_at births) indices) i d).id ≡ get_or indices i 0 = ap (λ (e : LifeAt). e.id) (get_or-map (entity_at births) indices i 0 d (omega (arith, before, within))) in
    let second : (get_or (map (entity_at births) indices) j d).id ≡ get_or indices j 0 = ap (λ (e : LifeAt). e.id) (get_or-map (entity_at births) indices j 0 d within) in
    let less : get_or indices i 0 < get_or indices j 0 = ascend i j 0 before within in
    omega (arith, first, second, less)

-- ---- the entities of a least set

module _ (births : Births) (roots : List LifeAt) (pairs : List (LifeAt × LifeAt)) (links : List Link) (members : set.FinSet nat_cmp)
    (range : (index : ℕ) → IsSome (living births index) → index < 16777216) (alive : All (IsAlive births) roots)
    (paired : (holder target : ℕ) → Holds links holder target → IsPaired births pairs holder target)
    (all : (holder target : ℕ) → IsPaired births pairs holder target → Holds links holder target)
    (least : IsLeast (is_named roots) (Holds links) (set.contains members)) where
  least-paired : IsLeast (is_named roots) (IsPaired births pairs) (set.contains members)
  least-paired = record {
    closed = record { roots_in = least.closed.roots_in; holders_in = λ holder target pair. least.closed.holders_in holder target (all holder target pair) };
    least = λ others closed. least.least others (record { roots_in = closed.roots_in; holders_in = λ holder target holds. closed.holders_in holder target (paired holder target holds) });
  }

  member-lives : (index : ℕ) → set.contains members index ≡ true → is_some (living births index) ≡ true
  member-lives = least-paired.least (λ index. is_some (living births index)) (record {
    roots_in = named-lives births roots alive;
    holders_in = λ holder target pair there. ap (λ i. is_some (living births i)) (sym pair.4.2) ∙ ap is_some pair.4.0;
  })

  abbrev pub entities : List LifeAt
  entities = map (entity_at births) (walk (set.contains members))

  named : (index : ℕ) → set.contains members index ≡ is_named entities index
  named index = sym (ap (list_any (eqb index)) (indices-at births (walk (set.contains members))) ∙ elim (cases_Bool (set.contains members index)) [
    | inl is ↦ any-walk (set.contains members) index (range index (member-lives index is)) is ∙ sym is
    | inr out ↦ list_any_none (eqb index) (walk (set.contains members))
        (All-weaker (λ i. set.contains members i ≡ true) (λ i. eqb index i ≡ false)
        (λ i member. elim (cases_Bool (eqb index i)) [
          | inl same ↦ absurd (true≢false (sym member ∙ ap (set.contains members) (sym (eqb-true index i same)) ∙ out))
          | inr apart ↦ apart
        ])
        (walk (set.contains members)) (members-walked (set.contains members))) ∙ sym out
  ])

  all-live : All (IsAlive births) entities
  all-live = All-map (IsAlive births) (entity_at births) (walk (set.contains members))
      (All-weaker (λ i. set.contains members i ≡ true) (λ i. living births i ≡ Some (entity_at births i).generation)
      (λ i is. some-is (living births i) (unwrap_or (persistent_at births i) first_life) (member-lives i is))
      (walk (set.contains members)) (members-walked (set.contains members)))

  -- so they fall with the roots
  pub closure-is : IsClosure births roots pairs entities
  closure-is = record {
    rooted = alive;
    alive = all-live;
    ascend = entities-ascend births (walk (set.contains members)) (walk-ascends (set.contains members));
    least = subst (IsLeast (is_named roots) (IsPaired births pairs)) (fun_ext named) least-paired;
  }

  -- and they can die at once
  pub closure-killable : CanKill (living births) entities
  closure-killable = record {
    alive = all-live;
    apart = subst (IsDistinct eqb) (sym (indices-at births (walk (set.contains members)))) (walk-distinct (set.contains members));
  }
