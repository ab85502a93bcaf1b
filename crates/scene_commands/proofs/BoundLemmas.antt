-- How many births a birth and a death make, and what it says that a bound is reached.
use Rattle.std.proofs.Common.{◌≡◌, ◌≢◌, ◌<◌, ◌≤◌, ◌+◌, ◌-◌, ◌&&◌, ◌||◌, not, All, ℕ, zero, suc, Bool, true, false, cond, eqb, List, [], ◌∷◌, ◌++◌, map, length, get_or, set, take, Option, Some, None, inl, inr, refl, ap, sym, ◌∙◌, subst, arith, get_or-set_same, get_or-set_other, length-append}
use Rattle.std.specs.Prelude.{is_some}
use Rattle.std.specs.Option.{unwrap_or}
use Rattle.std.specs.FinSet as set_of
use Rattle.std.specs.BTreeSet.{insert_key}
use Rattle.std.specs.Cmp.{nat_eq_equiv}
use Rattle.std.specs.Ordering.{nat_cmp, match_ordering}
use Rattle.std.specs.declared.cmp.Ordering.{Ordering}
use Rattle.std.specs.declared.cmp.Ordering.TheVariants.{Less, Equal, Greater}
use Rattle.std.specs.List.{IsDistinct, list_any, AllByRecursion}
use Rattle.std.proofs.lemmas.Bool.{false≢true, true≢false, cases_eq, eqb-true, eq-eqb, or_cases, or_left, or_right}
use Rattle.std.proofs.lemmas.List.{get_or_past, get_or_default, get_or-take, get_or_append_left, get_or-append-add, length-map, length-set, length-take-le}
use Rattle.std.proofs.lemmas.List.Elements.{All-head, All-tail}
use Rattle.std.proofs.lemmas.List.Folds.{list_any-append}
use Rattle.std.proofs.lemmas.Map.Keys.{IsDistinct-cons, IsDistinct-push}
use Rattle.std.proofs.lemmas.Map.Steps.{length-le_from_distinct_below}
use Rattle.std.proofs.lemmas.Map.Made.{length-le_from_is_member, IsDistinct-from_AllPairs}
use Rattle.std.proofs.lemmas.Option.{none-some}
use Rattle.hibitset_sets.proofs.CallerLemmas.{contains-without}
use Rattle.specs_entity.specs.Births.{Births, none_born, living, count, number_of, persistent_at, next_index, newborn, with_next_taken, with_life, allocated, buried, all_buried, BringsToLife, IndicesAreSpent, GenerationsAreSpent}
use Rattle.specs_entity.specs.Life.{Life}
use Rattle.specs_entity.proofs.BirthLemmas.{empty-has, not-equal, count-with_life, count-buried_other, living-buried, living-buried_other, more-none}
use Rattle.scene_model.specs.Ids.{ascending}
use Rattle.scene_model.specs.Scenes.{lives, IdsAscend}
use Rattle.scene_model.proofs.CallerLemmas.{lives-ascending}
use Rattle.scene_world.specs.Rolls.{Roll, IsRoll, index_of, id_at, ids_in}
use Rattle.scene_world.proofs.CallerLemmas.{index-of-id, lives-index}
use Rattle.scene_commands.specs.Bounds.{Waits, AreInUse, Grows, GrowsByIds, GrowsByLiving, IsBounded}

-- ---- growth

pub grows-none : (births : Births) (n : ℕ) → Grows births births n n
grows-none births n = record { indices = refl; generations = refl; counts = λ index. omega arith; in_use = λ used. used }

pub grows-both : (first second third : Births) (one two three : ℕ) → Grows first second one two → Grows second third two three → Grows first third one three
grows-both first second third one two three before after = record {
  indices = after.indices ∙ before.indices;
  generations = after.generations ∙ before.generations;
  counts = λ index. let here = before.counts index in let there = after.counts index in omega (arith, here, there);
  in_use = λ used. after.in_use (before.in_use used);
}

-- where one number grew at least as much as another
pub grows-as : (before after : Births) (had has one other : ℕ) → has + one ≤ other + had → Grows before after had has → Grows before after one other
grows-as before after had has one other more grows = record {
  indices = grows.indices;
  generations = grows.generations;
  counts = λ index. let here = grows.counts index in omega (arith, here, more);
  in_use = grows.in_use;
}

pub grows-living : (first second third : Roll) → GrowsByLiving first second → GrowsByLiving second third → GrowsByLiving first third
grows-living first second third = grows-both first.births second.births third.births (length (ids_in first)) (length (ids_in second)) (length (ids_in third))

-- of a list of lives, one was set
set-number : (lasts : List (Option Life)) (index : ℕ) (life : Life) → number_of (get_or (set lasts index (Some life)) index None) ≤ life.number
set-number [] index life = omega arith
set-number (last ∷ lasts) zero life = omega arith
set-number (last ∷ lasts) (suc index) life = set-number lasts index life

-- an index more without a birth, where one was wanted
at-either : (b : Bool) (lasts : List (Option Life)) (other : ℕ) → get_or (cond b (lasts ++ None ∷ []) lasts) other None ≡ get_or lasts other None
at-either true lasts other = more-none lasts other
at-either false lasts other = refl

-- who waits and isn't taken waits on
waits-on : (cache : List ℕ) (used index : ℕ) → ((place : ℕ) × (place < length cache) × (get_or cache place 0 ≡ index)) → index ≢ get_or cache (length cache - 1) used
    → (place : ℕ) × (place < length (take (length cache - 1) cache)) × (get_or (take (length cache - 1) cache) place 0 ≡ index)
waits-on cache used index (place, within, is) apart =
    let shorter : length (take (length cache - 1) cache) ≡ length cache - 1 = length-take-le (length cache - 1) cache (omega arith) in
    let last : place ≢ length cache - 1 = λ same. apart (sym is ∙ ap (λ n. get_or cache n 0) same ∙ get_or_default cache (length cache - 1) 0 used (omega (arith, within))) in
    let before : place < length cache - 1 = omega (arith, within, last) in (place, omega (arith, shorter, before), get_or-take (length cache - 1) cache place 0 before ∙ is)

-- an index in use was in use before the next was taken, or is the next
was-used : (cache : List ℕ) (lasts : List (Option Life)) (index : ℕ) → index < length (cond (eqb (length cache) 0) (lasts ++ None ∷ []) lasts) → index ≢ get_or cache (length cache - 1) (length lasts) → index < length lasts
was-used [] lasts index below apart =
    let long : length (lasts ++ None ∷ []) ≡ length lasts + 1 = length-append lasts (None ∷ []) in
    omega (arith, below, apart, long)
was-used (first ∷ cache) lasts index below apart =
    subst (λ b. index < length (cond b (lasts ++ None ∷ []) lasts)) (not-equal (length (first ∷ cache)) 0 (λ none. absurd (omega (arith, none)))) below

-- the next birth
pub grows-by-birth : (before after : Births) → after ≡ allocated before → BringsToLife before (newborn before) after → Grows before after 0 1
grows-by-birth before after is brings = record {
  indices = ap (λ (b : Births). b.indices) is;
  generations = ap (λ (b : Births). b.generations) is;
  counts = λ index. subst (λ b. count b index + 0 ≤ count before index + 1) (sym is) (counts index);
  in_use = λ used index below dead.
      let apart : index ≢ next_index before = λ same. none-some (newborn before).generation (sym dead ∙ brings index ∙ ap (λ b. cond b (Some (newborn before).generation) (living before index)) (eq-eqb index (next_index before) same)) in
      let lived : living before index ≡ None = ap (λ b. cond b (Some (newborn before).generation) (living before index)) (sym (not-equal index (next_index before) apart)) ∙ sym (brings index) ∙ dead in
      let long : length after.persistent ≡ length (with_next_taken before).persistent = ap (λ (b : Births). length b.persistent) is ∙ length-set (with_next_taken before).persistent (next_index before) (Some (newborn before).generation) in
      let inside : index < length before.persistent = was-used before.cache before.persistent index (omega (arith, below, long)) apart in
      subst (λ (b : Births). Waits b index) (sym is) (waits-on before.cache (length before.persistent) index (used index inside lived) apart);
}
  where
    taken-count : (other : ℕ) → count (with_next_taken before) other ≡ count before other
    taken-count other = ap (λ last. number_of last + cond (set_of.contains before.fresh other) 1 0) (at-either (eqb (length before.cache) 0) before.persistent other)

    counts : (index : ℕ) → count (allocated before) index + 0 ≤ count before index + 1
    counts index = elim (cases_eq index (next_index before)) [
      | inl same ↦ subst (λ i. count (allocated before) i + 0 ≤ count before i + 1) (sym same)
          (let number = set-number (with_next_taken before).persistent (next_index before) (newborn before).generation in omega (arith, number))
      | inr apart ↦
          let stays : count (allocated before) index ≡ count before index = count-with_life (with_next_taken before) (next_index before) (newborn before).generation index apart ∙ taken-count index in
          omega (arith, stays)
    ]

-- a death
pub grows-by-death : (before after : Births) (index : ℕ) → after ≡ all_buried before (index ∷ []) → Grows before after 0 0
grows-by-death before after index is = record {
  indices = ap (λ (b : Births). b.indices) is;
  generations = ap (λ (b : Births). b.generations) is;
  counts = λ other. subst (λ b. count b other + 0 ≤ count before other + 0) (sym is) (counts other);
  in_use = λ used other below dead.
      let long : length after.persistent ≡ length before.persistent = ap (λ (b : Births). length b.persistent) is ∙ length-set before.persistent index (Some (record { number = count before index; lives = false })) in
      subst (λ (b : Births). Waits b other) (sym is) (waits used other (omega (arith, below, long)) (ap (λ b. living b other) (sym is) ∙ dead));
}
  where
    counts : (other : ℕ) → count (buried before index) other + 0 ≤ count before other + 0
    counts other = elim (cases_eq other index) [
      | inl same ↦ subst (λ i. count (buried before index) i + 0 ≤ count before i + 0) (sym same)
          (let number = set-number before.persistent index (record { number = count before index; lives = false }) in
          let gone : count (buried before index) index ≡ number_of (persistent_at (buried before index) index) + 0 = ap (λ b. number_of (persistent_at (buried before index) index) + cond b 1 0) unfresh in
          omega (arith, number, gone))
      | inr apart ↦ let stays = count-buried_other before index other apart in omega (arith, stays)
    ]
      where
        unfresh : set_of.contains (set_of.remove before.fresh index) index ≡ false
        unfresh = contains-without before.fresh index index ∙ ap (λ b. not b && set_of.contains before.fresh index) (eq-eqb index index refl)

    waits : AreInUse before → (other : ℕ) → other < length before.persistent → living (buried before index) other ≡ None → Waits (buried before index) other
    waits used other below dead = elim (cases_eq other index) [
      | inl same ↦ (
        length before.cache,
        (let long = length-append before.cache (index ∷ []) in omega (arith, long)),
        ap (λ n. get_or (before.cache ++ index ∷ []) n 0) (let n : length before.cache ≡ length before.cache + 0 = omega arith in n) ∙ get_or-append-add before.cache (index ∷ []) 0 0 ∙ sym same,
      )
      | inr apart ↦
          let found = used other below (sym (living-buried_other before index other apart) ∙ dead) in (
            found.0,
            (let long = length-append before.cache (index ∷ []) in let within = found.1 in omega (arith, long, within)),
            get_or_append_left before.cache (index ∷ []) 0 found.0 found.1 ∙ found.2,
          )
    ]

-- ---- bounds

-- a bound stays
pub bounded-on : (indices generations unlisted : ℕ) (before after : Roll) → IsBounded indices generations unlisted before → GrowsByIds before after → IsBounded indices generations unlisted after
bounded-on indices generations unlisted before after bounded grows = record {
  indices = grows.indices ∙ bounded.indices;
  generations = grows.generations ∙ bounded.generations;
  in_use = grows.in_use bounded.in_use;
  counts = λ index. let was = bounded.counts index in let now = grows.counts index in omega (arith, was, now);
}

-- numbers below a number, the greatest first
abbrev below : ℕ → List ℕ
below zero = []
below (suc n) = n ∷ below n

length-below : (n : ℕ) → length (below n) ≡ n
length-below zero = refl
length-below (suc n) = ap suc (length-below n)

all-less : (n m : ℕ) → m ≤ n → AllByRecursion (λ y. eqb n y ≡ false) (below m)
all-less n zero less = tt
all-less n (suc m) less = (not-equal n m (λ same. absurd (omega (arith, same, less))), all-less n m (omega (arith, less)))

distinct-below : (n : ℕ) → IsDistinct eqb (below n)
unfolding IsDistinct
distinct-below zero = tt
distinct-below (suc n) = IsDistinct-cons eqb n (below n) (all-less n n (omega arith)) (distinct-below n)

from-below : (q n : ℕ) → list_any (eqb q) (below n) ≡ true → q < n
from-below q zero is = absurd (false≢true is)
from-below q (suc n) is = elim (or_cases (eqb q n) (list_any (eqb q) (below n)) is) [
  | inl here ↦ let same = eqb-true q n here in omega (arith, same)
  | inr there ↦ let less = from-below q n there in omega (arith, less)
]

-- a list that has all numbers below one is at least as long
at-least : (n : ℕ) (numbers : List ℕ) → ((q : ℕ) → q < n → list_any (eqb q) numbers ≡ true) → n ≤ length numbers
at-least n numbers all = subst (λ k. k ≤ length numbers) (length-below n) (length-le_from_is_member nat_eq_equiv (below n) numbers (distinct-below n) (λ q is. all q (from-below q n is)))

-- what a function gives of an id that lives is among what it gives of all
among-mapped : (f : ℕ → ℕ) (ids : List ℕ) (id : ℕ) → lives id ids ≡ true → list_any (eqb (f id)) (map f ids) ≡ true
among-mapped f [] id is = absurd (false≢true is)
among-mapped f (other ∷ ids) id is = elim (or_cases (eqb other id) (lives id ids) is) [
  | inl here ↦ or_left (eqb (f id) (f other)) (list_any (eqb (f id)) (map f ids)) (eq-eqb (f id) (f other) (ap f (sym (eqb-true other id here))))
  | inr there ↦ or_right (eqb (f id) (f other)) (list_any (eqb (f id)) (map f ids)) (among-mapped f ids id there)
]

-- ---- ids in order

-- an id is a member of ids in either order of the test
member-lives : (id : ℕ) (ids : List ℕ) → list_any (eqb id) ids ≡ lives id ids
member-lives id [] = refl
member-lives id (other ∷ ids) = ap (λ b. b || list_any (eqb id) ids) (turned (eqb other id) refl) ∙ ap (λ b. eqb other id || b) (member-lives id ids)
  where
    turned : (b : Bool) → eqb other id ≡ b → eqb id other ≡ eqb other id
    turned true same = eq-eqb id other (sym (eqb-true other id same)) ∙ sym same
    turned false differ = not-equal id other (λ same. true≢false (sym (eq-eqb other id (sym same)) ∙ differ)) ∙ sym differ

-- no two ids that ascend are one
distinct-ids : (ids : List ℕ) → IdsAscend ids → IsDistinct eqb ids
distinct-ids ids ascend = IsDistinct-from_AllPairs (λ a b. (eqb-true a b, eq-eqb a b)) ids
    (λ i j d before inside same. let less = ascend i j d before inside in absurd (omega (arith, less, same)))

-- with one more of them there are more
pub longer-with : (ids : List ℕ) (id : ℕ) → IdsAscend ids → lives id ids ≡ false → length ids + 1 ≤ length (ascending (id ∷ ids))
longer-with ids id ascend absent =
    let many = length-le_from_is_member nat_eq_equiv (ids ++ id ∷ []) (ascending (id ∷ ids)) (IsDistinct-push nat_eq_equiv ids id (distinct-ids ids ascend) (member-lives id ids ∙ absent))
    (λ q is. member-lives q (ascending (id ∷ ids)) ∙ lives-ascending q (id ∷ ids) ∙ there q is) in
    let long = length-append ids (id ∷ []) in
    omega (arith, many, long)
  where
    there : (q : ℕ) → list_any (eqb q) (ids ++ id ∷ []) ≡ true → lives q (id ∷ ids) ≡ true
    there q is = elim (or_cases (list_any (eqb q) ids) (eqb q id || false) (sym (list_any-append (eqb q) ids (id ∷ [])) ∙ is)) [
      | inl before ↦ or_right (eqb id q) (lives q ids) (sym (member-lives q ids) ∙ before)
      | inr last ↦ elim (or_cases (eqb q id) false last) [
        | inl here ↦ or_left (eqb id q) (lives q ids) (eq-eqb id q (sym (eqb-true q id here)))
        | inr none ↦ absurd (false≢true none)
      ]
    ]

-- in order there are at most as many
pub fewer-in-order : (ids : List ℕ) → length (ascending ids) ≤ length ids
fewer-in-order [] = omega arith
fewer-in-order (id ∷ ids) = let rest = fewer-in-order ids in let more = inserted (ascending ids) in omega (arith, rest, more)
  where
    inserted : (keys : List ℕ) → length (insert_key nat_cmp keys id) ≤ length keys + 1
    inserted [] = omega arith
    inserted (key ∷ keys) = by (nat_cmp id key) (inserted keys)
      where
        by : (order : Ordering) → length (insert_key nat_cmp keys id) ≤ length keys + 1 → length (match_ordering order (id ∷ key ∷ keys) (key ∷ keys) (key ∷ insert_key nat_cmp keys id)) ≤ length (key ∷ keys) + 1
        by Less rest = omega arith
        by Equal rest = omega arith
        by Greater rest = omega (arith, rest)

-- ids that ascend below a number are at most as many as it
pub fewer-below : (next : ℕ) (ids : List ℕ) → IdsAscend ids → All (λ id. id < next) ids → length ids ≤ next
fewer-below next ids ascend lower = length-le_from_distinct_below ids next (distinct-ids ids ascend) (λ q is. holds ids lower q is)
  where
    holds : (some : List ℕ) → All (λ id. id < next) some → (q : ℕ) → list_any (eqb q) some ≡ true → q < next
    holds [] all q is = absurd (false≢true is)
    holds (one ∷ some) all q is = elim (or_cases (eqb q one) (list_any (eqb q) some) is) [
      | inl here ↦ subst (λ n. n < next) (sym (eqb-true q one here)) (All-head (λ id. id < next) one some all)
      | inr there ↦ holds some (All-tail (λ id. id < next) one some all) q there
    ]

-- no index has had a birth before any
pub none-counted : (indices generations index : ℕ) → count (none_born indices generations) index ≡ 0
none-counted indices generations index = ap (λ b. number_of None + cond b 1 0) (by (set_of.contains (set_of.empty {R = nat_cmp}) index) refl)
  where
    by : (b : Bool) → set_of.contains (set_of.empty {R = nat_cmp}) index ≡ b → b ≡ false
    by true is = absurd (empty-has index is)
    by false is = refl

-- where no index is left, at least as many live as there may be indices
pub all-live : (roll : Roll) → IsRoll roll → AreInUse roll.births → IndicesAreSpent roll.births → roll.births.indices ≤ length (ids_in roll)
all-live roll is used (empty, full) =
    let many = at-least roll.births.indices (map index (ids_in roll)) (λ q less. there q (living roll.births q) refl (omega (arith, less, full))) in
    let same = length-map (ids_in roll) index in
    omega (arith, many, same)
  where
    index : ℕ → ℕ
    index id = unwrap_or (index_of roll id) 0

    there : (q : ℕ) (o : Option Life) → living roll.births q ≡ o → q < length roll.births.persistent → list_any (eqb q) (map index (ids_in roll)) ≡ true
    there q None dead below = let waits = used q below dead in let within = waits.1 in let none = ap length empty in absurd (omega (arith, within, none))
    there q (Some life) alive below =
        let marked = is.marked q life alive in
        let at : id_at roll q ≡ Some marked.0 = ap (λ o. cond (is_some o) (roll.marker q) None) alive ∙ marked.1.marker in
        let found = index-of-id roll is marked.0 q at in
        subst (λ n. list_any (eqb n) (map index (ids_in roll)) ≡ true) (ap (λ o. unwrap_or o 0) found) (among-mapped index (ids_in roll) marked.0 (lives-index roll marked.0 ∙ ap is_some found))

-- where the next index has had its births, at least as many were born as it may have
pub all-born : (indices generations unlisted : ℕ) (roll : Roll) → IsBounded indices generations unlisted roll → GenerationsAreSpent roll.births → generations + unlisted ≤ roll.noting.next
all-born indices generations unlisted roll bounded spent =
    let many = bounded.counts (next_index roll.births) in
    let bound = bounded.generations in
    let had = spent.1 in
    omega (arith, many, bound, had)
