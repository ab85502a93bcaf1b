-- Lemmas on the ids of entities, in order and in a set.
use Rattle.std.proofs.Common.{◌≡◌, ◌≢◌, ℕ, suc, ◌+◌, ◌-◌, ◌<◌, ◌≤◌, Bool, true, false, not, cond, eqb, ltb, ◌||◌, List, [], ◌∷◌, Result, Ok, Err, length, get_or, drop, All, refl, ap, sym, ◌∙◌, is_ok, ⊎_elim, MatchResult, arith}
use Rattle.std.specs.List.{list_any}
use Rattle.std.specs.List.Sorted.{IsBinarySearchResult}
use Rattle.std.specs.Ordering.{nat_cmp, is_eq}
use Rattle.std.specs.BTreeSet.{insert_key}
use Rattle.std.proofs.Math.Seq.{drop-cons}
use Rattle.std.proofs.lemmas.Bool.{cases_lt, eqb-true, eq-eqb}
use Rattle.std.proofs.lemmas.Bool.Decides.{nat_tests}
use Rattle.std.proofs.lemmas.List.Folds.{list_any_at}
use Rattle.std.proofs.lemmas.List.Sorted.{searched}
use Rattle.scene_model.specs.Scenes.{lives, IdsAscend}
use Rattle.scene_document.specs.Documents.{has_double}
use Rattle.scene_model.specs.Ids.{ascending}
use Rattle.scene_model.proofs.CallerLemmas.{is_eq-nat_cmp, lives-ascending, in_order-ascends, same-ids, not-above}

-- a set has an id exactly where it stands among its keys
pub contains-lives : (id : ℕ) (keys : List ℕ) → list_any (λ other. is_eq (nat_cmp id other)) keys ≡ lives id keys
contains-lives id [] = refl
contains-lives id (other ∷ keys) = ap (λ b. b || list_any (λ one. is_eq (nat_cmp id one)) keys) (is_eq-nat_cmp id other) ∙ ap (λ b. eqb other id || b) (contains-lives id keys)

-- the last of the elements up to an index, with those after it
pub drop_last : {X : Type 0} (xs : List X) (index : ℕ) (d : X) → 0 < index → index ≤ length xs → drop (index - 1) xs ≡ get_or xs (index - 1) d ∷ drop index xs
drop_last xs index d h k =
    let at : suc (index - 1) ≡ index = omega arith in
    drop-cons xs (index - 1) d (omega arith) ∙ ap (λ i. get_or xs (index - 1) d ∷ drop i xs) at

-- a set of the ids of a list, which is shorter than the list where an id stands there twice
pub record IsSetOf (listed : List ℕ) (count : ℕ) (keys : List ℕ) : Type 0 where
  pub ids : keys ≡ ascending listed
  pub len : length keys ≤ count
  pub double : ltb (length keys) count ≡ has_double listed

-- how long the set is with one more
count_step : (keys count after : ℕ) (there doubled : Bool) → keys ≤ count → ltb keys count ≡ doubled → after ≡ keys + cond (not there) 1 0 → (after ≤ suc count) × (ltb after (suc count) ≡ (there || doubled))
count_step keys count after true doubled h e f = (omega arith, grind (arith, nat_tests))
count_step keys count after false doubled h e f = (omega arith, grind (arith, nat_tests))

pub IsSetOf-insert : (id : ℕ) (listed keys after : List ℕ) (count : ℕ) (added : Bool) → IsSetOf listed count keys → added ≡ not (list_any (λ other. is_eq (nat_cmp id other)) keys) → after ≡ insert_key nat_cmp keys id → length after ≡ length keys + cond added 1 0
    → IsSetOf (id ∷ listed) (suc count) after
IsSetOf-insert id listed keys after count added is e f len =
    let there : list_any (λ other. is_eq (nat_cmp id other)) keys ≡ lives id listed = contains-lives id keys ∙ ap (lives id) is.ids ∙ lives-ascending id listed in
    let counts = count_step (length keys) count (length after) (lives id listed) (has_double listed) is.len is.double (len ∙ ap (λ b. length keys + cond b 1 0) (e ∙ ap not there)) in
    record { ids = f ∙ ap (λ others. insert_key nat_cmp others id) is.ids; len = counts.0; double = counts.1 }

-- of ids that ascend each is the least that is left
tail-ascends : (id : ℕ) (ids : List ℕ) → IdsAscend (id ∷ ids) → IdsAscend ids
tail-ascends id ids up = λ i j d before inside. up (suc i) (suc j) d (omega (arith, before)) (omega (arith, inside))

-- ids that ascend are in order as they stand
pub in-order : (ids : List ℕ) → IdsAscend ids → ascending ids ≡ ids
in-order ids up = same-ids (ascending ids) ids (in_order-ascends ids) up (λ id. lives-ascending id ids)

-- of ids that ascend none stands twice
pub none-double : (ids : List ℕ) → IdsAscend ids → has_double ids ≡ false
none-double [] up = refl
none-double (id ∷ ids) up =
    let above : All (λ other. id < other) ids = λ k d inside. up 0 (suc k) d (omega arith) (omega (arith, inside)) in
    ap (λ b. b || has_double ids) (not-above id ids above) ∙ none-double ids (tail-ascends id ids up)

-- ids that differ from one are not it
none-is : (id : ℕ) (ids : List ℕ) → ((k : ℕ) → k < length ids → get_or ids k 0 ≢ id) → lives id ids ≡ false
none-is id [] differ = refl
none-is id (other ∷ ids) differ = ap (λ b. b || lives id ids) (by (eqb other id) refl) ∙ none-is id ids (λ k inside. differ (suc k) (omega (arith, inside)))
  where
    by : (b : Bool) → eqb other id ≡ b → b ≡ false
    by true is = absurd (differ 0 (omega arith) (eqb-true other id is))
    by false is = refl

-- a search among ids that ascend finds those that live
pub searched-lives : (ids : List ℕ) (id : ℕ) (found : Result ℕ ℕ) → IdsAscend ids → IsBinarySearchResult (λ other. nat_cmp other id) ids found → is_ok found ≡ lives id ids
searched-lives ids id found up search = by found (searched ids id found search rises)
  where
    rises : (i j : ℕ) → i ≤ j → j < length ids → get_or ids i 0 ≤ get_or ids j 0
    rises i j le inside = ⊎_elim (λ before. omega (arith, up i j 0 before inside)) (λ past. let same : get_or ids i 0 ≡ get_or ids j 0 = ap (λ k. get_or ids k 0) (omega (arith, le, past)) in omega (arith, same)) (cases_lt i j)

    by : (found : Result ℕ ℕ) → MatchResult found (λ i. (i < length ids) × (get_or ids i 0 ≡ id)) (λ i. (i ≤ length ids) × ((k : ℕ) → k < i → get_or ids k 0 < id) × ((k : ℕ) → i ≤ k → k < length ids → id < get_or ids k 0))
        → is_ok found ≡ lives id ids
    by (Ok i) at = sym (list_any_at (λ other. eqb other id) ids i 0 at.0 (eq-eqb (get_or ids i 0) id at.1))
    by (Err i) parted = sym (none-is id ids (λ k inside same. ⊎_elim (λ before. absurd (omega (arith, parted.1 k before, same))) (λ past. absurd (omega (arith, parted.2 k past inside, same))) (cases_lt k i)))
