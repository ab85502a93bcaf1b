-- Lemmas on ids in order.
use Rattle.std.proofs.Common.{◌≡◌, ◌<◌, ℕ, suc, Bool, true, false, cond, eqb, ◌||◌, ◌&&◌, List, [], ◌∷◌, ◌++◌, filter, All, refl, ap, sym, ◌∙◌, subst, arith}
use Rattle.std.specs.List.{list_any}
use Rattle.std.specs.Ordering.{nat_cmp, is_eq, match_ordering}
use Rattle.std.specs.BTreeSet.{insert_key}
use Rattle.std.specs.declared.cmp.Ordering.{Ordering}
use Rattle.std.specs.declared.cmp.Ordering.TheVariants.{Less, Equal, Greater}
use Rattle.std.proofs.lemmas.Bool.{true≢false, false≢true, eqb-true, eq-eqb}
use Rattle.std.proofs.lemmas.Bool.Decides.{nat_tests}
use Rattle.std.proofs.lemmas.List.Elements.{All-nil, All-cons, All-head, All-tail, All-weaker}
use Rattle.std.proofs.lemmas.List.Kept.{AllPairs-cons}
use Rattle.std.proofs.lemmas.Map.Views.{All-insert_key}
use Rattle.scene_model.specs.Scenes.{lives, IdsAscend}
use Rattle.scene_model.specs.Ids.{ascending}

-- two numbers compare as equal exactly where they are
pub is_eq-nat_cmp : (x y : ℕ) → is_eq (nat_cmp x y) ≡ eqb y x
is_eq-nat_cmp x y = grind (arith, nat_tests)

-- two tests in the other order, and one test twice
or_swap : (a b c : Bool) → (a || (b || c)) ≡ (b || (a || c))
or_swap true true c = refl
or_swap true false c = refl
or_swap false b c = refl

or_twice : (a b : Bool) → (a || b) ≡ (a || (a || b))
or_twice true b = refl
or_twice false b = refl

-- what a list of keys with one more has
insert_step : (test : ℕ → Bool) (key other : ℕ) (keys inserted : List ℕ) → list_any test inserted ≡ (test key || list_any test keys) → (order : Ordering) → nat_cmp key other ≡ order
    → list_any test (match_ordering order (key ∷ other ∷ keys) (other ∷ keys) (other ∷ inserted)) ≡ (test key || (test other || list_any test keys))
insert_step test key other keys inserted e Less o = refl
insert_step test key other keys inserted e Equal o =
    let same : other ≡ key = eqb-true other key (sym (is_eq-nat_cmp key other) ∙ ap is_eq o) in
    ap (λ one. test one || list_any test keys) same ∙ or_twice (test key) (list_any test keys) ∙ ap (λ one. test key || (test one || list_any test keys)) (sym same)
insert_step test key other keys inserted e Greater o = ap (λ b. test other || b) e ∙ or_swap (test other) (test key) (list_any test keys)

any-insert_key : (test : ℕ → Bool) (key : ℕ) (keys : List ℕ) → list_any test (insert_key nat_cmp keys key) ≡ (test key || list_any test keys)
any-insert_key test key [] = refl
any-insert_key test key (other ∷ keys) = insert_step test key other keys (insert_key nat_cmp keys key) (any-insert_key test key keys) (nat_cmp key other) refl

-- an id stands among ids in order exactly where it stands in the list
pub lives-ascending : (id : ℕ) (ids : List ℕ) → lives id (ascending ids) ≡ lives id ids
lives-ascending id [] = refl
lives-ascending id (one ∷ ids) = any-insert_key (λ other. eqb other id) one (ascending ids) ∙ ap (λ b. eqb one id || b) (lives-ascending id ids)

-- of numbers that ascend the first is below the others, and these ascend
rest-above : (x : ℕ) (xs : List ℕ) → IdsAscend (x ∷ xs) → All (λ other. x < other) xs
rest-above x xs pairs = λ k d below. pairs 0 (suc k) d (omega arith) (omega (arith, below))

rest-ascends : (x : ℕ) (xs : List ℕ) → IdsAscend (x ∷ xs) → IdsAscend xs
rest-ascends x xs pairs = λ i j d before inside. pairs (suc i) (suc j) d (omega (arith, before)) (omega (arith, inside))

-- numbers that ascend do so with one more at its place
insert-ascends : (key : ℕ) (keys : List ℕ) → IdsAscend keys → IdsAscend (insert_key nat_cmp keys key)
insert-ascends key [] pairs = AllPairs-cons (λ one other. one < other) key [] (All-nil (λ other. key < other)) pairs
insert-ascends key (x ∷ keys) pairs = here (insert-ascends key keys (rest-ascends x keys pairs)) (nat_cmp key x) refl
  where
    here : IdsAscend (insert_key nat_cmp keys key) → (order : Ordering) → nat_cmp key x ≡ order → IdsAscend (match_ordering order (key ∷ x ∷ keys) (x ∷ keys) (x ∷ insert_key nat_cmp keys key))
    here later Less is =
        let below : key < x = grind (arith, nat_tests) in
        AllPairs-cons (λ one other. one < other) key (x ∷ keys) (All-cons (λ other. key < other) x keys below (All-weaker (λ other. x < other) (λ other. key < other) (λ other above. omega (arith, below, above)) keys (rest-above x keys pairs))) pairs
    here later Equal is = pairs
    here later Greater is =
        let above : x < key = grind (arith, nat_tests) in
        AllPairs-cons (λ one other. one < other) x (insert_key nat_cmp keys key) (All-insert_key nat_cmp key (λ other. x < other) keys (rest-above x keys pairs) above) later

-- ids in order ascend
pub in_order-ascends : (ids : List ℕ) → IdsAscend (ascending ids)
in_order-ascends [] = λ i j d before inside. absurd (omega (arith, inside))
in_order-ascends (id ∷ ids) = insert-ascends id (ascending ids) (in_order-ascends ids)

-- an id that is not above those in order is none of them
pub not-above : (id : ℕ) (xs : List ℕ) → All (λ other. id < other) xs → lives id xs ≡ false
not-above id [] above = refl
not-above id (x ∷ xs) above = by (eqb x id) refl (not-above id xs (All-tail (λ other. id < other) x xs above))
  where
    by : (b : Bool) → eqb x id ≡ b → lives id xs ≡ false → lives id (x ∷ xs) ≡ false
    by true same later = let over : id < x = All-head (λ other. id < other) x xs above in let is : x ≡ id = eqb-true x id same in absurd (omega (arith, over, is))
    by false differ later = ap (λ b. b || lives id xs) differ ∙ later

-- the first of some ids is one of them
first-lives : (x : ℕ) (xs : List ℕ) → lives x (x ∷ xs) ≡ true
first-lives x xs = ap (λ b. b || lives x xs) (eq-eqb x x refl)

-- two lists of ids in order that have the same ids are one
pub same-ids : (xs ys : List ℕ) → IdsAscend xs → IdsAscend ys → ((id : ℕ) → lives id xs ≡ lives id ys) → xs ≡ ys
same-ids [] [] one other same = refl
same-ids [] (y ∷ ys) one other same = absurd (false≢true (same y ∙ first-lives y ys))
same-ids (x ∷ xs) [] one other same = absurd (true≢false (sym (first-lives x xs) ∙ same x))
same-ids (x ∷ xs) (y ∷ ys) one other same =
    let head : x ≡ y = by (eqb y x) refl (sym (same x) ∙ first-lives x xs) (eqb x y) refl (same y ∙ first-lives y ys) in
    ap (λ id. id ∷ xs) head ∙ ap (λ ids. y ∷ ids) (same-ids xs ys (rest-ascends x xs one) (rest-ascends y ys other) (λ id. rest id head (eqb x id) refl))
  where
    -- where the heads differ, each stands behind the other
    by : (b : Bool) → eqb y x ≡ b → (eqb y x || lives x ys) ≡ true → (c : Bool) → eqb x y ≡ c → (eqb x y || lives y xs) ≡ true → x ≡ y
    by true is there c e back = sym (eqb-true y x is)
    by false differ there true is back = eqb-true x y is
    by false differ there false differs back =
        let behind : lives x ys ≡ true = sym (ap (λ b. b || lives x ys) differ) ∙ there in
        let before : lives y xs ≡ true = sym (ap (λ b. b || lives y xs) differs) ∙ back in
        let over : y < x = above x y ys (rest-above y ys other) behind in
        let under : x < y = above y x xs (rest-above x xs one) before in
        absurd (omega (arith, over, under))
      where
        above : (id least : ℕ) (ids : List ℕ) → All (λ other. least < other) ids → lives id ids ≡ true → least < id
        above id least [] all there = absurd (false≢true there)
        above id least (z ∷ ids) all there = here (eqb z id) refl there (above id least ids (All-tail (λ other. least < other) z ids all))
          where
            here : (b : Bool) → eqb z id ≡ b → (b || lives id ids) ≡ true → (lives id ids ≡ true → least < id) → least < id
            here true is there later = subst (λ other. least < other) (eqb-true z id is) (All-head (λ other. least < other) z ids all)
            here false is there later = later there

    rest : (id : ℕ) → x ≡ y → (b : Bool) → eqb x id ≡ b → lives id xs ≡ lives id ys
    rest id head true is =
        let at_x : x ≡ id = eqb-true x id is in
        let at_y : y ≡ id = sym head ∙ at_x in
        not-above id xs (subst (λ least. All (λ other. least < other) xs) at_x (rest-above x xs one)) ∙ sym (not-above id ys (subst (λ least. All (λ other. least < other) ys) at_y (rest-above y ys other)))
    rest id head false differ = ap (λ b. b || lives id xs) (sym differ) ∙ same id ∙ ap (λ b. b || lives id ys) (ap (λ z. eqb z id) (sym head) ∙ differ)

-- which ids are kept of some
pub lives-kept : (test : ℕ → Bool) (id : ℕ) (xs : List ℕ) → lives id (filter test xs) ≡ (lives id xs && test id)
lives-kept test id [] = refl
lives-kept test id (x ∷ xs) = by (test x) refl (eqb x id) refl (lives-kept test id xs)
  where
    by : (kept : Bool) → test x ≡ kept → (b : Bool) → eqb x id ≡ b → lives id (filter test xs) ≡ (lives id xs && test id) → lives id (cond kept (x ∷ filter test xs) (filter test xs)) ≡ ((b || lives id xs) && test id)
    by true is true same later = ap (λ b. b || lives id (filter test xs)) same ∙ sym is ∙ ap test (eqb-true x id same)
    by true is false differ later = ap (λ b. b || lives id (filter test xs)) differ ∙ later
    by false is true same later = later ∙ none (lives id xs) (sym (ap test (eqb-true x id same)) ∙ is) ∙ sym (sym (ap test (eqb-true x id same)) ∙ is)
      where
        none : (b : Bool) → test id ≡ false → (b && test id) ≡ false
        none true e = e
        none false e = refl
    by false is false differ later = later

-- ids and one behind them
pub lives-behind : (id last : ℕ) (xs : List ℕ) → lives id (xs ++ last ∷ []) ≡ (lives id xs || eqb last id)
lives-behind id last [] = by (eqb last id)
  where
    by : (b : Bool) → (b || false) ≡ b
    by true = refl
    by false = refl
lives-behind id last (x ∷ xs) = ap (λ b. eqb x id || b) (lives-behind id last xs) ∙ by (eqb x id)
  where
    by : (b : Bool) → (b || (lives id xs || eqb last id)) ≡ ((b || lives id xs) || eqb last id)
    by true = refl
    by false = refl

-- ids that ascend do so with a greater one behind them
pub behind-ascends : (last : ℕ) (xs : List ℕ) → IdsAscend xs → All (λ id. id < last) xs → IdsAscend (xs ++ last ∷ [])
behind-ascends last [] pairs below = AllPairs-cons (λ one other. one < other) last [] (All-nil (λ other. last < other)) pairs
behind-ascends last (x ∷ xs) pairs below =
    AllPairs-cons (λ one other. one < other) x (xs ++ last ∷ []) (above xs (rest-above x xs pairs)) (behind-ascends last xs (rest-ascends x xs pairs) (All-tail (λ id. id < last) x xs below))
  where
    above : (ids : List ℕ) → All (λ other. x < other) ids → All (λ other. x < other) (ids ++ last ∷ [])
    above [] all = All-cons (λ other. x < other) last [] (All-head (λ id. id < last) x xs below) all
    above (z ∷ ids) all = All-cons (λ other. x < other) z (ids ++ last ∷ []) (All-head (λ other. x < other) z ids all) (above ids (All-tail (λ other. x < other) z ids all))
