-- Facts on groups in the order of falling time, on the least of some numbers, and on the groups of each worker.
use Rattle.std.proofs.Common.{◌≡◌, ℕ, ◌<◌, ◌≤◌, ◌+◌, zero, suc, Bool, true, false, ◌||◌, ◌&&◌, cond, List, [], ◌∷◌, ◌++◌, length, map, get_or, take, refl, ap, sym, ◌∙◌, arith, ◌⊎◌, inl, inr}
use Rattle.std.proofs.Math.Dec.{ltb, eqb}
use Rattle.std.specs.List.{sum_by, IsFirstBest}
use Rattle.std.specs.List.Sorted.{IsPermutation}
use Rattle.std.proofs.lemmas.Bool.{ltb-true, ltb-false, eqb-true, lt-ltb, le-ltb, eq-eqb, or_cases, and_parts, true≢false, cases_Bool, cases_order}
use Rattle.std.proofs.lemmas.List.Sums.{sum_by-cons}
use Rattle.std.proofs.Common.{ap₂, nat_cmp, is_lt, Less, Equal, Greater, IsSortedBy}
use Rattle.std.specs.List.{enumerate_from}
use Rattle.std.proofs.Math.Seq.{take-suc}
use Rattle.shred_crew.proofs.ShareLemmas.{enumerate-push}
use Rattle.std.proofs.lemmas.List.{map-append, length-take-le, get_or-map, length-map, get_or_default}
use Rattle.std.proofs.lemmas.List.MinMax.{IsFirstBest-unique, IsStrictWeakOrder-by_number}
use Rattle.std.proofs.lemmas.List.Sorted.{sum_by-IsPermutation, sorted_far}
use Rattle.std.specs.Cmp.{IsStrictWeakOrder}
use Rattle.std.specs.Ordering.{ordering_then}
use Rattle.std.specs.declared.cmp.Reverse.{Reverse}
use Rattle.shred_crew.specs.Cuts.{comes_before, with_group, by_falling_time, place_of_least}

-- what the test says
abbrev Before : (one other : ℕ × ℕ) → Type 0
Before one other = (other.1 < one.1) ⊎ ((other.1 ≡ one.1) × (one.0 < other.0))

before-yes : (one other : ℕ × ℕ) → comes_before one other ≡ true → Before one other
before-yes one other e = by (or_cases (ltb other.1 one.1) (eqb other.1 one.1 && ltb one.0 other.0) e)
  where
    by : (ltb other.1 one.1 ≡ true) ⊎ ((eqb other.1 one.1 && ltb one.0 other.0) ≡ true) → Before one other
    by (inl longer) = inl (ltb-true other.1 one.1 longer)
    by (inr both) = let parts = and_parts (eqb other.1 one.1) (ltb one.0 other.0) both in inr (eqb-true other.1 one.1 parts.0, ltb-true one.0 other.0 parts.1)

yes-before : (one other : ℕ × ℕ) → Before one other → comes_before one other ≡ true
yes-before one other (inl longer) = ap (λ b. b || (eqb other.1 one.1 && ltb one.0 other.0)) (lt-ltb other.1 one.1 longer)
yes-before one other (inr both) =
    ap (λ b. ltb other.1 one.1 || (b && ltb one.0 other.0)) (eq-eqb other.1 one.1 both.0) ∙ ap (λ b. ltb other.1 one.1 || b) (lt-ltb one.0 other.0 both.1) ∙ or-true (ltb other.1 one.1)
  where
    or-true : (b : Bool) → (b || true) ≡ true
    or-true true = refl
    or-true false = refl

no-before : (one other : ℕ × ℕ) → (Before one other → ⊥) → comes_before one other ≡ false
no-before one other never = by (cases_Bool (comes_before one other))
  where
    by : (comes_before one other ≡ true) ⊎ (comes_before one other ≡ false) → comes_before one other ≡ false
    by (inl is) = absurd (never (before-yes one other is))
    by (inr not_so) = not_so

before-no : (one other : ℕ × ℕ) → comes_before one other ≡ false → Before one other → ⊥
before-no one other not_so before = true≢false (sym (yes-before one other before) ∙ not_so)

one-way : (one other : ℕ × ℕ) → Before one other → Before other one → ⊥
one-way one other (inl a) (inl b) = absurd (omega (arith, a, b))
one-way one other (inl a) (inr b) = absurd (let e = b.0 in omega (arith, a, e))
one-way one other (inr a) (inl b) = absurd (let e = a.0 in omega (arith, b, e))
one-way one other (inr a) (inr b) = absurd (let h = a.1 in let k = b.1 in omega (arith, h, k))

-- one comes before another, and a third doesn't come before that: then it doesn't come before the first
none-between : (one other third : ℕ × ℕ) → Before one other → (Before third other → ⊥) → Before third one → ⊥
none-between one other third (inl a) never (inl c) = never (inl (omega (arith, a, c)))
none-between one other third (inl a) never (inr c) = never (inl (let e = c.0 in omega (arith, a, e)))
none-between one other third (inr a) never (inl c) = never (inl (let e = a.0 in omega (arith, e, c)))
none-between one other third (inr a) never (inr c) = never (inr (let e = a.0 in let d = c.0 in omega (arith, e, d), let h = a.1 in let k = c.1 in omega (arith, h, k)))

-- neither comes before the other
same-group : (one other : ℕ × ℕ) → (Before one other → ⊥) → (Before other one → ⊥) → one ≡ other
same-group (number, time) (number2, time2) a b = by (cases_order time2 time)
  where
    by_number : time2 ≡ time → (number ≡ number2) ⊎ ((number < number2) ⊎ (number2 < number)) → ◌≡◌ {A = ℕ × ℕ} (number, time) (number2, time2)
    by_number e (inl same) = cc
    by_number e (inr (inl less)) = absurd (a (inr (e, less)))
    by_number e (inr (inr more)) = absurd (b (inr (sym e, more)))

    by : (time2 ≡ time) ⊎ ((time2 < time) ⊎ (time < time2)) → ◌≡◌ {A = ℕ × ℕ} (number, time) (number2, time2)
    by (inl e) = by_number e (cases_order number number2)
    by (inr (inl less)) = absurd (a (inl less))
    by (inr (inr more)) = absurd (b (inl more))

-- no group of a list comes before one
abbrev NoneBefore : ℕ × ℕ → List (ℕ × ℕ) → Type 0
NoneBefore one [] = Unit {0}
NoneBefore one (other ∷ others) = (comes_before other one ≡ false) × NoneBefore one others

abbrev pub InOrder : List (ℕ × ℕ) → Type 0
InOrder [] = Unit {0}
InOrder (one ∷ others) = NoneBefore one others × InOrder others

-- whether a group comes before one, as a number
abbrev counts : ℕ × ℕ → ℕ × ℕ → ℕ
counts one other = cond (comes_before other one) 1 0

none-counted : (one : ℕ × ℕ) (list : List (ℕ × ℕ)) → NoneBefore one list → sum_by (counts one) list ≡ 0
none-counted one [] none = refl
none-counted one (other ∷ others) none =
    let first : counts one other ≡ 0 = ap (λ b. cond b 1 0) none.0 in
    let u = sum_by-cons (counts one) other others in
    let v = none-counted one others none.1 in
    omega (arith, first, u, v)

-- lists in order with the same groups are one
pub in-order-once : (list other : List (ℕ × ℕ)) → InOrder list → InOrder other → ((f : ℕ × ℕ → ℕ) → sum_by f list ≡ sum_by f other) → list ≡ other
in-order-once [] [] a b same = refl
in-order-once [] (y ∷ ys) a b same = absurd (let e = same (λ _. 1) in let f = sum_by-cons (λ _. 1) y ys in omega (arith, e, f))
in-order-once (x ∷ xs) [] a b same = absurd (let e = same (λ _. 1) in let f = sum_by-cons (λ _. 1) x xs in omega (arith, e, f))
in-order-once (x ∷ xs) (y ∷ ys) a b same =
    let first : x ≡ y = same-group x y (head x xs y ys b.0 same) (head y ys x xs a.0 (λ f. sym (same f))) in
    let others : (f : ℕ × ℕ → ℕ) → sum_by f xs ≡ sum_by f ys = λ f. let e = same f in let u = sum_by-cons f x xs in let v = sum_by-cons f y ys in let w : f x ≡ f y = ap f first in omega (arith, e, u, v, w) in
    ap (λ z. z ∷ xs) first ∙ ap (λ list. y ∷ list) (in-order-once xs ys a.1 b.1 others)
  where
    head : (x : ℕ × ℕ) (xs : List (ℕ × ℕ)) (y : ℕ × ℕ) (ys : List (ℕ × ℕ)) → NoneBefore y ys → ((f : ℕ × ℕ → ℕ) → sum_by f (x ∷ xs) ≡ sum_by f (y ∷ ys)) → Before x y → ⊥
    head x xs y ys none same before =
        let itself : counts y y ≡ 0 = ap (λ b. cond b 1 0) (no-before y y (λ b. one-way y y b b)) in
        let one : counts y x ≡ 1 = ap (λ b. cond b 1 0) (yes-before x y before) in
        let e = same (counts y) in
        let u = sum_by-cons (counts y) x xs in
        let v = sum_by-cons (counts y) y ys in
        let w = none-counted y ys none in
        omega (arith, itself, one, e, u, v, w)

none-with : (one other : ℕ × ℕ) (list : List (ℕ × ℕ)) → comes_before one other ≡ false → NoneBefore other list → NoneBefore other (with_group one list)
none-with one other [] after none = (after, _)
none-with one other (x ∷ xs) after none = by (comes_before one x) (none-with one other xs after none.1)
  where
    by : (b : Bool) → NoneBefore other (with_group one xs) → NoneBefore other (cond b (one ∷ x ∷ xs) (x ∷ with_group one xs))
    by true later = (after, none)
    by false later = (none.0, later)

-- none of a list comes before what comes before its first
none-before : (one other : ℕ × ℕ) (list : List (ℕ × ℕ)) → Before one other → NoneBefore other list → NoneBefore one list
none-before one other [] before none = _
none-before one other (x ∷ xs) before none = (no-before x one (none-between one other x before (before-no x other none.0)), none-before one other xs before none.1)

with-in-order : (one : ℕ × ℕ) (list : List (ℕ × ℕ)) → InOrder list → InOrder (with_group one list)
with-in-order one [] in_order = (_, _)
with-in-order one (x ∷ xs) in_order = by (comes_before one x) refl (with-in-order one xs in_order.1)
  where
    by : (b : Bool) → comes_before one x ≡ b → InOrder (with_group one xs) → InOrder (cond b (one ∷ x ∷ xs) (x ∷ with_group one xs))
    by true e later = let before = before-yes one x e in ((no-before x one (one-way one x before), none-before one x xs before in_order.0), in_order)
    by false e later = (none-with one x xs e in_order.0, later)

pub falling-in-order : (list : List (ℕ × ℕ)) → InOrder (by_falling_time list)
falling-in-order [] = _
falling-in-order (x ∷ xs) = with-in-order x (by_falling_time xs) (falling-in-order xs)

sum-with : (f : ℕ × ℕ → ℕ) (one : ℕ × ℕ) (list : List (ℕ × ℕ)) → sum_by f (with_group one list) ≡ f one + sum_by f list
sum-with f one [] = sum_by-cons f one []
sum-with f one (x ∷ xs) = by (comes_before one x) (sum-with f one xs)
  where
    by : (b : Bool) → sum_by f (with_group one xs) ≡ f one + sum_by f xs → sum_by f (cond b (one ∷ x ∷ xs) (x ∷ with_group one xs)) ≡ f one + sum_by f (x ∷ xs)
    by true u = sum_by-cons f one (x ∷ xs)
    by false u = let e = sum_by-cons f x (with_group one xs) in let v = sum_by-cons f x xs in omega (arith, e, u, v)

pub falling-sum : (f : ℕ × ℕ → ℕ) (list : List (ℕ × ℕ)) → sum_by f (by_falling_time list) ≡ sum_by f list
falling-sum f [] = refl
falling-sum f (x ∷ xs) = let e = sum-with f x (by_falling_time xs) in let u = falling-sum f xs in let v = sum_by-cons f x xs in omega (arith, e, u, v)

-- a list in order that has the groups of another
pub falling-is : (list sorted : List (ℕ × ℕ)) → IsPermutation list sorted → InOrder sorted → sorted ≡ by_falling_time list
falling-is list sorted moved in_order =
    in-order-once sorted (by_falling_time list) in_order (falling-in-order list) (λ f. sum_by-IsPermutation f list sorted moved ∙ sym (falling-sum f list))

-- what isn't before a group takes no longer, and where it takes as long its number isn't lower
not-earlier : (one other : ℕ × ℕ) → (Before one other → ⊥) → (one.1 ≤ other.1) × (other.1 ≡ one.1 → other.0 ≤ one.0)
not-earlier one other never = (by (cases_order one.1 other.1), λ e. by_number e (cases_order one.0 other.0))
  where
    by : (one.1 ≡ other.1) ⊎ ((one.1 < other.1) ⊎ (other.1 < one.1)) → one.1 ≤ other.1
    by (inl e) = omega (arith, e)
    by (inr (inl less)) = omega (arith, less)
    by (inr (inr more)) = absurd (never (inl more))

    by_number : other.1 ≡ one.1 → (one.0 ≡ other.0) ⊎ ((one.0 < other.0) ⊎ (other.0 < one.0)) → other.0 ≤ one.0
    by_number e (inl same) = omega (arith, same)
    by_number e (inr (inl less)) = absurd (never (inr (e, less)))
    by_number e (inr (inr more)) = omega (arith, more)

never-chain : (one other third : ℕ × ℕ) → (Before one other → ⊥) → (Before other third → ⊥) → Before one third → ⊥
never-chain one other third a b (inl c) =
    let u = (not-earlier one other a).0 in let v = (not-earlier other third b).0 in absurd (omega (arith, u, v, c))
never-chain one other third a b (inr c) =
    let u = (not-earlier one other a).0 in let v = (not-earlier other third b).0 in let e = c.0 in let h = c.1 in
    let p : other.1 ≡ one.1 = omega (arith, u, v, e) in
    let q : third.1 ≡ other.1 = omega (arith, u, v, e) in
    let x = (not-earlier one other a).1 p in let y = (not-earlier other third b).1 q in
    absurd (omega (arith, x, y, h))

is-order : IsStrictWeakOrder comes_before
is-order = record {
  one_way = λ x y e. no-before y x (λ b. one-way x y (before-yes x y e) b);
  chain = λ x y z e h. no-before x z (λ b. never-chain x y z (before-no x y e) (before-no y z h) b);
}

none-from : (one : ℕ × ℕ) (list : List (ℕ × ℕ)) → ((j : ℕ) (d : ℕ × ℕ) → j < length list → comes_before (get_or list j d) one ≡ false) → NoneBefore one list
none-from one [] none = _
none-from one (x ∷ xs) none = (none 0 x (omega arith), none-from one xs (λ j d h. none (suc j) d (omega (arith, h))))

order-from : (list : List (ℕ × ℕ)) → ((i j : ℕ) (d : ℕ × ℕ) → i ≤ j → j < length list → comes_before (get_or list j d) (get_or list i d) ≡ false) → InOrder list
order-from [] far = _
order-from (x ∷ xs) far = (none-from x xs (λ j d h. far 0 (suc j) d (omega arith) (omega (arith, h))), order-from xs (λ i j d h k. far (suc i) (suc j) d (omega (arith, h)) (omega (arith, k))))

-- a list of which each group isn't before the one in front of it
pub order-from-sorted : (list : List (ℕ × ℕ)) → IsSortedBy comes_before list → InOrder list
order-from-sorted list sorted = order-from list (sorted_far comes_before is-order list sorted)

-- the entries of a sorted list, as groups
abbrev pub group_of : Reverse ℕ × ℕ → ℕ × ℕ
group_of one = (one.1, one.0.0)

-- the order of the entries is that of the groups
pub entry-order : (one other : Reverse ℕ × ℕ) → is_lt (ordering_then (nat_cmp other.0.0 one.0.0) (nat_cmp one.1 other.1)) ≡ comes_before (group_of one) (group_of other)
entry-order one other = by (ltb other.0.0 one.0.0) (eqb other.0.0 one.0.0) (ltb one.1 other.1) (eqb one.1 other.1)
  where
    by : (p q r s : Bool) → is_lt (ordering_then (cond p Less (cond q Equal Greater)) (cond r Less (cond s Equal Greater))) ≡ (p || (q && r))
    by true q r s = refl
    by false true true s = refl
    by false true false true = refl
    by false true false false = refl
    by false false r s = refl

pub entries-sorted : (list : List (Reverse ℕ × ℕ)) → IsSortedBy (λ one other. is_lt (ordering_then (nat_cmp other.0.0 one.0.0) (nat_cmp one.1 other.1))) list → IsSortedBy comes_before (map group_of list)
entries-sorted [] sorted k d low h = absurd (omega (arith, h))
entries-sorted (x ∷ xs) sorted k d low h =
    let list = x ∷ xs in
    let long : length (map group_of list) ≡ length list = length-map list group_of in
    let later : get_or (map group_of list) (k + 1) d ≡ group_of (get_or list (k + 1) x) = get_or-map group_of list (k + 1) x d (omega (arith, h, long)) in
    let earlier : get_or (map group_of list) k d ≡ group_of (get_or list k x) = get_or-map group_of list k x d (omega (arith, h, long)) in
    ap₂ comes_before later earlier ∙ sym (entry-order (get_or list (k + 1) x) (get_or list k x)) ∙ sorted k x low (omega (arith, h, long))

-- the first of the least numbers
least-first : (number : ℕ) (numbers : List ℕ) → IsFirstBest ltb (number ∷ numbers) (length (number ∷ numbers)) (place_of_least (number ∷ numbers))
least-first number [] = (omega arith, alone, λ k d h. absurd (omega (arith, h)))
  where
    alone : (k : ℕ) (d : ℕ) → k < 1 → ltb (get_or (number ∷ []) k d) number ≡ false
    alone zero d h = le-ltb number number (omega arith)
    alone (suc k) d h = absurd (omega (arith, h))
least-first number (other ∷ others) = best (least-first other others) (ltb (get_or (other ∷ others) place 0) number) refl
  where
    place : ℕ
    place = place_of_least (other ∷ others)

    best : IsFirstBest ltb (other ∷ others) (length (other ∷ others)) place → (b : Bool) → ltb (get_or (other ∷ others) place 0) number ≡ b → IsFirstBest ltb (number ∷ other ∷ others) (length (number ∷ other ∷ others)) (cond b (suc place) 0)
    best (h, below, before) true e = (omega (arith, h), all, first)
      where
        all : (k : ℕ) (d : ℕ) → k < length (number ∷ other ∷ others) → ltb (get_or (number ∷ other ∷ others) k d) (get_or (other ∷ others) place d) ≡ false
        all zero d k = let less = ltb-true (get_or (other ∷ others) place 0) number e in let same = get_or_default (other ∷ others) place d 0 h in le-ltb number (get_or (other ∷ others) place d) (omega (arith, less, same))
        all (suc n) d k = below n d (omega (arith, k))

        first : (k : ℕ) (d : ℕ) → k < suc place → ltb (get_or (other ∷ others) place d) (get_or (number ∷ other ∷ others) k d) ≡ true
        first zero d k = let same = get_or_default (other ∷ others) place d 0 h in ap (λ n. ltb n number) same ∙ e
        first (suc n) d k = before n d (omega (arith, k))
    best (h, below, before) false e = (omega arith, all, λ k d none. absurd (omega (arith, none)))
      where
        all : (k : ℕ) (d : ℕ) → k < length (number ∷ other ∷ others) → ltb (get_or (number ∷ other ∷ others) k d) number ≡ false
        all zero d k = le-ltb number number (omega arith)
        all (suc n) d k =
            let low = ltb-false (get_or (other ∷ others) place 0) number e in
            let same = get_or_default (other ∷ others) place d 0 h in
            let under = ltb-false (get_or (other ∷ others) n d) (get_or (other ∷ others) place d) (below n d (omega (arith, k))) in
            le-ltb (get_or (other ∷ others) n d) number (omega (arith, low, same, under))

pub least-is : (numbers : List ℕ) (place : ℕ) → 0 < length numbers → IsFirstBest ltb numbers (length numbers) place → place ≡ place_of_least numbers
least-is [] place some best = absurd (omega (arith, some))
least-is (number ∷ numbers) place some best = IsFirstBest-unique (IsStrictWeakOrder-by_number (λ n. n)) (number ∷ numbers) (length (number ∷ numbers)) place (place_of_least (number ∷ numbers)) 0 best (least-first number numbers)

-- one more entry is read
pub entries-more : (order after : List (Reverse ℕ × ℕ)) (entry : Reverse ℕ × ℕ) (times : List ℕ) (number : ℕ) → number < length times → after ≡ order ++ entry ∷ [] → entry.1 ≡ number → entry.0.0 ≡ get_or times number entry.0.0
    → map group_of order ≡ enumerate_from 0 (take number times) → map group_of after ≡ enumerate_from 0 (take (number + 1) times)
entries-more order after entry times number h is at time e =
    let more : suc number ≡ number + 1 = omega arith in
    let long : 0 + length (take number times) ≡ number = let l = length-take-le number times (omega (arith, h)) in omega (arith, l) in
    let pushed : enumerate_from 0 (take (suc number) times) ≡ enumerate_from 0 (take number times) ++ (number, get_or times number entry.0.0) ∷ [] =
    ap (enumerate_from 0) (take-suc times number entry.0.0 h) ∙ enumerate-push 0 (take number times) (get_or times number entry.0.0) number long in
    let last : group_of entry ≡ (number, get_or times number entry.0.0) = ap₂ (λ (n t : ℕ). (n, t)) at time in
    ap (map group_of) is ∙ map-append group_of order (entry ∷ []) ∙ ap₂ (λ list one. list ++ one ∷ []) e last ∙ sym pushed ∙ ap (λ n. enumerate_from 0 (take n times)) more
