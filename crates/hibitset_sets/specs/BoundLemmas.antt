-- How many words a walk over kept sets reads at most: three a member of the smallest, and one.
use Rattle.std.proofs.Common.{◌≡◌, ◌≢◌, ℕ, zero, suc, ◌+◌, ◌*◌, ◌<◌, ◌≤◌, [], ◌∷◌, length, filter, Bool, true, false, not, cond, eqb, inl, inr, refl, sym, ap, ◌∙◌, arith, mul_comm, min}
use Rattle.std.specs.List.{range_with_len}
use Rattle.std.specs.Int.{trailing_zeros, w64}
use Rattle.std.proofs.lemmas.Bool.{cases_eq, true≢false, and_parts}
use Rattle.hibitset_sets.specs.Bits.{has_bit}
use Rattle.hibitset_sets.specs.Words.{word_of, layer_bits}
use Rattle.hibitset_sets.specs.Walk.{walk, sum_over, words_under}
use Rattle.hibitset_sets.specs.BitLemmas.{lowest_bit, has_bit-and}
use Rattle.hibitset_sets.specs.Operators.{words_of_and}
use Rattle.std.proofs.Math.Nat.{mul-le-mul_left}
use Rattle.hibitset_sets.specs.WordLemmas.{has_bit-word_at, word_of-lt, layer_bits-above, layer_bits-members}

-- ---- sums

-- the sum over all numbers below n
sum_below : ℕ → (ℕ → ℕ) → ℕ
sum_below zero f = 0
sum_below (suc n) f = f n + sum_below n f

sum_below-member : (n k : ℕ) (f : ℕ → ℕ) → k < n → f k ≤ sum_below n f
unfolding sum_below
sum_below-member zero k f low = absurd (omega arith)
sum_below-member (suc n) k f low =
    elim (cases_eq k n) [
      | inl here ↦ let e = ap f here in omega arith
      | inr there ↦ let rest = sum_below-member n k f (omega arith) in omega arith
    ]

-- what is at most k times g at each set bit is at most k times the sum of g
sum_over-le : (n word k : ℕ) (f g : ℕ → ℕ) → ((i : ℕ) → i < n → has_bit word i ≡ true → f i ≤ k * g i) → sum_over n word f ≤ k * sum_below n g
unfolding sum_over sum_below
sum_over-le zero word k f g at = omega arith
sum_over-le (suc n) word k f g at =
    let rest = sum_over-le n word k f g (λ i low set. at i (omega arith) set) in
    elim (has_bit word n) as (λ b. has_bit word n ≡ b → cond b (f n) 0 + sum_over n word f ≤ k * (g n + sum_below n g)) [
      | true ↦ λ set. let here = at n (omega arith) set in grind arith
      | false ↦ λ clear. grind arith
    ] refl

-- more bits and more at each bit give a greater sum
sum_over-mono : (n word word' : ℕ) (f g : ℕ → ℕ) → ((i : ℕ) → i < n → has_bit word i ≡ true → has_bit word' i ≡ true) → ((i : ℕ) → f i ≤ g i) → sum_over n word f ≤ sum_over n word' g
unfolding sum_over
sum_over-mono zero word word' f g more at = omega arith
sum_over-mono (suc n) word word' f g more at =
    let rest = sum_over-mono n word word' f g (λ i low set. more i (omega arith) set) at in
    elim (has_bit word n) as (λ b. has_bit word n ≡ b → cond b (f n) 0 + sum_over n word f ≤ cond (has_bit word' n) (g n) 0 + sum_over n word' g) [
      | true ↦ λ set.
          let here = at n in
          let e = ap (λ b. cond b (g n) 0 + sum_over n word' g) (more n (omega arith) set) in
          omega arith
      | false ↦ λ clear. omega arith
    ] refl

sum_over-times : (n word k : ℕ) (f g : ℕ → ℕ) → ((i : ℕ) → f i ≡ k * g i) → sum_over n word f ≡ k * sum_over n word g
unfolding sum_over
sum_over-times zero word k f g at = omega arith
sum_over-times (suc n) word k f g at =
    let rest = sum_over-times n word k f g at in
    let here = at n in
    elim (has_bit word n) as (λ b. cond b (f n) 0 + sum_over n word f ≡ k * (cond b (g n) 0 + sum_over n word g)) [ true ↦ grind arith | false ↦ grind arith ]

-- ---- words under a bit

-- a word read from k sets costs k times one
pub under-times : (reads : ℕ → ℕ) (words : ℕ → ℕ → ℕ) (k : ℕ) → ((layer : ℕ) → reads layer ≡ k) → (layer number : ℕ) → words_under reads words layer number ≡ k * words_under (λ _. 1) words layer number
unfolding words_under
under-times reads words k same zero number = omega arith
under-times reads words k same (suc layer) number =
    let rest = sum_over-times 64 (words layer number) k (λ i. words_under reads words layer (64 * number + i)) (λ i. words_under (λ _. 1) words layer (64 * number + i)) (λ i. under-times reads words k same layer (64 * number + i)) in
    let here = same layer in
    grind arith

-- fewer bits, fewer words
pub under-mono : (words words' : ℕ → ℕ → ℕ) → ((layer i k : ℕ) → has_bit (words layer i) k ≡ true → has_bit (words' layer i) k ≡ true) → (layer number : ℕ) → words_under (λ _. 1) words layer number ≤ words_under (λ _. 1) words' layer number
unfolding words_under
under-mono words words' more zero number = omega arith
under-mono words words' more (suc layer) number =
    let rest = sum_over-mono 64 (words layer number) (words' layer number) (λ i. words_under (λ _. 1) words layer (64 * number + i)) (λ i. words_under (λ _. 1) words' layer (64 * number + i)) (λ i low set. more layer number i set) (λ i. under-mono words words' more layer (64 * number + i)) in
    omega arith

-- ---- members under a bit

-- how many members stand under the bit of that number of a layer
members_under : (ℕ → Bool) → ℕ → ℕ → ℕ
members_under members zero number = cond (members number) 1 0
members_under members (suc layer) number = sum_below 64 (λ i. members_under members layer (64 * number + i))

-- a bit of a layer's word is a bit of the layer
pub bit-layer : (members : ℕ → Bool) (layer number i : ℕ) → i < 64 → has_bit (word_of members layer number) i ≡ layer_bits members layer (64 * number + i)
unfolding word_of
bit-layer members layer number i low = has_bit-word_at (layer_bits members layer) number i low

pub word-some : (members : ℕ → Bool) (layer number : ℕ) → layer_bits members (suc layer) number ≡ true → word_of members layer number ≢ 0
word-some members layer number set zeroed = true≢false (sym set ∙ layer_bits-above members layer number ∙ ap (λ w. not (eqb w 0)) zeroed)

one-if : (b : Bool) → b ≡ true → 1 ≤ cond b 1 0
one-if true set = omega arith
one-if false set = absurd (true≢false (sym set))

-- under a bit that is set there is a member
some-under : (members : ℕ → Bool) (layer number : ℕ) → layer_bits members layer number ≡ true → 1 ≤ members_under members layer number
unfolding members_under
some-under members zero number set = one-if (members number) (sym (layer_bits-members members number) ∙ set)
some-under members (suc layer) number set =
    let some = word-some members layer number set in
    let lowest = lowest_bit (word_of members layer number) (omega arith) (word_of-lt members layer number) in
    let place = trailing_zeros w64 (word_of members layer number) in
    let below = some-under members layer (64 * number + place) (sym (bit-layer members layer number place lowest.0) ∙ lowest.1) in
    let part = sum_below-member 64 place (λ i. members_under members layer (64 * number + i)) lowest.0 in
    omega arith

-- under a bit that is set a walk reads at most one word for each layer and member
under-le : (members : ℕ → Bool) (layer number : ℕ) → layer_bits members layer number ≡ true → words_under (λ _. 1) (word_of members) layer number ≤ layer * members_under members layer number
unfolding words_under members_under
under-le members zero number set = omega arith
under-le members (suc layer) number set =
    let rest = sum_over-le 64 (word_of members layer number) layer (λ i. words_under (λ _. 1) (word_of members) layer (64 * number + i)) (λ i. members_under members layer (64 * number + i)) (λ i low bit. under-le members layer (64 * number + i) (sym (bit-layer members layer number i low) ∙ bit)) in
    let some = some-under members (suc layer) number set in
    grind arith

-- the whole walk reads the word at the top besides
walked-le : (members : ℕ → Bool) → words_under (λ _. 1) (word_of members) 4 0 ≤ 3 * members_under members 4 0 + 1
unfolding words_under members_under
walked-le members =
    let rest = sum_over-le 64 (word_of members 3 0) 3 (λ i. words_under (λ _. 1) (word_of members) 3 (64 * 0 + i)) (λ i. members_under members 3 (64 * 0 + i)) (λ i low bit. under-le members 3 (64 * 0 + i) (sym (bit-layer members 3 0 i low) ∙ bit)) in
    omega arith

-- ---- members under a bit are members of a range

filter-parts : (x y a : ℕ) (p : ℕ → Bool) → length (filter p (range_with_len a (x + y))) ≡ length (filter p (range_with_len a x)) + length (filter p (range_with_len (a + x) y))
filter-parts zero y a p = (λ j. length (filter p (range_with_len (e0 j) (e1 j)))) ∙ (let z : length (filter p (range_with_len (a + 0) y)) ≡ 0 + length (filter p (range_with_len (a + 0) y)) = omega arith in z)
  where
    e0 : a ≡ a + 0
    e0 = omega arith

    e1 : 0 + y ≡ y
    e1 = omega arith
filter-parts (suc x) y a p =
    let rest = filter-parts x y (a + 1) p in
    let start : a + 1 + x ≡ a + suc x = omega arith in
    let moved = ap (λ s. length (filter p (range_with_len s y))) start in
    let long : suc x + y ≡ suc (x + y) = omega arith in
    ap (λ n. length (filter p (range_with_len a n))) long
    ∙ elim (p a) as (λ b. length (cond b (a ∷ filter p (range_with_len (a + 1) (x + y))) (filter p (range_with_len (a + 1) (x + y)))) ≡ length (cond b (a ∷ filter p (range_with_len (a + 1) x)) (filter p (range_with_len (a + 1) x))) + length (filter p (range_with_len (a + suc x) y))) [ true ↦ omega arith | false ↦ omega arith ]

-- n parts of the same length
filter-times : (n size a : ℕ) (p : ℕ → Bool) (f : ℕ → ℕ) → ((i : ℕ) → f i ≡ length (filter p (range_with_len (a + size * i) size))) → sum_below n f ≡ length (filter p (range_with_len a (n * size)))
unfolding sum_below
filter-times zero size a p f at = ap (λ n. length (filter p (range_with_len a n))) (let e : 0 ≡ 0 * size = omega arith in e)
filter-times (suc n) size a p f at =
    let rest = filter-times n size a p f at in
    let parts = filter-parts (n * size) size a p in
    let here = at n ∙ ap (λ s. length (filter p (range_with_len (a + s) size))) (mul_comm size n) in
    let long : n * size + size ≡ suc n * size = grind arith in
    let whole = ap (λ n. length (filter p (range_with_len a n))) long in
    omega arith

-- how many indices stand under a bit of a layer
size_of : ℕ → ℕ
size_of zero = 1
size_of (suc layer) = 64 * size_of layer

one-range : (number : ℕ) (p : ℕ → Bool) → cond (p number) 1 0 ≡ length (filter p (range_with_len number 1))
one-range number p = elim (p number) as (λ b. cond b 1 0 ≡ length (cond b (number ∷ []) [])) [ true ↦ refl | false ↦ refl ]

under-range : (members : ℕ → Bool) (layer number : ℕ) → members_under members layer number ≡ length (filter members (range_with_len (size_of layer * number) (size_of layer)))
unfolding members_under size_of
under-range members zero number = one-range number members ∙ ap (λ a. length (filter members (range_with_len a 1))) (let e : number ≡ 1 * number = omega arith in e)
under-range members (suc layer) number =
    filter-times 64 (size_of layer) (64 * size_of layer * number) members (λ i. members_under members layer (64 * number + i))
    (λ i. under-range members layer (64 * number + i) ∙ ap (λ a. length (filter members (range_with_len a (size_of layer)))) (start-of (size_of layer) number i))
  where
    start-of : (size number i : ℕ) → size * (64 * number + i) ≡ 64 * size * number + size * i
    start-of size number i = grind arith

under-walk : (members : ℕ → Bool) → members_under members 4 0 ≡ length (walk members)
unfolding size_of walk
under-walk members = under-range members 4 0

-- three words a member, and the one at the top
pub walked-bound : (members : ℕ → Bool) → words_under (λ _. 1) (word_of members) 4 0 ≤ 3 * length (walk members) + 1
walked-bound members = let le = walked-le members in let is = under-walk members in omega arith

-- ---- masks of several kept sets

-- the words of an intersection lie in those of both sets
pub and-few : (one other : ℕ → ℕ → ℕ) (n m : ℕ) → words_under (λ _. 1) one 4 0 ≤ 3 * n + 1 → words_under (λ _. 1) other 4 0 ≤ 3 * m + 1 → words_under (λ _. 1) (words_of_and one other) 4 0 ≤ 3 * min n m + 1
and-few one other n m few few' =
    let less = under-mono (words_of_and one other) one (λ layer i k set. (and_parts _ _ (sym (has_bit-and (one layer i) (other layer i) k) ∙ set)).0) 4 0 in
    let less' = under-mono (words_of_and one other) other (λ layer i k set. (and_parts _ _ (sym (has_bit-and (one layer i) (other layer i) k) ∙ set)).1) 4 0 in
    omega arith

-- a walk reads each word once from each of its sets
pub kept-few : (reads : ℕ → ℕ) (words : ℕ → ℕ → ℕ) (kept n : ℕ) → ((layer : ℕ) → reads layer ≡ kept) → words_under (λ _. 1) words 4 0 ≤ 3 * n + 1 → words_under reads words 4 0 ≤ kept * (3 * n + 1)
kept-few reads words kept n same few =
    let times = under-times reads words kept same 4 0 in
    let le = mul-le-mul_left kept few in
    omega (arith, le, times)
