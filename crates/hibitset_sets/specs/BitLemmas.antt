-- What the words of specs/Bits.antt do under the operators of numbers.
use Rattle.std.proofs.Common.{◌≡◌, ◌≢◌, ℕ, zero, suc, ◌+◌, ◌-◌, ◌*◌, ◌%◌, ◌^◌, ◌<◌, min, max, bit_and, bit_or, bit_xor, Bool, true, false, not, ◌&&◌, ◌||◌, cond, eqb, ◌⊎◌, inl, inr, refl, sym, ap, ◌∙◌, subst, arith}
use Rattle.std.specs.Int.{bit_at, bit_not, trailing_zeros, w64}
use Rattle.std.proofs.lemmas.Bool.{cases_lt, true≢false}
use Rattle.std.proofs.lemmas.Nat.Bits.{bit_at-lt, bit_at_and, bit_at_or, bit_at_xor, bit_at_not, bit_at-zero, bit_at-pow_same, bit_at-pow_other, bit_at_cat_low, bit_at_cat_high, same_from_bits_below, bit_at-trailing_zeros, bit_at_clear_same, bit_at_clear_other}
use Rattle.hibitset_sets.specs.Bits.{has_bit, number_of}
use Rattle.hibitset_sets.specs.Operators.{differs}

below_two : (x : ℕ) → x < 2 → (x ≡ 0) ⊎ (x ≡ 1)
below_two x h = grind arith

and_of : (x y : ℕ) → (x ≡ 0) ⊎ (x ≡ 1) → (y ≡ 0) ⊎ (y ≡ 1) → eqb (min x y) 1 ≡ (eqb x 1 && eqb y 1)
and_of x y (inl p) (inl q) = rw (p, q) refl
and_of x y (inl p) (inr q) = rw (p, q) refl
and_of x y (inr p) (inl q) = rw (p, q) refl
and_of x y (inr p) (inr q) = rw (p, q) refl

or_of : (x y : ℕ) → (x ≡ 0) ⊎ (x ≡ 1) → (y ≡ 0) ⊎ (y ≡ 1) → eqb (max x y) 1 ≡ (eqb x 1 || eqb y 1)
or_of x y (inl p) (inl q) = rw (p, q) refl
or_of x y (inl p) (inr q) = rw (p, q) refl
or_of x y (inr p) (inl q) = rw (p, q) refl
or_of x y (inr p) (inr q) = rw (p, q) refl

xor_of : (x y : ℕ) → (x ≡ 0) ⊎ (x ≡ 1) → (y ≡ 0) ⊎ (y ≡ 1) → eqb ((x + y) % 2) 1 ≡ differs (eqb x 1) (eqb y 1)
xor_of x y (inl p) (inl q) = rw (p, q) refl
xor_of x y (inl p) (inr q) = rw (p, q) refl
xor_of x y (inr p) (inl q) = rw (p, q) refl
xor_of x y (inr p) (inr q) = rw (p, q) refl

not_of : (x : ℕ) → (x ≡ 0) ⊎ (x ≡ 1) → eqb (1 - x) 1 ≡ not (eqb x 1)
not_of x (inl p) = rw p refl
not_of x (inr p) = rw p refl

pub has_bit-and : (a b i : ℕ) → has_bit (bit_and a b) i ≡ (has_bit a i && has_bit b i)
unfolding has_bit
has_bit-and a b i = ap (λ x. eqb x 1) (bit_at_and a b i) ∙ and_of (bit_at a i) (bit_at b i) (below_two _ (bit_at-lt a i)) (below_two _ (bit_at-lt b i))

pub has_bit-or : (a b i : ℕ) → has_bit (bit_or a b) i ≡ (has_bit a i || has_bit b i)
unfolding has_bit
has_bit-or a b i = ap (λ x. eqb x 1) (bit_at_or a b i) ∙ or_of (bit_at a i) (bit_at b i) (below_two _ (bit_at-lt a i)) (below_two _ (bit_at-lt b i))

pub has_bit-xor : (a b i : ℕ) → has_bit (bit_xor a b) i ≡ differs (has_bit a i) (has_bit b i)
unfolding has_bit
has_bit-xor a b i = ap (λ x. eqb x 1) (bit_at_xor a b i) ∙ xor_of (bit_at a i) (bit_at b i) (below_two _ (bit_at-lt a i)) (below_two _ (bit_at-lt b i))

pub has_bit-not : (a i : ℕ) → a < 2 ^ 64 → i < 64 → has_bit (bit_not w64 a) i ≡ not (has_bit a i)
unfolding has_bit
has_bit-not a i fits within = ap (λ x. eqb x 1) (bit_at_not w64 a i fits within) ∙ not_of (bit_at a i) (below_two _ (bit_at-lt a i))

pub has_bit-zero : (i : ℕ) → has_bit 0 i ≡ false
unfolding has_bit
has_bit-zero i = ap (λ x. eqb x 1) (bit_at-zero i)

one_of : (x : ℕ) → (x ≡ 0) ⊎ (x ≡ 1) → (b : Bool) → eqb x 1 ≡ b → x ≡ cond b 1 0
one_of x (inl p) b e = subst (λ c. x ≡ cond c 1 0) (sym (ap (λ y. eqb y 1) p) ∙ e) p
one_of x (inr p) b e = subst (λ c. x ≡ cond c 1 0) (sym (ap (λ y. eqb y 1) p) ∙ e) p

-- two words with the same bits are one
pub same_from_has_bit : (a b : ℕ) → a < 2 ^ 64 → b < 2 ^ 64 → ((i : ℕ) → i < 64 → has_bit a i ≡ has_bit b i) → a ≡ b
unfolding has_bit
same_from_has_bit a b a_fits b_fits same =
    same_from_bits_below 64 a b a_fits b_fits (λ i h. one_of (bit_at a i) (below_two _ (bit_at-lt a i)) _ (same i h) ∙ sym (one_of (bit_at b i) (below_two _ (bit_at-lt b i)) _ refl))

-- what has a bit isn't zero
pub nonzero_of_has_bit : (a i : ℕ) → has_bit a i ≡ true → 0 < a
nonzero_of_has_bit zero i h = absurd (true≢false (sym h ∙ has_bit-zero i))
nonzero_of_has_bit (suc a) i h = omega arith

-- the lowest bit of a word that isn't zero
pub lowest_bit : (a : ℕ) → 0 < a → a < 2 ^ 64 → (trailing_zeros w64 a < 64) × (has_bit a (trailing_zeros w64 a) ≡ true) × ((i : ℕ) → i < trailing_zeros w64 a → has_bit a i ≡ false)
unfolding has_bit
lowest_bit a some fits =
    let facts = bit_at-trailing_zeros w64 a some fits in
    (facts.0, ap (λ x. eqb x 1) facts.1, λ i h. ap (λ x. eqb x 1) (facts.2 i h))

pub number_of-lt : (n : ℕ) (test : ℕ → Bool) → number_of n test < 2 ^ n
unfolding number_of
number_of-lt zero test = omega arith
number_of-lt (suc n) test =
    let low = number_of-lt n test in
    elim (test n) as (λ t. cond t (2 ^ n) 0 + number_of n test < 2 ^ suc n) [ true ↦ grind arith | false ↦ grind arith ]

top_bit : (n : ℕ) (test : ℕ → Bool) (t : Bool) → bit_at (cond t 1 0 * 2 ^ n + number_of n test) n ≡ cond t 1 0
top_bit n test t =
    bit_at_cat_high (cond t 1 0) n (number_of n test) n (number_of-lt n test) (omega arith)
    ∙ elim t as (λ t. bit_at (cond t 1 0) (n - n) ≡ cond t 1 0) [ true ↦ ap (bit_at 1) (let e : n - n ≡ 0 = omega arith in e) | false ↦ bit_at-zero (n - n) ]

number_of-suc : (n : ℕ) (test : ℕ → Bool) → number_of (suc n) test ≡ cond (test n) 1 0 * 2 ^ n + number_of n test
unfolding number_of
number_of-suc n test = elim (test n) as (λ t. cond t (2 ^ n) 0 + number_of n test ≡ cond t 1 0 * 2 ^ n + number_of n test) [ true ↦ omega arith | false ↦ omega arith ]

pub has_bit-number_of : (n : ℕ) (test : ℕ → Bool) (i : ℕ) → i < n → has_bit (number_of n test) i ≡ test i
unfolding has_bit
has_bit-number_of zero test i h = absurd (omega arith)
has_bit-number_of (suc n) test i h =
    ap (λ x. eqb (bit_at x i) 1) (number_of-suc n test)
    ∙ elim (cases_lt i n) [
      | inl below ↦ ap (λ x. eqb x 1) (bit_at_cat_low (cond (test n) 1 0) n (number_of n test) i below) ∙ has_bit-number_of n test i below
      | inr above ↦
          let at : i ≡ n = omega arith in
          subst (λ j. eqb (bit_at (cond (test n) 1 0 * 2 ^ n + number_of n test) j) 1 ≡ test j) (sym at)
          (ap (λ x. eqb x 1) (top_bit n test (test n)) ∙ elim (test n) as (λ t. eqb (cond t 1 0) 1 ≡ t) [ true ↦ refl | false ↦ refl ])
    ]

-- the same word, without its bit at k
pub has_bit-cleared_same : (word k : ℕ) → k < 64 → has_bit (bit_and word (bit_not w64 (1 * 2 ^ k % 2 ^ 64))) k ≡ false
unfolding has_bit
has_bit-cleared_same word k within = ap (λ x. eqb x 1) (bit_at_clear_same w64 word k within)

pub has_bit-cleared_other : (word k : ℕ) → k < 64 → (i : ℕ) → i < 64 → i ≢ k → has_bit (bit_and word (bit_not w64 (1 * 2 ^ k % 2 ^ 64))) i ≡ has_bit word i
unfolding has_bit
has_bit-cleared_other word k within i i_within other = ap (λ x. eqb x 1) (bit_at_clear_other w64 word k within i i_within other)

-- the same word, with its bit at k
pub has_bit-set_same : (word k : ℕ) → k < 64 → has_bit (bit_or word (2 ^ k)) k ≡ true
unfolding has_bit
has_bit-set_same word k within = has_bit-or word (2 ^ k) k ∙ ap (λ x. has_bit word k || eqb x 1) (bit_at-pow_same k) ∙ elim (has_bit word k) as (λ b. (b || true) ≡ true) [ true ↦ refl | false ↦ refl ]

pub has_bit-set_other : (word k i : ℕ) → i ≢ k → has_bit (bit_or word (2 ^ k)) i ≡ has_bit word i
unfolding has_bit
has_bit-set_other word k i other = has_bit-or word (2 ^ k) i ∙ ap (λ x. has_bit word i || eqb x 1) (bit_at-pow_other k i other) ∙ elim (has_bit word i) as (λ b. (b || false) ≡ b) [ true ↦ refl | false ↦ refl ]
