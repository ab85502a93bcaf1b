-- The indices of a word's bits: the lowest and the others, how many they are, and where a walk comes to them.
use Rattle.std.proofs.Common.{◌≡◌, ℕ, zero, suc, ◌+◌, ◌-◌, ◌*◌, ◌/◌, ◌%◌, ◌^◌, ◌<◌, ◌≤◌, List, [], ◌∷◌, ◌++◌, length, filter, Bool, true, false, cond, eqb, slice_index, slice_set, bit_and, inl, inr, refl, sym, ap, ◌∙◌, arith}
use Rattle.std.specs.List.{range_with_len}
use Rattle.std.specs.Int.{bit_not, trailing_zeros, w64}
use Rattle.std.specs.Int.Count.{ones, ones_step}
use Rattle.std.proofs.lemmas.Bool.{cases_eq}
use Rattle.std.proofs.lemmas.Nat.Bits.{bit_at_lowest, bit_at-suc}
use Rattle.hibitset_sets.specs.Bits.{has_bit, TakesBit}
use Rattle.hibitset_sets.specs.BitLemmas.{has_bit-zero}
use Rattle.hibitset_sets.specs.Walk.{walk, is_pending, word_indices, IsPlaced}
use Rattle.hibitset_sets.proofs.IterLemmas.{first-placed, taken-is, takes_lowest}
use Rattle.hibitset_sets.proofs.TakeLemmas.{taken-walk, taken-placed}
use Rattle.hibitset_sets.proofs.StepLemmas.{left-same}
use Rattle.hibitset_sets.proofs.UniteLemmas.{takes-bit}
use Rattle.hibitset_sets.proofs.WalkLemmas.{filter-first, filter-none, filter-same}

pub word-none : (place : ℕ) → word_indices place 0 ≡ []
unfolding word_indices
word-none place = filter-none 64 (64 * place) (λ index. has_bit 0 (index % 64)) (λ i low high. has_bit-zero (i % 64))

-- the index of the lowest bit comes first, and then those of the word without it
pub word-first : (place bits lowest rest : ℕ) → TakesBit bits lowest rest → word_indices place bits ≡ (64 * place + lowest) ∷ word_indices place rest
unfolding word_indices
word-first place bits lowest rest takes =
    let within = takes.within in
    let at : (64 * place + lowest) % 64 ≡ lowest = omega (arith, within) in
    filter-first 64 (64 * place) (λ index. has_bit bits (index % 64)) (λ index. has_bit rest (index % 64)) (64 * place + lowest) (omega arith) (omega (arith, within))
    (ap (has_bit bits) at ∙ takes.was)
    (λ i low before. takes.least (i % 64) (omega (arith, low, before, within)))
    (ap (has_bit rest) at ∙ takes.gone)
    (λ i low high other. sym (takes.stay (i % 64) (omega arith) (λ e. other (omega (arith, low, high, e)))))

-- ---- how many they are

bit-half : (bits i : ℕ) → has_bit bits (suc i) ≡ has_bit (bits / 2) i
unfolding has_bit
bit-half bits i = ap (λ x. eqb x 1) (bit_at-suc bits i)

bit-lowest : (bits : ℕ) → cond (has_bit bits 0) 1 0 ≡ bits % 2
unfolding has_bit
bit-lowest bits = ap (λ x. cond (eqb x 1) 1 0) (bit_at_lowest bits) ∙ by (bits % 2) (omega arith)
  where
    by : (x : ℕ) → x < 2 → cond (eqb x 1) 1 0 ≡ x
    by x low = grind (arith, low)

length-cond : (b : Bool) (x : ℕ) (xs : List ℕ) → length (cond b (x ∷ xs) xs) ≡ cond b 1 0 + length xs
length-cond true x xs = omega arith
length-cond false x xs = omega arith

count-from : (k bits first : ℕ) → bits < 2 ^ k → length (filter (λ index. has_bit bits (index - first)) (range_with_len first k)) ≡ ones bits
unfolding ones
count-from zero bits first fits = let none : bits ≡ 0 = omega (arith, fits) in sym (ap ones none)
count-from (suc k) bits first fits =
    let half : bits / 2 < 2 ^ k = omega (arith, fits) in
    let rest = count-from k (bits / 2) (first + 1) half in
    let shifted = filter-same k (first + 1) (λ index. has_bit bits (index - first)) (λ index. has_bit (bits / 2) (index - (first + 1)))
    (λ i low high. ap (has_bit bits) (let e : i - first ≡ suc (i - (first + 1)) = omega (arith, low) in e) ∙ bit-half bits (i - (first + 1))) in
    let start : first - first ≡ 0 = omega arith in
    length-cond (has_bit bits (first - first)) first (filter (λ index. has_bit bits (index - first)) (range_with_len (first + 1) k))
    ∙ ap (λ j. cond (has_bit bits j) 1 0 + length (filter (λ index. has_bit bits (index - first)) (range_with_len (first + 1) k))) start
    ∙ ap (λ n. n + length (filter (λ index. has_bit bits (index - first)) (range_with_len (first + 1) k))) (bit-lowest bits)
    ∙ ap (λ n. bits % 2 + n) (ap length shifted ∙ rest)
    ∙ sym (ones_step bits)

pub word-count : (place bits : ℕ) → bits < 2 ^ 64 → length (word_indices place bits) ≡ ones bits
unfolding word_indices
word-count place bits fits =
    ap length (filter-same 64 (64 * place) (λ index. has_bit bits (index % 64)) (λ index. has_bit bits (index - 64 * place)) (λ i low high. ap (has_bit bits) (omega (arith, low, high))))
    ∙ count-from 64 bits (64 * place) fits

-- ---- where a walk comes to them

-- the bits that are left of the word at which a walk stands come first, as they stand
pub word-walk : (fuel mask : ℕ) (masks prefix : List ℕ) (members : ℕ → Bool) → mask ≤ fuel → mask < 2 ^ 64 → length masks ≡ 3 → length prefix ≡ 3 → IsPlaced (mask ∷ masks) prefix
    → walk (is_pending members (mask ∷ masks) prefix) ≡ word_indices (slice_index prefix 0 / 64) mask ++ walk (is_pending members (0 ∷ masks) prefix)
word-walk zero mask masks prefix members few fits three prefixes placed =
    let none : mask ≡ 0 = omega (arith, few) in
    ap (λ m. walk (is_pending members (m ∷ masks) prefix)) none
    ∙ ap (λ xs. xs ++ walk (is_pending members (0 ∷ masks) prefix)) (sym (ap (word_indices (slice_index prefix 0 / 64)) none ∙ word-none (slice_index prefix 0 / 64)))
word-walk (suc fuel) mask masks prefix members few fits three prefixes placed = elim (cases_eq mask 0) [
  | inl none ↦
      ap (λ m. walk (is_pending members (m ∷ masks) prefix)) none
      ∙ ap (λ xs. xs ++ walk (is_pending members (0 ∷ masks) prefix)) (sym (ap (word_indices (slice_index prefix 0 / 64)) none ∙ word-none (slice_index prefix 0 / 64)))
  | inr some ↦
      let lowest : ℕ = trailing_zeros w64 mask in
      let rest : ℕ = bit_and mask (bit_not w64 (1 * 2 ^ lowest % 2 ^ 64)) in
      let takes = takes-bit mask (omega (arith, some)) fits in
      let less = takes.less in
      let first = first-placed (mask ∷ masks) prefix 0 prefixes placed (omega arith) some in
      let aligned = first.aligned in
      let within = first.within in
      let low = takes.within in
      let taking = takes_lowest (mask ∷ masks) 0 (omega arith) some fits in
      let taken = taken-is (mask ∷ masks) (rest ∷ masks) prefix 0 lowest first taking in
      let place : slice_index prefix 0 + lowest ≡ 64 * (slice_index prefix 0 / 64) + lowest = omega (arith, aligned) in
      taken-walk placed taken taking.others members (omega (arith, within, low))
      ∙ ap (λ xs. (slice_index prefix 0 + lowest) ∷ xs)
      (word-walk fuel rest masks prefix members (omega (arith, few, less)) (omega (arith, fits, less)) three prefixes (taken-placed placed taken taking.others))
      ∙ ap (λ i. i ∷ (word_indices (slice_index prefix 0 / 64) rest ++ walk (is_pending members (0 ∷ masks) prefix))) place
      ∙ ap (λ xs. xs ++ walk (is_pending members (0 ∷ masks) prefix)) (sym (word-first (slice_index prefix 0 / 64) mask lowest rest takes))
]

pub word-left : (masks prefix : List ℕ) (members : ℕ → Bool) → length masks ≡ 4 → length prefix ≡ 3 → slice_index masks 0 < 2 ^ 64 → IsPlaced masks prefix
    → walk (is_pending members masks prefix) ≡ word_indices (slice_index prefix 0 / 64) (slice_index masks 0) ++ walk (is_pending members (slice_set masks 0 0) prefix)
word-left [] prefix members four three fits placed = absurd (omega (arith, four))
word-left (mask ∷ masks) prefix members four three fits placed = word-walk mask mask masks prefix members (omega arith) fits (omega (arith, four)) three placed

-- where none of them is left, the others are placed as they were
pub placed-behind : (masks prefix : List ℕ) → IsPlaced masks prefix → IsPlaced (slice_set masks 0 0) prefix
placed-behind [] prefix placed layer above low high some = placed layer above low high some
placed-behind (mask ∷ masks) prefix placed zero above low high some = absurd (some refl)
placed-behind (mask ∷ masks) prefix placed (suc layer) above low high some =
    let was = placed (suc layer) above low high some in
    record {
      aligned = was.aligned;
      agrees = was.agrees;
      later = λ number left. was.later number (left-same (mask ∷ masks) prefix (0 ∷ masks) prefix (suc above) number refl refl ∙ left);
    }
