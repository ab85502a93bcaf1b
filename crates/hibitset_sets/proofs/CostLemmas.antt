-- How many words a walk reads at least: under a set bit one for each layer.
use Rattle.std.proofs.Common.{◌≡◌, ◌≢◌, ℕ, zero, suc, ◌+◌, ◌*◌, ◌/◌, ◌<◌, ◌≤◌, [], ◌∷◌, length, filter, Bool, true, false, cond, inl, inr, refl, sym, ap, ◌∙◌, subst, arith}
use Rattle.std.specs.List.{All, range_with_len}
use Rattle.std.specs.Int.{trailing_zeros, w64}
use Rattle.std.proofs.lemmas.Bool.{cases_eq}
use Rattle.std.proofs.lemmas.List.Elements.{All-nil, All-cons}
use Rattle.hibitset_sets.specs.Bits.{has_bit}
use Rattle.hibitset_sets.specs.Words.{word_of, layer_bits}
use Rattle.hibitset_sets.specs.Walk.{walk, sum_over, words_under}
use Rattle.hibitset_sets.specs.BitLemmas.{lowest_bit}
use Rattle.hibitset_sets.specs.BoundLemmas.{bit-layer, word-some, walked-bound}
use Rattle.hibitset_sets.specs.WordLemmas.{is_marked-word_of, word_of-lt, StandsOver-word_of, layer_bits-members}

-- the value at a set bit is part of the sum
sum_over-bit : (n word k : ℕ) (f : ℕ → ℕ) → k < n → has_bit word k ≡ true → f k ≤ sum_over n word f
unfolding sum_over
sum_over-bit zero word k f low set = absurd (omega arith)
sum_over-bit (suc n) word k f low set =
    elim (cases_eq n k) [
      | inl here ↦
          let at : has_bit word n ≡ true = ap (has_bit word) here ∙ set in
          let value = ap f here in
          let whole = ap (λ b. cond b (f n) 0 + sum_over n word f) at in
          omega arith
      | inr there ↦ let rest = sum_over-bit n word k f (omega arith) set in omega arith
    ]

-- so are the values at two of them
sum_over-bits : (n word k l : ℕ) (f : ℕ → ℕ) → k < n → l < n → k ≢ l → has_bit word k ≡ true → has_bit word l ≡ true → f k + f l ≤ sum_over n word f
unfolding sum_over
sum_over-bits zero word k l f low low' apart set set' = absurd (omega arith)
sum_over-bits (suc n) word k l f low low' apart set set' =
    elim (cases_eq n k) [
      | inl here ↦
          let at : has_bit word n ≡ true = ap (has_bit word) here ∙ set in
          let value = ap f here in
          let whole = ap (λ b. cond b (f n) 0 + sum_over n word f) at in
          let rest = sum_over-bit n word l f (omega arith) set' in
          omega arith
      | inr there ↦
          elim (cases_eq n l) [
            | inl here' ↦
                let at : has_bit word n ≡ true = ap (has_bit word) here' ∙ set' in
                let value = ap f here' in
                let whole = ap (λ b. cond b (f n) 0 + sum_over n word f) at in
                let rest = sum_over-bit n word k f (omega arith) set in
                omega arith
            | inr there' ↦ let rest = sum_over-bits n word k l f (omega arith) (omega arith) apart set set' in omega arith
          ]
    ]

module _ (members : ℕ → Bool) where
  -- under a bit that is set a walk reads at least one word for each layer
  under-ge : (layer number : ℕ) → layer_bits members layer number ≡ true → layer ≤ words_under (λ _. 1) (word_of members) layer number
  unfolding words_under
  under-ge zero number set = omega arith
  under-ge (suc layer) number set =
      let some = word-some members layer number set in
      let lowest = lowest_bit (word_of members layer number) (omega arith) (word_of-lt members layer number) in
      let place = trailing_zeros w64 (word_of members layer number) in
      let below = under-ge layer (64 * number + place) (sym (bit-layer members layer number place lowest.0) ∙ lowest.1) in
      let part = sum_over-bit 64 (word_of members layer number) place (λ i. words_under (λ _. 1) (word_of members) layer (64 * number + i)) lowest.0 lowest.1 in
      omega arith

  above : (layer number : ℕ) → layer_bits members layer number ≡ true → layer_bits members (suc layer) (number / 64) ≡ true
  above layer number set = sym (is_marked-word_of members (suc layer) (number / 64)) ∙ StandsOver-word_of members layer number (is_marked-word_of members layer number ∙ set)

  -- over a member stands its bit of the layer below the top
  over-member : (i : ℕ) → members i ≡ true → layer_bits members 3 (64 * 0 + i / 262144) ≡ true
  over-member i member =
      subst (λ n. layer_bits members 3 n ≡ true) (let e : i / 64 / 64 / 64 ≡ 64 * 0 + i / 262144 = omega arith in e)
      (above 2 (i / 64 / 64) (above 1 (i / 64) (above 0 i (layer_bits-members members i ∙ member))))

  -- two members far apart cost at least the word at the top and three each
  walked-ge : (i j : ℕ) → i < 16777216 → j < 16777216 → members i ≡ true → members j ≡ true → i / 262144 ≢ j / 262144 → 7 ≤ words_under (λ _. 1) (word_of members) 4 0
  unfolding words_under
  walked-ge i j low low' member member' apart =
      let one = over-member i member in
      let other = over-member j member' in
      let under = under-ge 3 (64 * 0 + i / 262144) one in
      let under' = under-ge 3 (64 * 0 + j / 262144) other in
      let both = sum_over-bits 64 (word_of members 3 0) (i / 262144) (j / 262144) (λ k. words_under (λ _. 1) (word_of members) 3 (64 * 0 + k)) (omega arith) (omega arith) apart
      (bit-layer members 3 0 (i / 262144) (omega arith) ∙ one)
      (bit-layer members 3 0 (j / 262144) (omega arith) ∙ other) in
      omega arith

-- what a filter of a range keeps passes the test and is in the range
kept : (n a : ℕ) (p : ℕ → Bool) → All (λ x. (p x ≡ true) × (x < a + n)) (filter p (range_with_len a n))
kept zero a p = All-nil (λ x. (p x ≡ true) × (x < a + 0))
kept (suc n) a p =
    let start : a + 1 + n ≡ a + suc n = omega arith in
    let rest = subst (λ end. All (λ x. (p x ≡ true) × (x < end)) (filter p (range_with_len (a + 1) n))) start (kept n (a + 1) p) in
    elim (p a) as (λ b. p a ≡ b → All (λ x. (p x ≡ true) × (x < a + suc n)) (cond b (a ∷ filter p (range_with_len (a + 1) n)) (filter p (range_with_len (a + 1) n)))) [
      | true ↦ λ set. All-cons (λ x. (p x ≡ true) × (x < a + suc n)) a (filter p (range_with_len (a + 1) n)) (set, omega arith) rest
      | false ↦ λ clear. rest
    ] refl

-- a walk has members below 2 ^ 24
walk-kept : (members : ℕ → Bool) → All (λ x. (members x ≡ true) × (x < 0 + 16777216)) (walk members)
unfolding walk
walk-kept members = kept 16777216 0 members

kept-pair : (P : ℕ → Type 0) (i j : ℕ) → All P (i ∷ j ∷ []) → P i × P j
kept-pair P i j all = (all 0 0 (omega arith), all 1 0 (omega arith))

seven : (words n : ℕ) → 7 ≤ words → words ≤ 3 * n + 1 → n ≡ 2 → words ≡ 7
seven words n least most two = omega arith

-- a walk over two members far apart reads seven words
pub two-far-apart : (members : ℕ → Bool) (i j : ℕ) → walk members ≡ i ∷ j ∷ [] → i / 262144 ≢ j / 262144 → words_under (λ _. 1) (word_of members) 4 0 ≡ 7
two-far-apart members i j is apart =
    let both = kept-pair (λ x. (members x ≡ true) × (x < 0 + 16777216)) i j (subst (All (λ x. (members x ≡ true) × (x < 0 + 16777216))) is (walk-kept members)) in
    seven _ _ (walked-ge members i j both.0.1 both.1.1 both.0.0 both.1.0 apart) (walked-bound members) (ap length is)
