-- The words of virtual sets keep the laws of words.
use Rattle.std.proofs.Common.{◌≡◌, ℕ, zero, suc, ◌/◌, ◌%◌, ◌^◌, ◌<◌, Bool, true, false, not, ◌&&◌, ◌||◌, ◌⊎◌, inl, inr, refl, sym, ap, ◌∙◌, arith}
use Rattle.std.proofs.lemmas.Nat.{and_le_l, or_lt, xor_lt}
use Rattle.std.proofs.lemmas.Nat.Bits.{bit_at_ones}
use Rattle.std.proofs.lemmas.Bool.{and_parts, and_from, or_cases, or_left, or_right, eq-eqb}
use Rattle.hibitset_sets.specs.Bits.{has_bit}
use Rattle.hibitset_sets.specs.Words.{is_marked, StandsOver}
use Rattle.hibitset_sets.specs.Operators.{differs, members_of_and, members_of_or, members_of_xor, members_of_not, words_of_and, words_of_or, words_of_xor, words_of_not}
use Rattle.hibitset_sets.specs.BitLemmas.{has_bit-and, has_bit-or, has_bit-xor, has_bit-not}

-- below 2 ^ 24 the bits of layer 0 are the members
abbrev pub Agree : (ℕ → ℕ → ℕ) → (ℕ → Bool) → Type 0
Agree words members = (i : ℕ) → i < 16777216 → is_marked words 0 i ≡ members i

-- each word has 64 bits
abbrev pub Fit : (ℕ → ℕ → ℕ) → Type 0
Fit words = (layer i : ℕ) → words layer i < 2 ^ 64

has_bit-ones : (i : ℕ) → i < 64 → has_bit 18446744073709551615 i ≡ true
unfolding has_bit
has_bit-ones i within = eq-eqb _ _ (bit_at_ones 64 i within)

module _ (one other : ℕ → ℕ → ℕ) where
  pub and-over : StandsOver one → StandsOver other → StandsOver (words_of_and one other)
  and-over over over' layer number set =
      let both = and_parts _ _ (sym (has_bit-and (one layer (number / 64)) (other layer (number / 64)) (number % 64)) ∙ set) in
      has_bit-and (one (suc layer) (number / 64 / 64)) (other (suc layer) (number / 64 / 64)) (number / 64 % 64)
      ∙ and_from _ _ (over layer number both.0) (over' layer number both.1)

  pub or-over : StandsOver one → StandsOver other → StandsOver (words_of_or one other)
  or-over over over' layer number set =
      has_bit-or (one (suc layer) (number / 64 / 64)) (other (suc layer) (number / 64 / 64)) (number / 64 % 64)
      ∙ elim (or_cases _ _ (sym (has_bit-or (one layer (number / 64)) (other layer (number / 64)) (number % 64)) ∙ set)) [
        | inl h ↦ or_left _ _ (over layer number h)
        | inr h ↦ or_right _ _ (over' layer number h)
      ]

  differs_cases : (a b : Bool) → differs a b ≡ true → (a ≡ true) ⊎ (b ≡ true)
  differs_cases true b h = inl refl
  differs_cases false b h = inr h

  pub xor-over : StandsOver one → StandsOver other → StandsOver (words_of_xor one other)
  xor-over over over' zero number set =
      has_bit-or (one 1 (number / 64 / 64)) (other 1 (number / 64 / 64)) (number / 64 % 64)
      ∙ elim (differs_cases _ _ (sym (has_bit-xor (one 0 (number / 64)) (other 0 (number / 64)) (number % 64)) ∙ set)) [
        | inl h ↦ or_left _ _ (over 0 number h)
        | inr h ↦ or_right _ _ (over' 0 number h)
      ]
  xor-over over over' (suc layer) number set =
      has_bit-or (one (suc (suc layer)) (number / 64 / 64)) (other (suc (suc layer)) (number / 64 / 64)) (number / 64 % 64)
      ∙ elim (or_cases _ _ (sym (has_bit-or (one (suc layer) (number / 64)) (other (suc layer) (number / 64)) (number % 64)) ∙ set)) [
        | inl h ↦ or_left _ _ (over (suc layer) number h)
        | inr h ↦ or_right _ _ (over' (suc layer) number h)
      ]

  pub and-fit : Fit one → Fit (words_of_and one other)
  and-fit fit layer i = let f = fit layer i in let l = and_le_l (one layer i) (other layer i) in omega arith

  pub or-fit : Fit one → Fit other → Fit (words_of_or one other)
  or-fit fit fit' layer i = or_lt 64 (one layer i) (other layer i) (fit layer i) (fit' layer i)

  pub xor-fit : Fit one → Fit other → Fit (words_of_xor one other)
  xor-fit fit fit' zero i = xor_lt 64 (one 0 i) (other 0 i) (fit 0 i) (fit' 0 i)
  xor-fit fit fit' (suc layer) i = or_lt 64 (one (suc layer) i) (other (suc layer) i) (fit (suc layer) i) (fit' (suc layer) i)

  module _ (p q : ℕ → Bool) where
    pub and-agree : Agree one p → Agree other q → Agree (words_of_and one other) (members_of_and p q)
    and-agree agree agree' i within = has_bit-and (one 0 (i / 64)) (other 0 (i / 64)) (i % 64) ∙ (λ j. agree i within j && agree' i within j)

    pub or-agree : Agree one p → Agree other q → Agree (words_of_or one other) (members_of_or p q)
    or-agree agree agree' i within = has_bit-or (one 0 (i / 64)) (other 0 (i / 64)) (i % 64) ∙ (λ j. agree i within j || agree' i within j)

    pub xor-agree : Agree one p → Agree other q → Agree (words_of_xor one other) (members_of_xor p q)
    xor-agree agree agree' i within = has_bit-xor (one 0 (i / 64)) (other 0 (i / 64)) (i % 64) ∙ (λ j. differs (agree i within j) (agree' i within j))

module _ (one : ℕ → ℕ → ℕ) where
  pub not-over : StandsOver (words_of_not one)
  not-over layer number set = has_bit-ones (number / 64 % 64) (omega arith)

  pub not-fit : Fit (words_of_not one)
  not-fit zero i = omega arith
  not-fit (suc layer) i = omega arith

  pub not-agree : Fit one → (p : ℕ → Bool) → Agree one p → Agree (words_of_not one) (members_of_not p)
  not-agree fit p agree i within = has_bit-not (one 0 (i / 64)) (i % 64) (fit 0 (i / 64)) (omega arith) ∙ ap not (agree i within)

pub all-over : StandsOver (λ _ _. 18446744073709551615)
all-over layer number set = has_bit-ones (number / 64 % 64) (omega arith)

pub all-agree : (i : ℕ) → has_bit 18446744073709551615 (i % 64) ≡ true
all-agree i = has_bit-ones (i % 64) (omega arith)

pub all-fit : Fit (λ _ _. 18446744073709551615)
all-fit layer i = omega arith
