-- Facts on sets of stages that are kept in words.
use Rattle.std.proofs.Common.{◌≡◌, ◌≢◌, ℕ, zero, suc, [], ◌∷◌, ◌+◌, ◌-◌, ◌*◌, ◌/◌, ◌%◌, ◌^◌, ◌<◌, ◌≤◌, max, Bool, true, false, not, ◌||◌, ◌&&◌, bit_and, eqb, List, length, get_or, take, refl, ap, sym, ◌∙◌, arith, ◌⊎◌, inl, inr, eq-eqb, ne_eqb}
use Rattle.std.proofs.Math.ListN.{set}
use Rattle.std.specs.Prelude.{◌==◌}
use Rattle.std.specs.Prelude.{bit_or}
use Rattle.std.specs.Int.{bit_at, bit_not, w64}
use Rattle.std.proofs.lemmas.Bool.{cases_eq, cases_lt}
use Rattle.std.proofs.lemmas.List.{get_or-set_same, get_or-set_other, get_or_past, get_or-take, length-take}
use Rattle.std.proofs.lemmas.Nat.Bits.{bit_at_set_same, bit_at_set_other, bit_at_clear_same, bit_at_clear_other, bit_at_or, bit_at-zero, bit_at-lt}
use Rattle.std.specs.Int.{trailing_zeros}
use Rattle.std.proofs.lemmas.Nat.{and_le_l, shr-shr, shr_le}
use Rattle.std.proofs.lemmas.Nat.Bits.{bit_at-trailing_zeros, bit_at_and, bit_at_not, bit_at_above, bit_at_mask_above, bit_at_mask_below}
use Rattle.shred_plan.specs.Index.{is_in}
use Rattle.shred_plan.specs.Seats.{HasTwoBits}

-- a number is that of its word and its place in the word
one-place : (x y : ℕ) → x / 64 ≡ y / 64 → x % 64 ≡ y % 64 → x ≡ y
one-place x y p q = omega arith

or-true : (b : Bool) → (b || true) ≡ true
or-true true = refl
or-true false = refl

or-false : (b : Bool) → (b || false) ≡ b
or-false true = refl
or-false false = refl

-- the bit of a stage, set in its word, is that of the stage alone
pub is_in-insert : (words : List ℕ) (stage place : ℕ) → stage / 64 < length words
    → is_in (set words (stage / 64) (bit_or (get_or words (stage / 64) 0) (1 * 2 ^ (stage % 64) % 2 ^ 64))) place ≡ (is_in words place || (stage == place))
is_in-insert words stage place within = by (cases_eq (place / 64) (stage / 64)) (cases_eq (place % 64) (stage % 64))
  where
    word : ℕ
    word = bit_or (get_or words (stage / 64) 0) (1 * 2 ^ (stage % 64) % 2 ^ 64)

    small : stage % 64 < 64
    small = omega arith

    other : place ≢ stage → (is_in words place || (stage == place)) ≡ is_in words place
    other ne = ap (λ b. is_in words place || b) (ne_eqb stage place (λ e. ne (sym e))) ∙ or-false (is_in words place)

    by : (place / 64 ≡ stage / 64) ⊎ (place / 64 ≡ stage / 64 → ⊥) → (place % 64 ≡ stage % 64) ⊎ (place % 64 ≡ stage % 64 → ⊥)
        → is_in (set words (stage / 64) word) place ≡ (is_in words place || (stage == place))
    by (inl p) (inl q) =
        ap (λ w. eqb (bit_at (get_or (set words (stage / 64) word) w 0) (place % 64)) 1) p
        ∙ ap (λ w. eqb (bit_at w (place % 64)) 1) (get_or-set_same words (stage / 64) word 0 within)
        ∙ ap (λ i. eqb (bit_at word i) 1) q
        ∙ ap (λ b. eqb b 1) (bit_at_set_same w64 (get_or words (stage / 64) 0) (stage % 64) small)
        ∙ sym (ap (λ b. is_in words place || b) (eq-eqb stage place (sym (one-place place stage p q))) ∙ or-true (is_in words place))
    by (inl p) (inr nq) =
        ap (λ w. eqb (bit_at (get_or (set words (stage / 64) word) w 0) (place % 64)) 1) p
        ∙ ap (λ w. eqb (bit_at w (place % 64)) 1) (get_or-set_same words (stage / 64) word 0 within)
        ∙ ap (λ b. eqb b 1) (bit_at_set_other w64 (get_or words (stage / 64) 0) (stage % 64) small (place % 64) nq)
        ∙ ap (λ w. eqb (bit_at (get_or words w 0) (place % 64)) 1) (sym p)
        ∙ sym (other (λ e. nq (ap (λ x. x % 64) e)))
    by (inr np) q =
        ap (λ w. eqb (bit_at w (place % 64)) 1) (get_or-set_other words (stage / 64) (place / 64) word 0 np)
        ∙ sym (other (λ e. np (ap (λ x. x / 64) e)))

and-true : (b : Bool) → (b && true) ≡ b
and-true true = refl
and-true false = refl

and-false : (b : Bool) → (b && false) ≡ false
and-false true = refl
and-false false = refl

-- the bit of a stage, cleared in its word, is that of the stage alone
pub is_in-remove : (words : List ℕ) (stage place : ℕ) → stage / 64 < length words
    → is_in (set words (stage / 64) (bit_and (get_or words (stage / 64) 0) (bit_not w64 (1 * 2 ^ (stage % 64) % 2 ^ 64)))) place ≡ (is_in words place && not (stage == place))
is_in-remove words stage place within = by (cases_eq (place / 64) (stage / 64)) (cases_eq (place % 64) (stage % 64))
  where
    word : ℕ
    word = bit_and (get_or words (stage / 64) 0) (bit_not w64 (1 * 2 ^ (stage % 64) % 2 ^ 64))

    small : stage % 64 < 64
    small = omega arith

    other : place ≢ stage → (is_in words place && not (stage == place)) ≡ is_in words place
    other ne = ap (λ b. is_in words place && not b) (ne_eqb stage place (λ e. ne (sym e))) ∙ and-true (is_in words place)

    by : (place / 64 ≡ stage / 64) ⊎ (place / 64 ≡ stage / 64 → ⊥) → (place % 64 ≡ stage % 64) ⊎ (place % 64 ≡ stage % 64 → ⊥)
        → is_in (set words (stage / 64) word) place ≡ (is_in words place && not (stage == place))
    by (inl p) (inl q) =
        ap (λ w. eqb (bit_at (get_or (set words (stage / 64) word) w 0) (place % 64)) 1) p
        ∙ ap (λ w. eqb (bit_at w (place % 64)) 1) (get_or-set_same words (stage / 64) word 0 within)
        ∙ ap (λ i. eqb (bit_at word i) 1) q
        ∙ ap (λ b. eqb b 1) (bit_at_clear_same w64 (get_or words (stage / 64) 0) (stage % 64) small)
        ∙ sym (ap (λ b. is_in words place && not b) (eq-eqb stage place (sym (one-place place stage p q))) ∙ and-false (is_in words place))
    by (inl p) (inr nq) =
        ap (λ w. eqb (bit_at (get_or (set words (stage / 64) word) w 0) (place % 64)) 1) p
        ∙ ap (λ w. eqb (bit_at w (place % 64)) 1) (get_or-set_same words (stage / 64) word 0 within)
        ∙ ap (λ b. eqb b 1) (bit_at_clear_other w64 (get_or words (stage / 64) 0) (stage % 64) small (place % 64) (omega arith) nq)
        ∙ ap (λ w. eqb (bit_at (get_or words w 0) (place % 64)) 1) (sym p)
        ∙ sym (other (λ e. nq (ap (λ x. x % 64) e)))
    by (inr np) q =
        ap (λ w. eqb (bit_at w (place % 64)) 1) (get_or-set_other words (stage / 64) (place / 64) word 0 np)
        ∙ sym (other (λ e. np (ap (λ x. x / 64) e)))

-- words that read the same have the same stages
pub is_in-same : (words others : List ℕ) → ((place : ℕ) → get_or words place 0 ≡ get_or others place 0) → (place : ℕ) → is_in words place ≡ is_in others place
is_in-same words others same place = ap (λ w. eqb (bit_at w (place % 64)) 1) (same (place / 64))

max-one : (x y : ℕ) → (x ≡ 0) ⊎ (x ≡ 1) → (y ≡ 0) ⊎ (y ≡ 1) → eqb (max x y) 1 ≡ (eqb x 1 || eqb y 1)
max-one x y (inl p) (inl q) = rw (p, q) refl
max-one x y (inl p) (inr q) = rw (p, q) refl
max-one x y (inr p) (inl q) = rw (p, q) refl
max-one x y (inr p) (inr q) = rw (p, q) refl

a-bit : (x : ℕ) → x < 2 → (x ≡ 0) ⊎ (x ≡ 1)
a-bit x h = grind arith

-- the bit of two words in one
pub bit-or : (x y i : ℕ) → eqb (bit_at (bit_or x y) i) 1 ≡ (eqb (bit_at x i) 1 || eqb (bit_at y i) 1)
bit-or x y i = ap (λ b. eqb b 1) (bit_at_or x y i) ∙ max-one (bit_at x i) (bit_at y i) (a-bit _ (bit_at-lt x i)) (a-bit _ (bit_at-lt y i))

-- a word joined with that of another list, of those joined so far
pub united : (words firsts others : List ℕ) (i : ℕ) → i < length others → length others ≤ length words
    → ((word bit : ℕ) → eqb (bit_at (get_or words word 0) bit) 1 ≡ (eqb (bit_at (get_or firsts word 0) bit) 1 || eqb (bit_at (get_or (take i others) word 0) bit) 1))
    → (word bit : ℕ)
    → eqb (bit_at (get_or (set words i (bit_or (get_or words i 0) (get_or others i 0))) word 0) bit) 1
    ≡ (eqb (bit_at (get_or firsts word 0) bit) 1 || eqb (bit_at (get_or (take (i + 1) others) word 0) bit) 1)
united words firsts others i h room joined word bit = by (cases_eq word i)
  where
    test : ℕ → Bool
    test x = eqb (bit_at x bit) 1

    before : get_or (take i others) i 0 ≡ 0
    before = get_or_past (take i others) i 0 (omega (arith, length-take i others))

    own : test (get_or words i 0) ≡ test (get_or firsts i 0)
    own = joined i bit ∙ ap (λ x. test (get_or firsts i 0) || test x) before ∙ ap (λ x. test (get_or firsts i 0) || eqb x 1) (bit_at-zero bit) ∙ or-false (test (get_or firsts i 0))

    same : word ≢ i → (word < i) ⊎ (i ≤ word) → get_or (take i others) word 0 ≡ get_or (take (i + 1) others) word 0
    same ne (inl lt) = get_or-take i others word 0 lt ∙ sym (get_or-take (i + 1) others word 0 (omega arith))
    same ne (inr ge) =
        let more : i < word = omega arith in
        get_or_past (take i others) word 0 (omega (arith, length-take i others)) ∙ sym (get_or_past (take (i + 1) others) word 0 (omega (arith, length-take (i + 1) others)))

    by : (word ≡ i) ⊎ (word ≡ i → ⊥)
        → test (get_or (set words i (bit_or (get_or words i 0) (get_or others i 0))) word 0) ≡ (test (get_or firsts word 0) || test (get_or (take (i + 1) others) word 0))
    by (inl e) =
        ap (λ w. test (get_or (set words i (bit_or (get_or words i 0) (get_or others i 0))) w 0)) e
        ∙ ap test (get_or-set_same words i (bit_or (get_or words i 0) (get_or others i 0)) 0 (omega arith))
        ∙ bit-or (get_or words i 0) (get_or others i 0) bit
        ∙ ap (λ b. b || test (get_or others i 0)) own
        ∙ ap (λ x. test (get_or firsts i 0) || test x) (sym (get_or-take (i + 1) others i 0 (omega arith)))
        ∙ ap (λ w. test (get_or firsts w 0) || test (get_or (take (i + 1) others) w 0)) (sym e)
    by (inr ne) =
        ap test (get_or-set_other words i word (bit_or (get_or words i 0) (get_or others i 0)) 0 ne)
        ∙ joined word bit
        ∙ ap (λ x. test (get_or firsts word 0) || test x) (same ne (cases_lt word i))

-- two bits of a word, where it isn't empty without its lowest
pub two-bits : (word : ℕ) → word < 2 ^ 64 → word ≢ 0 → bit_and word (bit_not w64 (1 * 2 ^ trailing_zeros w64 word % 2 ^ 64)) ≢ 0 → HasTwoBits word
two-bits word fits some more = record {
  low = low;
  high = high;
  apart = λ e. ones (bit_at rest low) (bit_at_clear_same w64 word low first.0) (ap (bit_at rest) e ∙ second.1);
  is_low = first.1;
  is_high = sym (bit_at_clear_other w64 word low first.0 high second.0 (λ e. ones (bit_at rest low) (bit_at_clear_same w64 word low first.0) (ap (bit_at rest) (sym e) ∙ second.1))) ∙ second.1;
}
  where
    low : ℕ
    low = trailing_zeros w64 word

    rest : ℕ
    rest = bit_and word (bit_not w64 (1 * 2 ^ low % 2 ^ 64))

    high : ℕ
    high = trailing_zeros w64 rest

    first : (low < 64) × (bit_at word low ≡ 1) × ((i : ℕ) → i < low → bit_at word i ≡ 0)
    first = bit_at-trailing_zeros w64 word (omega (arith, some)) fits

    second : (high < 64) × (bit_at rest high ≡ 1) × ((i : ℕ) → i < high → bit_at rest i ≡ 0)
    second = bit_at-trailing_zeros w64 rest (omega (arith, more)) (omega (arith, fits, and_le_l word (bit_not w64 (1 * 2 ^ low % 2 ^ 64))))

    ones : (n : ℕ) → n ≡ 0 → n ≡ 1 → ⊥
    ones n e f = absurd (omega (arith, e, f))

-- the bits of a word that a mask leaves
masked : (word low high bit : ℕ) → bit_at (bit_and word (2 ^ high - 2 ^ low)) bit ≡ 1 → (low ≤ bit) × (bit < high) × (bit_at word bit ≡ 1)
masked word low high bit is =
    let both = bit_at_and word (2 ^ high - 2 ^ low) bit in
    let ours = bit_at-lt word bit in
    let theirs = bit_at-lt (2 ^ high - 2 ^ low) bit in
    (from (cases_lt bit low) (omega (arith, is, both, ours, theirs)), upto (cases_lt bit high) (omega (arith, is, both, ours, theirs)), omega (arith, is, both, ours, theirs))
  where
    from : (bit < low) ⊎ (low ≤ bit) → bit_at (2 ^ high - 2 ^ low) bit ≡ 1 → low ≤ bit
    from (inl h) e = absurd (omega (arith, e, bit_at_mask_below low high bit h))
    from (inr h) e = h

    upto : (bit < high) ⊎ (high ≤ bit) → bit_at (2 ^ high - 2 ^ low) bit ≡ 1 → bit < high
    upto (inl h) e = h
    upto (inr h) e = absurd (omega (arith, e, bit_at_mask_above low high bit h))

-- the bits that are left of a word by one of its four masks
pub sixteen-of : (word stage bit : ℕ) → bit_at (bit_and word (get_or (65535 ∷ 4294901760 ∷ 281470681743360 ∷ 18446462598732840960 ∷ []) (stage % 4) 0)) bit ≡ 1
    → (16 * (stage % 4) ≤ bit) × (bit < 16 * (stage % 4) + 16) × (bit_at word bit ≡ 1)
sixteen-of word stage bit is = by (stage % 4) (omega arith) is
  where
    by : (k : ℕ) → k < 4 → bit_at (bit_and word (get_or (65535 ∷ 4294901760 ∷ 281470681743360 ∷ 18446462598732840960 ∷ []) k 0)) bit ≡ 1
        → (16 * k ≤ bit) × (bit < 16 * k + 16) × (bit_at word bit ≡ 1)
    by zero h e = masked word 0 16 bit e
    by (suc zero) h e = masked word 16 32 bit e
    by (suc (suc zero)) h e = masked word 32 48 bit e
    by (suc (suc (suc zero))) h e = masked word 48 64 bit e
    by (suc (suc (suc (suc k)))) h e = absurd (omega arith)

-- a bit of a word is that of its number
pub is_in-bit : (words : List ℕ) (word bit : ℕ) → bit < 64 → bit_at (get_or words word 0) bit ≡ 1 → is_in words (64 * word + bit) ≡ true
is_in-bit words word bit small is =
    let at : (64 * word + bit) / 64 ≡ word = omega arith in
    let rest : (64 * word + bit) % 64 ≡ bit = omega arith in
    ap (λ w. eqb (bit_at (get_or words w 0) ((64 * word + bit) % 64)) 1) at
    ∙ ap (λ i. eqb (bit_at (get_or words word 0) i) 1) rest
    ∙ ap (λ b. eqb b 1) is

-- ---- the next bit of a word

-- the bits of what is left of a word without its lowest
shifted : (word from bit : ℕ) → from ≤ bit → bit_at word bit ≡ bit_at (word / 2 ^ from) (bit - from)
shifted word from bit upto = sym (ap (λ n. n % 2) (shr-shr word from (bit - from)) ∙ ap (λ n. word / 2 ^ n % 2) (let e : from + (bit - from) ≡ bit = omega (arith, upto) in e))

-- where nothing is left, there is none
pub none-left : (word from bit : ℕ) → word / 2 ^ from ≡ 0 → from ≤ bit → bit_at word bit ≡ 0
none-left word from bit none upto = shifted word from bit upto ∙ ap (λ rest. bit_at rest (bit - from)) none ∙ bit_at-zero (bit - from)

-- else the first stands where the lowest of what is left does
pub record FirstLeft (word from place : ℕ) : Type 0 where
  pub end : place ≤ 64
  pub passed : (bit : ℕ) → from ≤ bit → bit < place → bit_at word bit ≡ 0
  pub found : bit_at word place ≡ 1

pub first-left : (word from : ℕ) → word < 2 ^ 64 → word / 2 ^ from ≢ 0 → FirstLeft word from (from + trailing_zeros w64 (word / 2 ^ from))
first-left word from fits some = record {
  end = within (cases_lt (from + low) 64);
  passed = λ bit upto before. shifted word from bit upto ∙ lowest.2 (bit - from) (omega (arith, upto, before));
  found = here;
}
  where
    low : ℕ
    low = trailing_zeros w64 (word / 2 ^ from)

    lowest : (low < 64) × (bit_at (word / 2 ^ from) low ≡ 1) × ((i : ℕ) → i < low → bit_at (word / 2 ^ from) i ≡ 0)
    lowest = bit_at-trailing_zeros w64 (word / 2 ^ from) (omega (arith, some)) (omega (arith, fits, shr_le word from))

    here : bit_at word (from + low) ≡ 1
    here = shifted word from (from + low) (omega arith) ∙ ap (bit_at (word / 2 ^ from)) (let e : from + low - from ≡ low = omega arith in e) ∙ lowest.1

    within : (from + low < 64) ⊎ (64 ≤ from + low) → from + low ≤ 64
    within (inl h) = omega (arith, h)
    within (inr h) = absurd (omega (arith, here, bit_at_above word 64 (from + low) fits h))

-- the stages of a word that it passes over, and the one at which it stands
module _ (words : List ℕ) (stage place : ℕ) (same : place / 64 ≡ stage / 64) where
  in-word : is_in words place ≡ eqb (bit_at (get_or words (stage / 64) 0) (place % 64)) 1
  in-word = ap (λ w. eqb (bit_at (get_or words w 0) (place % 64)) 1) same

  pub bit-absent : bit_at (get_or words (stage / 64) 0) (place % 64) ≡ 0 → is_in words place ≡ false
  bit-absent e = in-word ∙ ap (λ b. eqb b 1) e

  pub bit-present : bit_at (get_or words (stage / 64) 0) (place % 64) ≡ 1 → is_in words place ≡ true
  bit-present e = in-word ∙ ap (λ b. eqb b 1) e

-- a bit of a word, by that of the word turned round
pub turned-absent : (word bit : ℕ) → word < 2 ^ 64 → bit < 64 → bit_at (bit_not w64 word) bit ≡ 0 → bit_at word bit ≡ 1
turned-absent word bit fits within e = omega (arith, e, bit_at_not w64 word bit fits within, bit_at-lt word bit)

pub turned-present : (word bit : ℕ) → word < 2 ^ 64 → bit < 64 → bit_at (bit_not w64 word) bit ≡ 1 → bit_at word bit ≡ 0
turned-present word bit fits within e = omega (arith, e, bit_at_not w64 word bit fits within, bit_at-lt word bit)

-- from a stage on, up to the next bit that its word lacks, each is there, and there none is
module _ (words : List ℕ) (stage word bit : ℕ) (of : word ≡ bit_not w64 (get_or words (stage / 64) 0)) (small : get_or words (stage / 64) 0 < 2 ^ 64) where
  pub passed-present : bit ≤ 64 → ((b : ℕ) → stage % 64 ≤ b → b < bit → bit_at word b ≡ 0) → (next : ℕ) → next ≤ stage - stage % 64 + bit
      → (place : ℕ) → stage ≤ place → place < next → is_in words place ≡ true
  passed-present fits none next upto place from before = bit-present words stage place (omega (arith, fits, upto, from, before))
      (turned-absent (get_or words (stage / 64) 0) (place % 64) small (omega arith)
      (ap (λ w. bit_at w (place % 64)) (sym of) ∙ none (place % 64) (omega (arith, fits, upto, from, before)) (omega (arith, fits, upto, from, before))))

  pub stands-absent : bit < 64 → bit_at word bit ≡ 1 → (place : ℕ) → place ≡ stage - stage % 64 + bit → is_in words place ≡ false
  stands-absent within one place at = bit-absent words stage place (omega (arith, within, at))
      (turned-present (get_or words (stage / 64) 0) (place % 64) small (omega arith)
      (ap (λ w. bit_at w (place % 64)) (sym of) ∙ ap (bit_at word) (let e : place % 64 ≡ bit = omega (arith, within, at) in e) ∙ one))
