-- Unions by the words of layers: what stands over a member, and the bits of a word that are left to go through.
use Rattle.std.proofs.Common.{◌≡◌, ◌≢◌, ℕ, zero, suc, ◌+◌, ◌-◌, ◌*◌, ◌/◌, ◌%◌, ◌^◌, ◌<◌, ◌≤◌, bit_and, bit_or, Bool, true, false, not, ◌&&◌, ◌||◌, cond, eqb, ltb, inl, inr, refl, sym, ap, subst, ◌∙◌, arith}
use Rattle.std.specs.Int.{bit_not, leading_zeros, trailing_zeros, w64}
use Rattle.std.proofs.lemmas.Bool.{cases_eq, cases_lt, true≢false, eq-eqb, ne_eqb, eqb-true, lt-ltb, le-ltb}
use Rattle.std.proofs.lemmas.Nat.{and_le_l, leading_length}
use Rattle.std.proofs.lemmas.Nat.Bits.{bit_at_above}
use Rattle.hibitset_sets.specs.Bits.{has_bit, TakesBit}
use Rattle.hibitset_sets.specs.BitLemmas.{has_bit-or, has_bit-zero, lowest_bit, has_bit-cleared_same, has_bit-cleared_other}
use Rattle.hibitset_sets.specs.Words.{is_marked, StandsOver}
use Rattle.hibitset_sets.specs.Assign.{PutsWord, AddsWord, Assigns, bit_over, words_in, EndsBelow, UnitesUnder}

-- ---- the bits of one word

-- the word without its lowest bit
pub takes-bit : (word : ℕ) → 0 < word → word < 2 ^ 64 → TakesBit word (trailing_zeros w64 word) (bit_and word (bit_not w64 (1 * 2 ^ trailing_zeros w64 word % 2 ^ 64)))
takes-bit word some fits =
    let place = trailing_zeros w64 word in
    let rest = bit_and word (bit_not w64 (1 * 2 ^ place % 2 ^ 64)) in
    let lowest = lowest_bit word some fits in
    let gone : has_bit rest place ≡ false = has_bit-cleared_same word place lowest.0 in
    let most : rest ≤ word = and_le_l word (bit_not w64 (1 * 2 ^ place % 2 ^ 64)) in
    record {
      less = elim (cases_eq rest word) [
        | inl same ↦ absurd (true≢false (sym lowest.1 ∙ (ap (λ w. has_bit w place) (sym same) ∙ gone)))
        | inr other ↦ omega (arith, most, other)
      ];
      within = lowest.0;
      was = lowest.1;
      least = lowest.2;
      gone = gone;
      stay = λ bit within other. has_bit-cleared_other word place lowest.0 bit within other;
    }

-- a bit stands below the leading zeros
pub bit-below : (word : ℕ) → word < 2 ^ 64 → (i : ℕ) → has_bit word i ≡ true → i < 64 - leading_zeros w64 word
unfolding has_bit
bit-below word fits i set =
    let top = leading_length 64 word fits in
    elim (cases_lt i top.0) [
      | inl below ↦ omega (arith, below, top.1)
      | inr past ↦ absurd (true≢false (sym set ∙ ap (λ x. eqb x 1) (bit_at_above word top.0 i top.2 past)))
    ]

-- ---- what stands over a member

-- in each layer a bit stands over a member
pub marked-over : (words : ℕ → ℕ → ℕ) (members : ℕ → Bool) → StandsOver words → ((i : ℕ) → i < 16777216 → is_marked words 0 i ≡ members i) → (layer i : ℕ) → i < 16777216 → members i ≡ true → is_marked words layer (bit_over layer i) ≡ true
marked-over words members over agree zero i low member = agree i low ∙ member
marked-over words members over agree (suc layer) i low member = over layer (bit_over layer i) (marked-over words members over agree layer i low member)

-- layer 3 has one word
pub word-at : (words : ℕ → ℕ → ℕ) (layer number found : ℕ) → (layer ≡ 3 → number ≡ 0) → found ≡ words layer (cond (eqb layer 3) 0 number) → found ≡ words layer number
word-at words layer number found top is = elim (cases_eq layer 3) [
  | inl last ↦ is ∙ ap (λ b. words layer (cond b 0 number)) (eq-eqb layer 3 last) ∙ ap (words layer) (sym (top last))
  | inr apart ↦ is ∙ ap (λ b. words layer (cond b 0 number)) (ne_eqb layer 3 apart)
]

-- the numbers of a layer end in the word under the last bit of the layer above
pub ends-in : (words : ℕ → ℕ → ℕ) (members : ℕ → Bool) → StandsOver words → ((i : ℕ) → i < 16777216 → is_marked words 0 i ≡ members i) → (layer end below : ℕ) → 0 < end → EndsBelow members (suc layer) end → ((i : ℕ) → has_bit (words layer (end - 1)) i ≡ true → i < below) → EndsBelow members layer (64 * (end - 1) + below)
ends-in words members over agree layer end below some ends bits i low member =
    let place = bit_over layer i in
    let marked = marked-over words members over agree layer i low member in
    let less : place / 64 < end = ends i low member in
    elim (cases_eq (place / 64) (end - 1)) [
      | inl last ↦
          let bit = bits (place % 64) (ap (λ w. has_bit (words layer w) (place % 64)) (sym last) ∙ marked) in
          omega (arith, last, bit)
      | inr before ↦ omega (arith, less, before)
    ]

-- ---- unions

pub and-none : (a : Bool) → (a && false) ≡ false
and-none true = refl
and-none false = refl

pub or-none : (a b : Bool) → b ≡ false → a ≡ (a || b)
or-none a b none = sym (or-false a) ∙ ap (λ c. a || c) (sym none)
  where
    or-false : (a : Bool) → (a || false) ≡ a
    or-false true = refl
    or-false false = refl

-- the bits of a word put in
pub united-word : (members : ℕ → Bool) (place own word : ℕ) (members' : ℕ → Bool) → ((i : ℕ) → i / 64 ≡ place → has_bit own (i % 64) ≡ members i) → PutsWord members place (bit_or own word) members' → AddsWord members place word members'
united-word members place own word members' bits puts i = puts i ∙ elim (cases_eq (i / 64) place) [
  | inl here ↦
      ap (λ b. cond b (has_bit (bit_or own word) (i % 64)) (members i)) (eq-eqb _ _ here)
      ∙ has_bit-or own word (i % 64)
      ∙ ap (λ b. b || has_bit word (i % 64)) (bits i here)
      ∙ ap (λ b. members i || (b && has_bit word (i % 64))) (sym (eq-eqb _ _ here))
  | inr there ↦
      ap (λ b. cond b (has_bit (bit_or own word) (i % 64)) (members i)) (ne_eqb _ _ there)
      ∙ or-none (members i) _ (ap (λ b. b && has_bit word (i % 64)) (ne_eqb _ _ there))
]

-- the bits of a word that are left have yet to be gone through
pub IsUniting : (ℕ → Bool) → ℕ → ℕ → ℕ → (ℕ → Bool) → (ℕ → Bool) → Type 0
IsUniting other layer number left members members' =
    (i : ℕ) → members' i ≡ (members i || ((eqb (bit_over (suc layer) i) number && other i) && not (has_bit left (bit_over layer i % 64))))

-- a bit of a word of a layer stands over indices below 2 ^ 24
under-low : (layer number : ℕ) → layer < 4 → number < words_in layer → (i : ℕ) → bit_over (suc layer) i ≡ number → i < 16777216
under-low zero number few low i is = omega (arith, low, is)
under-low (suc zero) number few low i is = omega (arith, low, is)
under-low (suc (suc zero)) number few low i is = omega (arith, low, is)
under-low (suc (suc (suc zero))) number few low i is = omega (arith, low, is)
under-low (suc (suc (suc (suc layer)))) number few low i is = absurd (omega (arith, few))

-- layer 3 has one
pub top-in : (layer number : ℕ) → number < words_in layer → layer ≡ 3 → number ≡ 0
top-in layer number low is = let one : number < words_in 3 = subst (λ l. number < words_in l) is low in omega (arith, one)

module _ (words : ℕ → ℕ → ℕ) (other : ℕ → Bool) (over : StandsOver words) (agree : (i : ℕ) → i < 16777216 → is_marked words 0 i ≡ other i) (layer number : ℕ) (few : layer < 4) (low : number < words_in layer) where
  -- at first all are left
  pub uniting-first : (members : ℕ → Bool) (left : ℕ) → left ≡ words layer number → IsUniting other layer number left members members
  unfolding IsUniting
  uniting-first members left is i = or-none (members i) _ (by (eqb (bit_over (suc layer) i) number) (other i) refl refl)
    where
      by : (here there : Bool) → eqb (bit_over (suc layer) i) number ≡ here → other i ≡ there → ((here && there) && not (has_bit left (bit_over layer i % 64))) ≡ false
      by false there _ _ = refl
      by true false _ _ = refl
      by true true at member =
          let same : bit_over (suc layer) i ≡ number = eqb-true _ _ at in
          let marked = marked-over words other over agree layer i (under-low layer number few low i same) member in
          ap (λ w. not (has_bit w (bit_over layer i % 64))) is ∙ ap (λ w. not (has_bit (words layer w) (bit_over layer i % 64))) (sym same) ∙ ap not marked

  -- a word of layer 0 that isn't zero has a member, so there is room for its first index
  pub word-room : layer ≡ 0 → (word room : ℕ) → word ≡ words layer number → word < 2 ^ 64 → EndsBelow other 0 room → word ≢ 0 → 64 * number < room
  word-room zeroth word room is fits ends some =
      let lowest = lowest_bit word (omega (arith, some)) fits in
      let place : ℕ = trailing_zeros w64 word in
      let within : place < 64 = lowest.0 in
      let low0 : number < words_in 0 = subst (λ l. number < words_in l) zeroth low in
      let index : ℕ = 64 * number + place in
      let under : index < 16777216 = omega (arith, within, low0) in
      let at_word : index / 64 ≡ number = omega (arith, within) in
      let at_place : index % 64 ≡ place = omega (arith, within) in
      let member : other index ≡ true =
      sym (agree index under) ∙ ap (λ w. has_bit (words 0 w) (index % 64)) at_word ∙ ap (λ l. has_bit (words l number) (index % 64)) (sym zeroth)
      ∙ ap (λ w. has_bit w (index % 64)) (sym is) ∙ ap (has_bit word) at_place ∙ lowest.1 in
      let below = ends index under member in
      omega (arith, below)

  -- the bit of an index in layer 0 is that of its word
  pub united-zero : layer ≡ 0 → (left : ℕ) → left ≡ words layer number → (members members' : ℕ → Bool) → AddsWord members number left members' → UnitesUnder other (suc layer) number members members'
  united-zero zeroth left is members members' united i =
      united i ∙ by (eqb (i / 64) number) refl ∙ ap (λ l. members i || (eqb (bit_over (suc l) i) number && other i)) (sym zeroth)
    where
      by : (here : Bool) → eqb (i / 64) number ≡ here → (members i || (here && has_bit left (i % 64))) ≡ (members i || (here && other i))
      by false _ = refl
      by true at =
          let same : i / 64 ≡ number = eqb-true _ _ at in
          let low0 : number < words_in 0 = subst (λ l. number < words_in l) zeroth low in
          ap (λ b. members i || b)
          (ap (λ w. has_bit w (i % 64)) is ∙ ap (λ l. has_bit (words l number) (i % 64)) zeroth ∙ ap (λ w. has_bit (words 0 w) (i % 64)) (sym same) ∙ agree i (omega (arith, same, low0)))

module _ (other : ℕ → Bool) (layer number : ℕ) where
  -- then none
  pub uniting-last : (members members' : ℕ → Bool) (left : ℕ) → left ≡ 0 → IsUniting other layer number left members members' → UnitesUnder other (suc layer) number members members'
  unfolding IsUniting
  uniting-last members members' left none uniting i =
      uniting i
      ∙ ap (λ w. members i || ((eqb (bit_over (suc layer) i) number && other i) && not (has_bit w (bit_over layer i % 64)))) none
      ∙ ap (λ b. members i || ((eqb (bit_over (suc layer) i) number && other i) && not b)) (has_bit-zero (bit_over layer i % 64))
      ∙ ap (λ b. members i || b) (and-true _)
    where
      and-true : (a : Bool) → (a && true) ≡ a
      and-true true = refl
      and-true false = refl

  -- and one less after what stands under one was put in
  pub uniting-next : (members before after : ℕ → Bool) (left place rest : ℕ) → TakesBit left place rest → IsUniting other layer number left members before → UnitesUnder other layer (64 * number + place) before after → IsUniting other layer number rest members after
  unfolding IsUniting
  uniting-next members before after left place rest takes uniting unites i =
      unites i ∙ ap (λ b. b || (eqb (bit_over layer i) (64 * number + place) && other i)) (uniting i)
      ∙ elim (cases_eq (bit_over layer i) (64 * number + place)) [
        | inl here ↦
            let word : (bit_over layer i) / 64 ≡ number = let within = takes.within in omega (arith, here, within) in
            let at : (bit_over layer i) % 64 ≡ place = let within = takes.within in omega (arith, here, within) in
            ap (λ b. (members i || ((b && other i) && not (has_bit left ((bit_over layer i) % 64)))) || (eqb (bit_over layer i) (64 * number + place) && other i)) (eq-eqb _ _ word)
            ∙ ap (λ b. (members i || (other i && not b)) || (eqb (bit_over layer i) (64 * number + place) && other i)) (ap (has_bit left) at ∙ takes.was)
            ∙ ap (λ b. (members i || (other i && false)) || (b && other i)) (eq-eqb _ _ here)
            ∙ taken (members i) (other i)
            ∙ ap (λ b. members i || (other i && not b)) (sym (ap (has_bit rest) at ∙ takes.gone))
            ∙ ap (λ b. members i || ((b && other i) && not (has_bit rest ((bit_over layer i) % 64)))) (sym (eq-eqb _ _ word))
        | inr apart ↦
            ap (λ b. (members i || ((eqb ((bit_over layer i) / 64) number && other i) && not (has_bit left ((bit_over layer i) % 64)))) || (b && other i)) (ne_eqb _ _ apart)
            ∙ sym (or-none _ false refl)
            ∙ elim (cases_eq ((bit_over layer i) / 64) number) [
              | inl word ↦ ap (λ b. members i || ((eqb ((bit_over layer i) / 64) number && other i) && not b)) (sym (takes.stay ((bit_over layer i) % 64) (omega arith) (λ at. apart (omega (arith, word, at)))))
              | inr off ↦
                  ap (λ b. members i || ((b && other i) && not (has_bit left ((bit_over layer i) % 64)))) (ne_eqb _ _ off)
                  ∙ ap (λ b. members i || ((b && other i) && not (has_bit rest ((bit_over layer i) % 64)))) (sym (ne_eqb _ _ off))
            ]
      ]
    where
      taken : (a b : Bool) → ((a || (b && false)) || b) ≡ (a || (b && true))
      taken true true = refl
      taken true false = refl
      taken false true = refl
      taken false false = refl

-- a union under the word of the highest layer is one of all indices below 2 ^ 24
pub united-all : (other members members' : ℕ → Bool) → ((i : ℕ) → members i ≡ true → i < 16777216) → UnitesUnder other 4 0 members members' → Assigns (λ i. members i || other i) members'
united-all other members members' low unites i = unites i ∙ elim (cases_lt i 16777216) [
  | inl below ↦
      let top : bit_over 4 i ≡ 0 = omega (arith, below) in
      ap (λ b. members i || (b && other i)) (eq-eqb _ _ top) ∙ ap (λ b. b && (members i || other i)) (sym (lt-ltb _ _ below))
  | inr past ↦
      let top : bit_over 4 i ≢ 0 = omega (arith, past) in
      ap (λ b. members i || (b && other i)) (ne_eqb _ _ top) ∙ sym (or-none _ false refl) ∙ none past (members i) refl
      ∙ ap (λ b. b && (members i || other i)) (sym (le-ltb _ _ past))
]
  where
    none : 16777216 ≤ i → (b : Bool) → members i ≡ b → b ≡ false
    none past true member = absurd (let below = low i member in omega (arith, past, below))
    none past false _ = refl

-- where there is room for no index below 2 ^ 24 nothing comes in
pub united-none : (other members : ℕ → Bool) → ((i : ℕ) → members i ≡ true → i < 0) → EndsBelow other 0 0 → Assigns (λ i. members i || other i) members
united-none other members none ends i = by (members i) refl (other i) refl
  where
    by : (own : Bool) → members i ≡ own → (there : Bool) → other i ≡ there → own ≡ (ltb i 16777216 && (own || there))
    by true member there _ = absurd (let below = none i member in omega (arith, below))
    by false _ false _ = sym (and-none _)
    by false _ true member = elim (cases_lt i 16777216) [
      | inl low ↦ absurd (let below = ends i low member in omega (arith, below))
      | inr past ↦ ap (λ b. b && true) (sym (le-ltb _ _ past))
    ]
