-- The words of a set in one row, in layers that reach over its members, are those that the core begins with.
use Rattle.std.proofs.Common.{◌≡◌, ℕ, zero, suc, ◌+◌, ◌*◌, ◌/◌, ◌%◌, ◌<◌, ◌≤◌, eqb, not, Bool, true, List, length, get_or, sym, refl, ap, ◌∙◌, arith}
use Rattle.std.proofs.lemmas.Bool.{true≢false}
use Rattle.std.proofs.lemmas.Nat.Bits.{bit_at-lt}
use Rattle.std.specs.Int.{bit_at, trailing_zeros, w64}
use mathlib.Core.Logic.{dite}
use native.Mathlib.Decide.{ℕ_discrete}
use Rattle.hibitset_sets.specs.Bits.{has_bit}
use Rattle.hibitset_sets.specs.Words.{word_of, layer_bits, is_marked}
use Rattle.hibitset_sets.specs.WordLemmas.{is_marked-word_of, layer_bits-above, layer_bits-members, StandsOver-word_of, word_of-lt}
use Rattle.hibitset_sets.specs.BitLemmas.{lowest_bit}
use Rattle.hibitset.specs.AtomicCore.{Sizes, Fits, word_count, address, bit_count, mark, one_if, AreWordsOf}
use Rattle.hibitset.specs.Rows.{sizes_for}

pub sizes_for-fits : (count : ℕ) → count ≤ 16777216 → Fits (sizes_for count)
sizes_for-fits count few = record { second = omega arith; third = omega arith; fourth = omega (arith, few) }

-- a bit is told by its test
pub one_if-bit : (bit : ℕ) → bit < 2 → bit ≡ one_if (eqb bit 1)
one_if-bit zero low = refl
one_if-bit (suc zero) low = refl
one_if-bit (suc (suc bit)) low = absurd (omega arith)

pub has_bit-bit_at : (word place : ℕ) → has_bit word place ≡ eqb (bit_at word place) 1
unfolding has_bit
has_bit-bit_at word place = refl

-- at which word of the row a layer begins
abbrev pub layer_start : Sizes → ℕ → ℕ
layer_start sizes zero = 0
layer_start sizes (suc zero) = sizes.first
layer_start sizes (suc (suc zero)) = sizes.first + sizes.second
layer_start sizes (suc (suc (suc layer))) = sizes.first + sizes.second + sizes.third

-- how many words it has
abbrev pub layer_words : Sizes → ℕ → ℕ
layer_words sizes zero = sizes.first
layer_words sizes (suc zero) = sizes.second
layer_words sizes (suc (suc zero)) = sizes.third
layer_words sizes (suc (suc (suc layer))) = 1

module _ (sizes : Sizes) (fits : Fits sizes) (members : ℕ → Bool) (within : (index : ℕ) → members index ≡ true → index < 64 * sizes.first) where
  fit : (sizes.first ≤ 64 * sizes.second) × (sizes.second ≤ 64 * sizes.third) × (sizes.third ≤ 64)
  fit = (fits.second, fits.third, fits.fourth)

  word-of_address : (layer number : ℕ) → (address sizes layer number / 64 ≡ layer_start sizes layer + number / 64) × (address sizes layer number % 64 ≡ number % 64)
  word-of_address zero number = (omega arith, omega arith)
  word-of_address (suc zero) number = (omega arith, omega arith)
  word-of_address (suc (suc zero)) number = (omega arith, omega arith)
  word-of_address (suc (suc (suc layer))) number = (omega arith, omega arith)

  word-within : (layer number : ℕ) → number < bit_count sizes layer → number / 64 < layer_words sizes layer
  word-within zero number low = omega arith
  word-within (suc zero) number low = omega arith
  word-within (suc (suc zero)) number low = omega arith
  word-within (suc (suc (suc layer))) number low = omega arith

  -- over a bit within a layer stands one within the layer above
  above-within : (layer number place : ℕ) → layer < 3 → number * 64 + place < bit_count sizes layer → number < bit_count sizes (suc layer)
  above-within zero number place low inside = omega (arith, fit)
  above-within (suc zero) number place low inside = omega (arith, fit)
  above-within (suc (suc zero)) number place low inside = omega (arith, fit)
  above-within (suc (suc (suc layer))) number place low inside = absurd (omega arith)

  not-zero : (word : ℕ) → not (eqb word 0) ≡ true → 0 < word
  not-zero zero is = absurd (true≢false (sym is))
  not-zero (suc word) is = omega arith

  -- under a bit of a summary that is set stands one that is set
  stands-on : (layer number : ℕ) → layer_bits members (suc layer) number ≡ true → (place : ℕ) × (place < 64) × (layer_bits members layer (number * 64 + place) ≡ true)
  stands-on layer number on =
      let word : ℕ = word_of members layer number in
      let lowest = lowest_bit word (not-zero word (sym (layer_bits-above members layer number) ∙ on)) (word_of-lt members layer number) in
      let place : ℕ = trailing_zeros w64 word in
      let whole : (number * 64 + place) / 64 ≡ number = omega (arith, lowest.0) in
      let rest : (number * 64 + place) % 64 ≡ place = omega (arith, lowest.0) in
      let has : has_bit (word_of members layer ((number * 64 + place) / 64)) ((number * 64 + place) % 64) ≡ true = (λ j. has_bit (word_of members layer (whole j)) (rest j)) ∙ lowest.1 in
      (place, lowest.0, sym (is_marked-word_of members layer (number * 64 + place)) ∙ has)

  -- each bit that is set lies within its layer
  set-within : (layer number : ℕ) → layer < 4 → layer_bits members layer number ≡ true → number < bit_count sizes layer
  set-within zero number low on = within number (sym (layer_bits-members members number) ∙ on)
  set-within (suc layer) number low on = let below = stands-on layer number on in above-within layer number below.0 (omega arith) (set-within layer (number * 64 + below.0) (omega arith) below.2)

  module _ (row : List ℕ) (copied : (layer place : ℕ) → layer < 4 → place < layer_words sizes layer → get_or row (layer_start sizes layer + place) 0 ≡ word_of members layer place) where
    mark-lt : (layer number : ℕ) → mark sizes row layer number < 2
    mark-lt layer number = bit_at-lt (get_or row (address sizes layer number / 64) 0) (address sizes layer number % 64)

    mark-test : (layer number : ℕ) → layer < 4 → number < bit_count sizes layer → eqb (mark sizes row layer number) 1 ≡ layer_bits members layer number
    mark-test layer number low inside =
        let at = word-of_address layer number in
        let whole : address sizes layer number / 64 ≡ layer_start sizes layer + number / 64 = at.0 in
        let rest : address sizes layer number % 64 ≡ number % 64 = at.1 in
        let here : mark sizes row layer number ≡ bit_at (get_or row (layer_start sizes layer + number / 64) 0) (number % 64) = λ j. bit_at (get_or row (whole j) 0) (rest j) in
        ap (λ bit. eqb bit 1) (here ∙ ap (λ word. bit_at word (number % 64)) (copied layer (number / 64) low (word-within layer number inside)))
        ∙ (sym (has_bit-bit_at (word_of members layer (number / 64)) (number % 64)) ∙ is_marked-word_of members layer number)

    mark-is : (layer number : ℕ) → layer < 4 → number < bit_count sizes layer → mark sizes row layer number ≡ one_if (layer_bits members layer number)
    mark-is layer number low inside = one_if-bit (mark sizes row layer number) (mark-lt layer number) ∙ ap one_if (mark-test layer number low inside)

    marked : (layer number : ℕ) → layer < 4 → number < bit_count sizes layer → mark sizes row layer number ≡ 1 → layer_bits members layer number ≡ true
    marked layer number low inside on = sym (mark-test layer number low inside) ∙ ap (λ bit. eqb bit 1) on

    over : (layer number : ℕ) → layer < 3 → number < bit_count sizes layer → mark sizes row layer number ≡ 1 → mark sizes row (suc layer) (number / 64) ≡ 1
    over layer number low inside on =
        let below : is_marked (word_of members) layer number ≡ true = is_marked-word_of members layer number ∙ marked layer number (omega arith) inside on in
        let above : layer_bits members (suc layer) (number / 64) ≡ true = sym (is_marked-word_of members (suc layer) (number / 64)) ∙ StandsOver-word_of members layer number below in
        mark-is (suc layer) (number / 64) (omega arith) (set-within (suc layer) (number / 64) (omega arith) above) ∙ ap one_if above

    under : (layer number : ℕ) → layer < 3 → number < bit_count sizes (suc layer) → ((below : ℕ) → below < bit_count sizes layer → below / 64 ≡ number → mark sizes row layer below ≡ 0) → mark sizes row (suc layer) number ≡ 0
    under layer number low inside clear = dite (ℕ_discrete (mark sizes row (suc layer) number) 1)
        (λ on.
        let found = stands-on layer number (marked (suc layer) number (omega arith) inside on) in
        let below : ℕ = number * 64 + found.0 in
        let low_bit = set-within layer below (omega arith) found.2 in
        let part : below / 64 ≡ number = omega (arith, found.1) in
        let set_bit : mark sizes row layer below ≡ 1 = mark-is layer below (omega arith) low_bit ∙ ap one_if found.2 in
        let clear_bit = clear below low_bit part in
        absurd (omega (arith, set_bit, clear_bit)))
        (λ off. let two = mark-lt (suc layer) number in omega (arith, two, off))

    pub words-of_row : length row ≡ word_count sizes → AreWordsOf sizes members row
    words-of_row long = record {
      members = λ index inside. mark-is 0 index (omega arith) inside ∙ ap one_if (layer_bits-members members index);
      exact = record { over = over; under = under; wide = long };
    }

  abbrev pub Copied : List ℕ → ℕ → ℕ → ℕ → Type 0
  Copied row layer start count = (place : ℕ) → place < count → get_or row (start + place) 0 ≡ word_of members layer place

  abbrev pub SameBefore : List ℕ → List ℕ → ℕ → Type 0
  SameBefore row row' start = (place : ℕ) → place < start → get_or row' place 0 ≡ get_or row place 0

  -- the four layers, copied one behind the other
  pub four-layers : (one two three four : List ℕ) → Copied one 0 0 sizes.first → Copied two 1 sizes.first sizes.second → SameBefore one two sizes.first → Copied three 2 (sizes.first + sizes.second) sizes.third → SameBefore two three (sizes.first + sizes.second)
      → Copied four 3 (sizes.first + sizes.second + sizes.third) 1 → SameBefore three four (sizes.first + sizes.second + sizes.third) → (layer place : ℕ) → layer < 4 → place < layer_words sizes layer → get_or four (layer_start sizes layer + place) 0 ≡ word_of members layer place
  four-layers one two three four a b ab c bc d cd zero place low inside = cd (0 + place) (omega arith) ∙ (bc (0 + place) (omega arith) ∙ (ab (0 + place) (omega arith) ∙ a place inside))
  four-layers one two three four a b ab c bc d cd (suc zero) place low inside = cd (sizes.first + place) (omega arith) ∙ (bc (sizes.first + place) (omega arith) ∙ b place inside)
  four-layers one two three four a b ab c bc d cd (suc (suc zero)) place low inside = cd (sizes.first + sizes.second + place) (omega arith) ∙ c place inside
  four-layers one two three four a b ab c bc d cd (suc (suc (suc zero))) place low inside = d place inside
  four-layers one two three four a b ab c bc d cd (suc (suc (suc (suc layer)))) place low inside = absurd (omega arith)
