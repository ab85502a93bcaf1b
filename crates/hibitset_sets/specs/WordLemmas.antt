-- What the words of specs/Words.antt say of the members.
use Rattle.std.proofs.Common.{◌≡◌, ℕ, suc, ◌+◌, ◌*◌, ◌/◌, ◌%◌, ◌^◌, ◌<◌, Bool, true, not, eqb, refl, ap, ◌∙◌, arith}
use Rattle.std.proofs.lemmas.Bool.{ne_eqb}
use Rattle.hibitset_sets.specs.Bits.{has_bit}
use Rattle.hibitset_sets.specs.Words.{word_at, layer_bits, word_of, is_marked, StandsOver}
use Rattle.hibitset_sets.specs.BitLemmas.{has_bit-number_of, number_of-lt, nonzero_of_has_bit}

pub word_at-lt : (test : ℕ → Bool) (w : ℕ) → word_at test w < 2 ^ 64
unfolding word_at
word_at-lt test w = number_of-lt 64 (λ i. test (64 * w + i))

pub has_bit-word_at : (test : ℕ → Bool) (w i : ℕ) → i < 64 → has_bit (word_at test w) i ≡ test (64 * w + i)
unfolding word_at
has_bit-word_at test w i within = has_bit-number_of 64 (λ i. test (64 * w + i)) i within

-- a number is that of its word and its place in the word
pub place_of : (number : ℕ) → 64 * (number / 64) + number % 64 ≡ number
place_of number = omega arith

pub is_marked-word_of : (members : ℕ → Bool) (layer number : ℕ) → is_marked (word_of members) layer number ≡ layer_bits members layer number
unfolding word_of
is_marked-word_of members layer number =
    has_bit-word_at (layer_bits members layer) (number / 64) (number % 64) (omega arith) ∙ ap (layer_bits members layer) (place_of number)

pub word_of-lt : (members : ℕ → Bool) (layer w : ℕ) → word_of members layer w < 2 ^ 64
unfolding word_of
word_of-lt members layer w = word_at-lt (layer_bits members layer) w

-- a bit above says that the word isn't zero
pub layer_bits-above : (members : ℕ → Bool) (layer w : ℕ) → layer_bits members (suc layer) w ≡ not (eqb (word_of members layer w) 0)
unfolding word_of layer_bits
layer_bits-above members layer w = refl

pub layer_bits-members : (members : ℕ → Bool) (number : ℕ) → layer_bits members 0 number ≡ members number
unfolding layer_bits
layer_bits-members members number = refl

pub not_zero_test : (x : ℕ) → 0 < x → not (eqb x 0) ≡ true
not_zero_test x h = ap not (ne_eqb x 0 (λ e. omega arith))

pub StandsOver-word_of : (members : ℕ → Bool) → StandsOver (word_of members)
StandsOver-word_of members layer number set =
    let above : layer_bits members (suc layer) (number / 64) ≡ true =
    layer_bits-above members layer (number / 64) ∙ not_zero_test _ (nonzero_of_has_bit _ (number % 64) set) in
    is_marked-word_of members (suc layer) (number / 64) ∙ above

pub words_agree-word_of : (members : ℕ → Bool) (i : ℕ) → is_marked (word_of members) 0 i ≡ members i
words_agree-word_of members i = is_marked-word_of members 0 i ∙ layer_bits-members members i
