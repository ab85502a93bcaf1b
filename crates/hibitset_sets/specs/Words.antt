-- The words of a set, four layers of them, defined from its members.
use Rattle.std.specs.Prelude.{◌≡◌, ℕ, ◌+◌, ◌*◌, ◌/◌, ◌%◌, ◌==◌, zero, suc, Bool, true, not}
use Rattle.hibitset_sets.specs.Bits.{has_bit, number_of}

-- word w of the bits that a test gives: its bit i is the test at 64 w + i
unfoldable pub word_at : (ℕ → Bool) → ℕ → ℕ
word_at test w = number_of 64 (λ i. test (64 * w + i))

-- the bits of a layer. In layer 0 a bit says that its number is a member, in a higher layer that the word of its number in the layer below isn't zero
unfoldable pub layer_bits : (ℕ → Bool) → ℕ → ℕ → Bool
layer_bits members zero number = members number
layer_bits members (suc layer) number = not (word_at (layer_bits members layer) number == 0)

-- word w of a layer of the set with these members
unfoldable pub word_of : (ℕ → Bool) → ℕ → ℕ → ℕ
word_of members layer w = word_at (layer_bits members layer) w

-- in these words of layers, the bit of that number in the layer is set
abbrev pub is_marked : (ℕ → ℕ → ℕ) → ℕ → ℕ → Bool
is_marked words layer number = has_bit (words layer (number / 64)) (number % 64)

-- a bit that is set has its summary bit set
abbrev pub StandsOver : (ℕ → ℕ → ℕ) → Type 0
StandsOver words = (layer number : ℕ) → is_marked words layer number ≡ true → is_marked words (suc layer) (number / 64) ≡ true
