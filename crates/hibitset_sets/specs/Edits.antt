-- Edits of one bit in a list of words. No public clause cites this file.
use Rattle.std.specs.Prelude.{ℕ, Bool, ◌/◌, ◌%◌, ◌^◌, List, slice_index, slice_set, bit_and, bit_or}
use Rattle.hibitset_sets.specs.Bits.{has_bit}
use Rattle.std.specs.Int.{bit_not, w64}

-- the bit of that number in a list of words
abbrev pub bit_of : List ℕ → ℕ → Bool
bit_of words number = has_bit (slice_index words (number / 64)) (number % 64)

-- the words with that bit set
abbrev pub with_bit : List ℕ → ℕ → List ℕ
with_bit words number = slice_set words (number / 64) (bit_or (slice_index words (number / 64)) (2 ^ (number % 64)))

-- the words with that bit cleared
abbrev pub without_bit : List ℕ → ℕ → List ℕ
without_bit words number = slice_set words (number / 64) (bit_and (slice_index words (number / 64)) (bit_not w64 (2 ^ (number % 64))))
