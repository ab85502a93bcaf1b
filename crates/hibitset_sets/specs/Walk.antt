-- The walk of a set of indices, and what is left of one that is under way.
use Rattle.std.specs.Prelude.{◌≡◌, ◌≢◌, ℕ, zero, suc, ◌+◌, ◌*◌, ◌/◌, ◌%◌, ◌<◌, ◌≤◌, ◌==◌, Bool, true, ◌&&◌, ◌||◌, if◌then◌else◌, List, filter, slice_index}
use Rattle.std.specs.List.{range_with_len}
use Rattle.hibitset_sets.specs.Bits.{has_bit}

-- the ascending list of the members below 2 ^ 24
unfoldable pub walk : (ℕ → Bool) → List ℕ
walk members = filter members (range_with_len 0 16777216)

-- the indices of the bits of a word of layer 0, ascending
unfoldable pub word_indices : ℕ → ℕ → List ℕ
word_indices place bits = filter (λ index. has_bit bits (index % 64)) (range_with_len (64 * place) 64)

-- the bit of that number in the layer is left in the layer's mask. A mask is the rest of a word, and its prefix the number of the word's first bit, 0 in layer 3
unfoldable pub is_left : List ℕ → List ℕ → ℕ → ℕ → Bool
is_left masks prefix layer number = (number / 64 == slice_index prefix layer / 64) && has_bit (slice_index masks layer) (number % 64)

-- an index is still to come: its bit is left in layer 0, or it is a member under a bit that is left above
unfoldable pub is_pending : (ℕ → Bool) → List ℕ → List ℕ → ℕ → Bool
is_pending members masks prefix index =
    is_left masks prefix 0 index || (members index && (is_left masks prefix 1 (index / 64) || (is_left masks prefix 2 (index / 4096) || is_left masks prefix 3 (index / 262144))))

-- the prefix of a layer is the number of a word's first bit, that word is the one at which the layer above stands, and the bits left above come later
pub record IsPlacedAt (masks prefix : List ℕ) (layer : ℕ) : Type 0 where
  pub aligned : slice_index prefix layer % 64 ≡ 0
  pub agrees : slice_index prefix layer / 4096 ≡ slice_index prefix (suc layer) / 64
  pub later : (number : ℕ) → is_left masks prefix (suc layer) number ≡ true → slice_index prefix layer / 64 < number

-- from each mask that isn't empty on upwards the prefixes are placed
abbrev pub IsPlaced : List ℕ → List ℕ → Type 0
IsPlaced masks prefix = (layer above : ℕ) → layer ≤ above → above < 3 → slice_index masks layer ≢ 0 → IsPlacedAt masks prefix above

-- the sum of f over the bits of a word that are set and below n
unfoldable pub sum_over : ℕ → ℕ → (ℕ → ℕ) → ℕ
sum_over zero word f = 0
sum_over (suc n) word f = (if has_bit word n then f n else 0) + sum_over n word f

-- how many words are read under one bit of a layer, where a word of a layer costs its reads
unfoldable pub words_under : (ℕ → ℕ) → (ℕ → ℕ → ℕ) → ℕ → ℕ → ℕ
words_under reads words zero number = 0
words_under reads words (suc layer) number = reads layer + sum_over 64 (words layer number) (λ i. words_under reads words layer (64 * number + i))

-- how many words are still to be read in a layer's part
unfoldable pub words_left_in : (ℕ → ℕ) → (ℕ → ℕ → ℕ) → List ℕ → List ℕ → ℕ → ℕ
words_left_in reads words masks prefix layer = sum_over 64 (slice_index masks layer) (λ i. words_under reads words layer (slice_index prefix layer + i))

-- how many words a walk under way still reads
unfoldable pub words_left : (ℕ → ℕ) → (ℕ → ℕ → ℕ) → List ℕ → List ℕ → ℕ
words_left reads words masks prefix =
    words_left_in reads words masks prefix 1 + (words_left_in reads words masks prefix 2 + words_left_in reads words masks prefix 3)

-- how many words a walk reads from its making to its end
abbrev pub words_walked : (ℕ → ℕ) → (ℕ → ℕ → ℕ) → ℕ
words_walked reads words = words_under reads words 4 0
