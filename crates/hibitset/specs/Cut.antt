-- Where the words of layers are cut in two.
use Rattle.std.specs.Prelude.{◌≡◌, ℕ, zero, suc, ◌+◌, ◌*◌, ◌/◌, ◌%◌, ◌<◌, ◌≤◌, ◌==◌, Bool, true, ◌&&◌, ◌⊎◌}
use Rattle.hibitset_sets.specs.Bits.{has_bit}
use Rattle.hibitset_sets.specs.Average.{IsAverage}

-- the number of an index's bit in a layer
abbrev pub number_in : ℕ → ℕ → ℕ
number_in zero index = index
number_in (suc layer) index = number_in layer index / 64

-- the first index that stands under the bit of that number of a layer
abbrev pub first_under : ℕ → ℕ → ℕ
first_under zero number = number
first_under (suc layer) number = first_under layer (64 * number)

-- that bit alone is set
pub record IsOnlyBit (word place : ℕ) : Type 0 where
  pub within : place < 64
  pub set : has_bit word place ≡ true
  pub alone : (i : ℕ) → i < 64 → has_bit word i ≡ true → i ≡ place

-- a word of a layer, whose first bit has that number, is cut at an index: at its middle bit, or, where one bit alone is set, where the word under that bit is cut. Layers below the lowest are left whole
abbrev pub IsCutAt : (ℕ → ℕ → ℕ) → ℕ → ℕ → ℕ → ℕ → ℕ → Type 0
IsCutAt words lowest zero first word index = ⊥
IsCutAt words lowest (suc layer) first word index =
    (lowest ≤ suc layer)
    × (((place : ℕ) × IsAverage word place × (index ≡ first_under (suc layer) (first + place)))
    ⊎ ((place : ℕ) × IsOnlyBit word place × IsCutAt words lowest layer (64 * (first + place)) (words layer (first + place)) index))

-- an index stands under a bit of a word of a layer
abbrev pub is_under : ℕ → ℕ → ℕ → ℕ → Bool
is_under layer first word index = (number_in layer index / 64 == first / 64) && has_bit word (number_in layer index % 64)

-- a bit of a layer is set over words that aren't zero alone
abbrev pub IsExact : (ℕ → ℕ → ℕ) → Type 0
IsExact words = (layer number : ℕ) → has_bit (words (suc layer) (number / 64)) (number % 64) ≡ true → 0 < words layer number

-- two members are in different words of layer 0
abbrev pub Differ : (ℕ → Bool) → Type 0
Differ members = (i j : ℕ) × (i < 16777216) × (j < 16777216) × (members i ≡ true) × (members j ≡ true) × (i / 64 ≡ j / 64 → ⊥)
