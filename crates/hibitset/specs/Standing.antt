-- The private steps of a split. No public clause cites this file.
use Rattle.std.specs.Prelude.{List, ◌≡◌, ℕ, ◌+◌, ◌%◌, ◌<◌, ◌≤◌, Bool, false, ◌&&◌}
use Rattle.hibitset_sets.specs.Bits.{has_bit}
use Rattle.hibitset_sets.specs.Average.{IsAverage}
use Rattle.hibitset_sets.specs.Walk.{is_pending}
use Rattle.hibitset.specs.Producer.{IsCut}
use Rattle.hibitset.specs.Cut.{first_under, is_under, IsCutAt}

-- a number is that of the first bit of a word of a layer
pub record IsFirstBit (layer first : ℕ) : Type 0 where
  pub within : layer < 4
  pub aligned : first % 64 ≡ 0
  pub limit : first_under layer first < 16777216

-- the bits of a word below a place
pub record IsBelow (word place low : ℕ) : Type 0 where
  pub kept : (i : ℕ) → i < 64 → i < place → has_bit low i ≡ has_bit word i
  pub gone : (i : ℕ) → i < 64 → place ≤ i → has_bit low i ≡ false

-- the bits of a word from a place on
pub record IsFrom (word place high : ℕ) : Type 0 where
  pub gone : (i : ℕ) → i < 64 → i < place → has_bit high i ≡ false
  pub kept : (i : ℕ) → i < 64 → place ≤ i → has_bit high i ≡ has_bit word i

-- the members under one word are those under another
abbrev pub SameUnder : (ℕ → Bool) → ℕ → ℕ → ℕ → ℕ → ℕ → ℕ → Type 0
SameUnder members layer first word layer' first' word' =
    (i : ℕ) → i < 16777216 → (members i && is_under layer first word i) ≡ (members i && is_under layer' first' word' i)

-- the cut of a word is that of a word below it, at its middle bit
pub record IsFound (members : ℕ → Bool) (words : ℕ → ℕ → ℕ) (lowest layer first word layer' first' word' place : ℕ) : Type 0 where
  pub above : 0 < layer'
  pub stands : IsFirstBit layer' first'
  pub average : IsAverage word' place
  pub within : place < 64
  pub cut : IsCutAt words lowest layer first word (first_under layer' (first' + place))
  pub same : SameUnder members layer first word layer' first' word'

-- the cut of masks is that of a word under them, at its middle bit
pub record IsCutOf (members : ℕ → Bool) (words : ℕ → ℕ → ℕ) (masks prefix : List ℕ) (layers layer' first' word' place : ℕ) : Type 0 where
  pub above : 0 < layer'
  pub stands : IsFirstBit layer' first'
  pub average : IsAverage word' place
  pub within : place < 64
  pub cut : IsCut words masks prefix layers (first_under layer' (first' + place))
  pub same : (i : ℕ) → i < 16777216 → is_pending members masks prefix i ≡ (members i && is_under layer' first' word' i)
