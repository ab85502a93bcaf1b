-- The middle bit of a word.
use Rattle.std.specs.Prelude.{◌≡◌, ℕ, ◌+◌, ◌/◌, true}
use Rattle.hibitset_sets.specs.Bits.{has_bit}
use Rattle.hibitset_sets.specs.Walk.{sum_over}

-- how many bits below a place are set
abbrev pub ones_below : ℕ → ℕ → ℕ
ones_below n place = sum_over place n (λ _. 1)

-- the bit is set, and half of the set bits, rounded up, are below it
pub record IsAverage (n place : ℕ) : Type 0 where
  pub set : has_bit n place ≡ true
  pub half : ones_below n place ≡ (ones_below n 64 + 1) / 2
