-- Numbers read bit by bit.
use Rattle.std.specs.Prelude.{◌≡◌, ◌≢◌, ℕ, ◌+◌, ◌^◌, ◌<◌, ◌==◌, zero, suc, Bool, true, false, if◌then◌else◌}
use Rattle.std.specs.Int.{bit_at}

-- bit i of the number is set
unfoldable pub has_bit : ℕ → ℕ → Bool
has_bit number i = bit_at number i == 1

-- the number below 2 ^ n whose bits below n are those of the test
unfoldable pub number_of : ℕ → (ℕ → Bool) → ℕ
number_of zero test = 0
number_of (suc n) test = (if test n then 2 ^ n else 0) + number_of n test

-- the lowest bit of a word is at that place, and the rest is the word without it
pub record TakesBit (word place rest : ℕ) : Type 0 where
  pub less : rest < word
  pub within : place < 64
  pub was : has_bit word place ≡ true
  pub least : (bit : ℕ) → bit < place → has_bit word bit ≡ false
  pub gone : has_bit rest place ≡ false
  pub stay : (bit : ℕ) → bit < 64 → bit ≢ place → has_bit rest bit ≡ has_bit word bit
