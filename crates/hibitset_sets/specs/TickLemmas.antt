-- Numbers that count words are lawful counters.
use Rattle.std.proofs.Common.{◌≡◌, ℕ, ◌+◌, arith}

-- nothing was told
pub ticked-none : (count : ℕ) → count ≡ count + 0
ticked-none count = omega arith

-- what was told first and what was told then add up
pub ticked-both : (before between after first then : ℕ) → between ≡ before + first → after ≡ between + then → after ≡ before + (first + then)
ticked-both before between after first then one two = omega arith
