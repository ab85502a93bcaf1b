-- Assignments, word by word and as a whole.
use Rattle.std.specs.Prelude.{◌≡◌, ℕ, zero, suc, ◌/◌, ◌%◌, ◌<◌, ◌==◌, Bool, true, ◌&&◌, ◌||◌, nat_lt, if◌then◌else◌}
use Rattle.hibitset_sets.specs.Bits.{has_bit}

-- in one word of layer 0 the members are its bits, elsewhere they stay
abbrev pub PutsWord : (ℕ → Bool) → ℕ → ℕ → (ℕ → Bool) → Type 0
PutsWord members place word members' = (i : ℕ) → members' i ≡ (if i / 64 == place then has_bit word (i % 64) else members i)

-- the bits of one word of layer 0 come in, and nothing else changes
abbrev pub AddsWord : (ℕ → Bool) → ℕ → ℕ → (ℕ → Bool) → Type 0
AddsWord members place word members' = (i : ℕ) → members' i ≡ (members i || ((i / 64 == place) && has_bit word (i % 64)))

-- the new members are those of the virtual set below 2 ^ 24
abbrev pub Assigns : (ℕ → Bool) → (ℕ → Bool) → Type 0
Assigns virtual members' = (i : ℕ) → members' i ≡ (nat_lt i 16777216 && virtual i)

-- the number of the bit of a layer that stands over an index
abbrev pub bit_over : ℕ → ℕ → ℕ
bit_over zero i = i
bit_over (suc layer) i = bit_over layer i / 64

-- how many words of a layer stand over the indices below 2 ^ 24
abbrev pub words_in : ℕ → ℕ
words_in zero = 262144
words_in (suc zero) = 4096
words_in (suc (suc zero)) = 64
words_in (suc (suc (suc layer))) = 1

-- the bits of a layer that stand over members have numbers below that
abbrev pub EndsBelow : (ℕ → Bool) → ℕ → ℕ → Type 0
EndsBelow members layer end = (i : ℕ) → i < 16777216 → members i ≡ true → bit_over layer i < end

-- of the indices under one bit of a layer those of the other set come in, and nothing else changes
abbrev pub UnitesUnder : (ℕ → Bool) → ℕ → ℕ → (ℕ → Bool) → (ℕ → Bool) → Type 0
UnitesUnder other layer number members members' = (i : ℕ) → members' i ≡ (members i || ((bit_over layer i == number) && other i))
