-- The virtual sets: which members and which words they have.
use Rattle.std.specs.Prelude.{ℕ, zero, suc, Bool, not, ◌&&◌, ◌||◌, if◌then◌else◌, bit_and, bit_or, bit_xor}
use Rattle.std.specs.Int.{bit_not, w64}

-- one of the two, and not both
abbrev pub differs : Bool → Bool → Bool
differs a b = if a then not b else b

-- in both
abbrev pub members_of_and : (ℕ → Bool) → (ℕ → Bool) → ℕ → Bool
members_of_and one other i = one i && other i

-- in one of the two or in both
abbrev pub members_of_or : (ℕ → Bool) → (ℕ → Bool) → ℕ → Bool
members_of_or one other i = one i || other i

-- in one of the two and not in both
abbrev pub members_of_xor : (ℕ → Bool) → (ℕ → Bool) → ℕ → Bool
members_of_xor one other i = differs (one i) (other i)

-- not in the set
abbrev pub members_of_not : (ℕ → Bool) → ℕ → Bool
members_of_not one i = not (one i)

-- the bits of both
abbrev pub words_of_and : (ℕ → ℕ → ℕ) → (ℕ → ℕ → ℕ) → ℕ → ℕ → ℕ
words_of_and one other layer i = bit_and (one layer i) (other layer i)

-- the bits of one or the other
abbrev pub words_of_or : (ℕ → ℕ → ℕ) → (ℕ → ℕ → ℕ) → ℕ → ℕ → ℕ
words_of_or one other layer i = bit_or (one layer i) (other layer i)

-- in layer 0 the bits in which the two differ, above it those of one or the other
abbrev pub words_of_xor : (ℕ → ℕ → ℕ) → (ℕ → ℕ → ℕ) → ℕ → ℕ → ℕ
words_of_xor one other zero i = bit_xor (one 0 i) (other 0 i)
words_of_xor one other (suc layer) i = bit_or (one (suc layer) i) (other (suc layer) i)

-- in layer 0 the bits that the set lacks, above it all bits
abbrev pub words_of_not : (ℕ → ℕ → ℕ) → ℕ → ℕ → ℕ
words_of_not one zero i = bit_not w64 (one 0 i)
words_of_not one (suc layer) i = 18446744073709551615

-- the words that the complement of a set reads: those of layer 0 alone
abbrev pub reads_of_not : (ℕ → ℕ) → ℕ → ℕ
reads_of_not one zero = one 0
reads_of_not one (suc layer) = 0
