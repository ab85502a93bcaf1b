-- Where the value of a cell is.
use Rattle.std.proofs.Common.{◌≡◌, ap, Option, Some, None}
use Rattle.shred.specs.declared.cells.trust_cell.Seat.{Seat}
use Rattle.shred.specs.declared.cells.trust_cell.Seat.TheVariants.{Here, Out}

module _ {T : Type 0} where
  -- the value that is seen, or else this one
  value_or : T → Option (Seat T) → T
  value_or other None = other
  value_or other (Some (Here value)) = value
  value_or other (Some Out) = other

  -- a cell has one value
  pub here-injective : (one other : T) → Some (Here one) ≡ Some (Here other) → one ≡ other
  unfolding value_or
  here-injective one other e = ap (value_or one) e

  -- a value that is here is not out
  pub out-is-not-here : (one : T) → Some Out ≡ Some (Here one) → ⊥
  out-is-not-here one e = cc
