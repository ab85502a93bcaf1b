-- What is left behind the reference of a place that was taken by value.
use mathlib.Core.Logic.{◌⊎◌, inl, inr}
use Rattle.std.specs.Borrow.{MutBor}
use Rattle.specs_layouts.specs.Masked.{Masked}

-- the storage of a place, whose variants stand at the exit one within the other
abbrev pub left_of : {S A B C D : Type 0} → ((MutBor (Masked S) × A) × B) ⊎ (((MutBor (Masked S) × C) × D) ⊎ ⊥) → MutBor (Masked S)
left_of (inl there) = there.0.0
left_of (inr (inl lacking)) = lacking.0.0
left_of (inr (inr none)) = elim none [ ]
