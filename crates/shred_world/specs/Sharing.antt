-- Whether two iterators share an item.
use Rattle.std.specs.Prelude.{◌≡◌, Bool, true, false, Option, List, [], ◌∷◌, ◌++◌, MatchBool}
use Rattle.std.specs.Borrow.{Bor}
use Rattle.std.specs.Iterator.{Count, IsFinite, Yields, Drains}
use Rattle.std.specs.List.{All}

-- each clone of an iterator may be walked to its end
abbrev pub CanBeWalked : {J : Type 0} → (clones : J → J → Type 0) (can : J → Type 0) (left : J → Count) → J → Type 0
CanBeWalked {J} clones can left from = (copy : J) → clones from copy → can copy × IsFinite (left copy)

module _ {S A : Type 0} (steps : S → Option A → S → Type 0) (from : S) where
  -- the calls from there gave some items and then one of which P holds
  abbrev pub GivesOne : (A → Type 0) → Type 0
  GivesOne P = (before : List A) × (item : A) × (after : S) × Yields steps from (before ++ item ∷ []) after × P item

  -- the calls from there gave items to their end, and P holds of each
  abbrev pub GivesOnly : (A → Type 0) → Type 0
  GivesOnly P = (items : List A) × Drains steps from items × All P items

module _ {T J : Type 0} (same : T → T → Bool) (steps : J → Option (Bor T) → J → Type 0) where
  -- an iterator gives an item that equals this one, or ends without
  abbrev pub Tells : Bool → J → T → Type 0
  Tells found from item = MatchBool found (GivesOne steps from (λ other. same item other.now ≡ true)) (GivesOnly steps from (λ other. same item other.now ≡ false))

  -- so it is of a clone of an iterator
  abbrev pub TellsByClone : (clones : J → J → Type 0) → J → Bool → T → Type 0
  TellsByClone clones from found item = (copy : J) × clones from copy × Tells found copy item

  -- the left iterator gives an item that the right one gives too, or ends without
  abbrev pub Shares : {I : Type 0} → (I → Option (Bor T) → I → Type 0) → (clones : J → J → Type 0) → Bool → I → J → Type 0
  Shares left_steps clones shared left right =
      MatchBool shared (GivesOne left_steps left (λ item. TellsByClone clones right true item.now)) (GivesOnly left_steps left (λ item. TellsByClone clones right false item.now))
