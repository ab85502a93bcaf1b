-- What contracts see of a drain that is under way.
use Rattle.std.specs.Prelude.{◌≡◌, ℕ, ◌==◌, Bool, not, ◌&&◌, List, [], ◌∷◌, Option, MatchOption}
use Rattle.std.specs.List.{list_any}
use Rattle.std.specs.Borrow.{MutBor}
use Rattle.hibitset_sets.specs.declared.drain.DrainBitIter.{DrainBitIter}
use Rattle.hibitset_sets.specs.Walk.{walk, is_pending}

-- without that index the members are the same
abbrev pub Without : (ℕ → Bool) → ℕ → (ℕ → Bool) → Type 0
Without members i members' = (j : ℕ) → members' j ≡ (not (j == i) && members j)

-- without that index where it was taken, else the members are the same
abbrev pub LosesIf : Bool → (ℕ → Bool) → ℕ → (ℕ → Bool) → Type 0
LosesIf taken members i members' = (j : ℕ) → members' j ≡ (not (taken && (j == i)) && members j)

-- without the indices of a list the members are the same
abbrev pub WithoutAll : (ℕ → Bool) → List ℕ → (ℕ → Bool) → Type 0
WithoutAll members gone members' = (j : ℕ) → members' j ≡ (not (list_any (λ i. j == i) gone) && members j)

-- the set that is drained, as it is lent
abbrev pub lent_set : {T : Type 0} → DrainBitIter T → MutBor T
lent_set it = it.set

-- the items that are still to come
abbrev pub drained_of : {T : Type 0} → (T → ℕ → Bool) → DrainBitIter T → List ℕ
drained_of members it = walk (is_pending (members it.set.now) it.masks it.prefix)

-- a call gave the first item that was to come, and took it out of the set; or it gave none where none was to come, and the set stayed
abbrev pub DrainsFirst : {T : Type 0} → (T → ℕ → Bool) → DrainBitIter T → Option ℕ → DrainBitIter T → Type 0
DrainsFirst members s r t =
    (t.set.ghost_name ≡ s.set.ghost_name)
    × MatchOption r
    ((drained_of members s ≡ []) × (drained_of members t ≡ []) × (t.set.now ≡ s.set.now))
    (λ i. (drained_of members s ≡ i ∷ drained_of members t) × Without (members s.set.now) i (members t.set.now))
