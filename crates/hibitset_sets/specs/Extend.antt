-- A set into which a list of indices is put.
use Rattle.std.specs.Prelude.{◌≡◌, ℕ, ◌<◌, List, [], ◌∷◌, map, Option}
use Rattle.std.specs.Ordering.{nat_cmp}
use Rattle.std.specs.FinSet as set
use Rattle.std.specs.Iterator.{Count, Drains, HoldsAlong, IsFinite}
use Rattle.std.specs.List.{All}
use Rattle.std.specs.Borrow.{Bor}
use Rattle.hibitset_sets.specs.BitSet.{SetWithRoom}

-- an index that a set can have
abbrev pub IsIndex : ℕ → Type 0
IsIndex i = i < 16777216

-- the same behind a reference
abbrev pub IsIndexRef : Bor ℕ → Type 0
IsIndexRef i = i.now < 16777216

-- the members after the indices of a list were put in
abbrev pub with_all : set.FinSet nat_cmp → List ℕ → set.FinSet nat_cmp
with_all members [] = members
with_all members (i ∷ rest) = with_all (set.insert members i) rest

-- the new set has the members of the old one and the indices of the list
abbrev pub Extends : SetWithRoom → List ℕ → SetWithRoom → Type 0
Extends old indices new = new.members ≡ with_all old.members indices

-- the same for a list of references
abbrev pub ExtendsRef : SetWithRoom → List (Bor ℕ) → SetWithRoom → Type 0
ExtendsRef old indices new = new.members ≡ with_all old.members (map (λ i. i.now) indices)

-- whatever walk the indices become may be begun, ends, and gives what Fits holds of alone
abbrev pub GivesOnly : {U I A : Type 0} → (U → I → Type 0) → (I → Type 0) → (I → Count) → (I → Option A → I → Type 0) → (A → Type 0) → U → Type 0
GivesOnly {U} {I} becomes can_next remaining gives Fits indices =
    (it : I) → becomes indices it → can_next it × IsFinite (remaining it) × HoldsAlong gives it (All Fits)

-- the set was empty, and all that a walk over the indices gave was put in
abbrev pub IsMadeOf : {U I A : Type 0} → (U → I → Type 0) → (I → Option A → I → Type 0) → (SetWithRoom → List A → SetWithRoom → Type 0) → U → SetWithRoom → Type 0
IsMadeOf {U} {I} {A} becomes gives extends indices made =
    (it : I) × (given : List A) × becomes indices it × Drains gives it given × extends (record { members = set.empty; room = 0 }) given made
