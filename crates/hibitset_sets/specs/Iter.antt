-- What contracts see of a walk that is under way.
use Rattle.std.specs.Prelude.{◌≡◌, ℕ, Bool, List}
use Rattle.hibitset_sets.specs.declared.iter.BitIter.{BitIter}
use Rattle.hibitset_sets.specs.declared.ops.kept_walks.BitSetIter.{BitSetIter}
use Rattle.hibitset_sets.specs.BitSet.{SetWithRoom}
use Rattle.hibitset_sets.specs.Walk.{walk, is_pending, words_left}

-- the set that is walked
abbrev pub walked_set : {T : Type 0} → BitIter T → T
walked_set it = it.set

-- the bits of each layer's word that are still to be gone through, layer 0 first
abbrev pub masks_left : {T : Type 0} → BitIter T → List ℕ
masks_left it = it.masks

-- the number of the first bit of each layer's word, layer 0 first
abbrev pub prefixes : {T : Type 0} → BitIter T → List ℕ
prefixes it = it.prefix

-- the items that are still to come
abbrev pub left_of : {T : Type 0} → (T → ℕ → Bool) → BitIter T → List ℕ
left_of members it = walk (is_pending (members it.set) it.masks it.prefix)

-- how many words are still to be read
abbrev pub unread : {T : Type 0} → (T → ℕ → ℕ) → (T → ℕ → ℕ → ℕ) → BitIter T → ℕ
unread reads words it = words_left (reads it.set) (words it.set) it.masks it.prefix

-- the walk is over that set, and all its members are to come
abbrev pub walks : {T : Type 0} → (T → ℕ → Bool) → T → BitIter T → Type 0
walks members set it = (it.set ≡ set) × (left_of members it ≡ walk (members set))

-- the walk over a set that it owns
abbrev pub owned_walk : BitSetIter → BitIter SetWithRoom
owned_walk it = it.walk
