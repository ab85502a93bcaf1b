-- Lists that are cut.
use Rattle.std.specs.Prelude.{◌≡◌, ℕ, List, [], ◌∷◌, ◌++◌, Result, Ok, Err, Vec}
use Rattle.std.specs.Global.{Global}

-- a split of a list is two lists whose concatenation is that list
abbrev pub IsSplit : List ℕ → List ℕ → List ℕ → Type 0
IsSplit list first second = first ++ second ≡ list

-- a list is the concatenation of lists none of which is wanting
abbrev pub AreJoined : {E : Type 0} → List (Result (Vec ℕ Global) E) → List ℕ → Type 0
AreJoined [] all = all ≡ []
AreJoined (Err e ∷ rest) all = ⊥
AreJoined (Ok list ∷ rest) all = (others : List ℕ) × (all ≡ list.items ++ others) × AreJoined rest others
