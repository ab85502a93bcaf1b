-- Indices that a walk still gives.
use Rattle.std.specs.Prelude.{◌≡◌, ℕ, List, [], ◌∷◌, ◌⊎◌}

-- the index is among those that come
abbrev pub IsToCome : ℕ → List ℕ → Type 0
IsToCome index [] = ⊥
IsToCome index (first ∷ rest) = (first ≡ index) ⊎ IsToCome index rest
