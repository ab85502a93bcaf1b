-- Which entities bear markers, after some were asked for.
use Rattle.std.specs.Prelude.{◌≡◌, ◌⊎◌, List, [], ◌∷◌, Option, Some}
use Rattle.specs_entity.specs.Life.{LifeAt}

-- an item stands in a list
abbrev pub IsAmong : {X : Type 0} → X → List X → Type 0
IsAmong item [] = ⊥
IsAmong item (first ∷ rest) = (first ≡ item) ⊎ IsAmong item rest

module _ {S M : Type 0} (bearer_of : S → M → Option LifeAt) (lives : S → LifeAt → Type 0) where
  -- each known bearer stays so, and who lived lives on
  pub record GoesOn (before after : S) : Type 0 where
    pub keeps : (marker : M) (entity : LifeAt) → bearer_of before marker ≡ Some entity → bearer_of after marker ≡ Some entity
    pub live_on : (entity : LifeAt) → lives before entity → lives after entity

  -- who bears some markers was asked: who lives lived before, or bears one of these, and what was sound is sound
  pub record Asks (IsSound : S → Type 0) (named : List M) (before after : S) : Type 0 where
    pub only : (entity : LifeAt) → lives after entity → lives before entity ⊎ ((marker : M) × IsAmong marker named × (bearer_of after marker ≡ Some entity))
    pub sound : IsSound before → IsSound after
