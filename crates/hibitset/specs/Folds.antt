-- Folds of lists in one piece and in parts.
use Rattle.std.specs.Prelude.{◌≡◌, ℕ, List, ◌++◌}
use Rattle.std.specs.List.{FoldsTo, concat}

module _ {A : Type 0} (start : A → Type 0) (step : A → ℕ → A → Type 0) where
  -- a list is folded, item by item, from a start on
  abbrev pub FoldsFromStart : List ℕ → A → Type 0
  FoldsFromStart list result = (from : A) × start from × FoldsTo step from list result

  module _ (combine : A → A → A → Type 0) where
    -- a list is cut in parts, each is folded from a start of its own, and the results are combined from the first to the last
    pub record FoldsInParts (list : List ℕ) (result : A) : Type 0 where
      pub first : List ℕ
      pub others : List (List ℕ)
      pub whole : first ++ concat others ≡ list
      pub opening : A
      pub folded : FoldsFromStart first opening
      pub combined : FoldsTo (λ sofar part next. (own : A) × FoldsFromStart part own × combine sofar own next) opening others result

    -- to combine a value with the fold of a list is to go on from the value through the list
    abbrev pub GoesOn : Type 0
    GoesOn = (sofar own next : A) (part : List ℕ) → FoldsFromStart part own → combine sofar own next → FoldsTo step sofar part next
