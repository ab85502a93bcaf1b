-- The cut of groups by their times, tried on rows that are given with the rule.
use Rattle.std.proofs.Common.{◌≡◌, [], ◌∷◌, refl}
use Rattle.shred_crew.specs.Cuts.{cut}

-- the two longest apart, and the other two so that both workers have six
four_to_two : cut (5 ∷ 1 ∷ 4 ∷ 2 ∷ []) 2 ≡ (0 ∷ 1 ∷ []) ∷ (2 ∷ 3 ∷ []) ∷ []
four_to_two = refl

-- one to four
one_to_four : cut (3 ∷ []) 4 ≡ (0 ∷ []) ∷ [] ∷ [] ∷ [] ∷ []
one_to_four = refl

-- equal ones in turn, the lower numbers and the lower workers first
equal_ones : cut (3 ∷ 3 ∷ 3 ∷ []) 2 ≡ (0 ∷ 2 ∷ []) ∷ (1 ∷ []) ∷ []
equal_ones = refl

-- none
none_to_two : cut [] 2 ≡ [] ∷ [] ∷ []
none_to_two = refl
