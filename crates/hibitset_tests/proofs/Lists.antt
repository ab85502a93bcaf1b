-- lists and ranges of indices, of which sets are made

use Rattle.std.proofs.Common.{ℕ, ◌≤◌, List, [], ◌∷◌, arith}
use Rattle.std.specs.List.{All}
use Rattle.std.specs.Iterator.{Yields}
use Rattle.std.specs.declared.ops.Range.{Range}
use Rattle.std.proofs.lemmas.List.Elements.{All-nil, All-cons}
use Rattle.std.proofs.iter.Yields.{nat_range_steps}
use Rattle.hibitset_sets.specs.Extend.{IsIndex}
use Rattle.hibitset_sets.proofs.CallerLemmas.{All_yielded}

-- 9 and 3 are indices
pub nine-three : All IsIndex (9 ∷ 3 ∷ [])
nine-three = All-cons IsIndex 9 (3 ∷ []) (omega arith) (All-cons IsIndex 3 [] (omega arith) (All-nil IsIndex))

-- what a range yields that ends within the indices are indices
pub range-yielded : (it : Range ℕ) → it.end ≤ 16777216 → (xs : List ℕ) (t : Range ℕ) → Yields nat_range_steps it xs t → All IsIndex xs
range-yielded it within xs t y =
    All_yielded nat_range_steps (λ s. s.end ≤ 16777216) IsIndex (λ s x u i p. (omega arith, omega arith)) it xs t within y
