-- Histories of entities, as callers make them.
use Rattle.std.proofs.Common.{◌≡◌, List, [], ◌∷◌, ◌++◌, refl}
use Rattle.specs_entity.specs.Births.{Births, Continues}
use Rattle.specs.specs.Histories.{ContinuesAlong, last_of}

-- one state more
pub along-more : (first : Births) (later : List Births) (next : Births) → ContinuesAlong first later → Continues (last_of first later) next → ContinuesAlong first (later ++ next ∷ []) × (last_of first (later ++ next ∷ []) ≡ next)
along-more first [] next goes step = ((step, tt), refl)
along-more first (one ∷ later) next goes step = let rest = along-more one later next goes.1 step in ((goes.0, rest.0), rest.1)
