-- What entities go through, call after call.
use Rattle.std.specs.Prelude.{List, [], ◌∷◌}
use Rattle.specs_entity.specs.Births.{Births, Continues}

-- the last of some states
abbrev pub last_of : Births → List Births → Births
last_of first [] = first
last_of first (next ∷ later) = last_of next later

-- each state continues the one before: so the contract of each call of entities and worlds says of its states
abbrev pub ContinuesAlong : Births → List Births → Type 0
ContinuesAlong first [] = Unit {0}
ContinuesAlong first (next ∷ later) = Continues first next × ContinuesAlong next later
