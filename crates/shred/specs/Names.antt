-- The numbers of systems by their names.
use Rattle.std.specs.Prelude.{ℕ, Bool, List, [], ◌∷◌, ◌++◌, map, Option, Some, None, is_none, if◌then◌else◌}
use Rattle.std.specs.List.{list_any, filter_map}
use Rattle.std.specs.Str.{bytes_eq}
use denote.Ref.{Bor}

-- a name by its bytes, with the number of its system
abbrev pub Named : Type 0
Named = List ℕ × ℕ

-- the bytes of texts
abbrev pub texts : List (Bor (List ℕ)) → List (List ℕ)
texts names = map (λ name. name.now) names

-- the number under a name
abbrev pub number_under : List Named → List ℕ → Option ℕ
number_under [] name = None
number_under (first ∷ names) name = if bytes_eq name first.0 then Some first.1 else number_under names name

-- whether one of some names isn't known
abbrev pub lacks_one : List Named → List (List ℕ) → Bool
lacks_one names wanted = list_any (λ name. is_none (number_under names name)) wanted

-- the numbers under some names, in their order
abbrev pub numbers_under : List Named → List (List ℕ) → List ℕ
numbers_under names wanted = filter_map (number_under names) wanted

-- the names with one more; the empty name isn't entered
abbrev pub with_name : List Named → List ℕ → ℕ → List Named
with_name names name number = if bytes_eq name [] then names else names ++ (name, number) ∷ []
