-- Ids in order.
use Rattle.std.specs.Prelude.{ℕ, List, [], ◌∷◌}
use Rattle.std.specs.BTreeSet.{insert_key}
use Rattle.std.specs.Ordering.{nat_cmp}

-- ids, ascending and each once
abbrev pub ascending : List ℕ → List ℕ
ascending [] = []
ascending (id ∷ ids) = insert_key nat_cmp (ascending ids) id
