-- The living marked entities one after the other, each with its marker. No public clause cites it.
use Rattle.std.specs.Prelude.{ℕ, List, map, Option}
use Rattle.specs_entity.specs.Births.{Births}
use Rattle.specs_entity.specs.Life.{LifeAt}
use Rattle.specs_join.specs.Joins.{join_list, both, living_entity}

-- the living marked entities, each with its marker, ascending by index
abbrev pub marked_list : {M : Type 0} → Births → (ℕ → Option M) → List (LifeAt × M)
marked_list births markers = join_list (λ index. both (living_entity births index) (markers index))

-- the pairs of id and entity
abbrev pub pairs_of : {M I : Type 0} → (M → I) → List (LifeAt × M) → List (I × LifeAt)
pairs_of id_of items = map (λ item. (id_of item.1, item.0)) items
