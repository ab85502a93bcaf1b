-- Who lives under which id, as time goes on.
use Rattle.std.specs.Prelude.{◌≡◌, ◌≤◌, ℕ}
use Rattle.specs_entity.specs.Births.{Births, IsAlive, count}
use Rattle.specs_entity.specs.Life.{LifeAt}
use Rattle.scene_world.specs.Rolls.{Roll}

-- an entity is of a birth that its index has had
abbrev pub WasBornIn : Births → LifeAt → Type 0
WasBornIn births entity = entity.generation.number ≤ count births entity.id

-- no birth is lost, of those that were born before nobody lives who didn't live then, and who lives on bears the same id
pub record Ages (before after : Roll) : Type 0 where
  pub births : (index : ℕ) → count before.births index ≤ count after.births index
  pub none_back : (entity : LifeAt) → WasBornIn before.births entity → IsAlive after.births entity → IsAlive before.births entity
  pub ids : (entity : LifeAt) → IsAlive before.births entity → IsAlive after.births entity → after.marker entity.id ≡ before.marker entity.id
