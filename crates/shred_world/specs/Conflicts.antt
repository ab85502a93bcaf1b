-- Which lists of ids conflict: one writes what the other reads or writes.
use Rattle.std.specs.Prelude.{◌≡◌, ℕ, true, false, List}
use Rattle.std.specs.List.{All}
use Rattle.shred_world.specs.declared.resource_id.ResourceId.{ResourceId}
use Rattle.shred_world.specs.Bundles.{is_listed}

-- each id is under this dynamic number
abbrev pub AreUnder : ℕ → List ResourceId → Type 0
AreUnder dynamic ids = All (λ id. id.dynamic ≡ dynamic) ids

-- no id is in both lists
abbrev pub ShareNoId : List ResourceId → List ResourceId → Type 0
ShareNoId ids others = (q : ResourceId) → is_listed ids q ≡ true → is_listed others q ≡ false

-- neither of two users writes an id that the other reads or writes
pub record DoNotConflict (reads writes reads' writes' : List ResourceId) : Type 0 where
  pub both_write : ShareNoId writes writes'
  pub one_writes : ShareNoId writes reads'
  pub other_writes : ShareNoId writes' reads
