-- Groups of a stage that are free of one another.
use Rattle.std.specs.Prelude.{◌≡◌, ◌≢◌, ℕ, true, false, [], ◌∷◌}
use Rattle.shred_world.specs.declared.resource_id.ResourceId.{ResourceId}
use Rattle.shred_world.specs.Bundles.{is_listed}
use Rattle.shred_plan.specs.Plan.{Group, Stage}
use Rattle.shred_stages.specs.Apart.{group_reads, group_writes}

-- no system of a group has a number
abbrev pub IsNone : ℕ → Group ResourceId → Type 0
IsNone number [] = Unit {0}
IsNone number (one ∷ others) = (number ≢ one.number) × IsNone number others

-- no number stands in a group twice
abbrev pub AreDistinct : Group ResourceId → Type 0
AreDistinct [] = Unit {0}
AreDistinct (one ∷ others) = IsNone one.number others × AreDistinct others

-- no number of a group stands in another
abbrev pub ShareNone : (group other : Group ResourceId) → Type 0
ShareNone [] other = Unit {0}
ShareNone (one ∷ others) other = IsNone one.number other × ShareNone others other

-- a group shares no system with another, writes nothing that it reads or writes, and reads nothing that it writes
pub record IsFreeOf (group other : Group ResourceId) : Type 0 where
  pub numbers : ShareNone group other
  pub ids : (id : ResourceId) → is_listed (group_writes group) id ≡ true → (is_listed (group_reads other) id ≡ false) × (is_listed (group_writes other) id ≡ false)
  pub unwritten : (id : ResourceId) → is_listed (group_reads group) id ≡ true → is_listed (group_writes other) id ≡ false

abbrev pub IsFreeOfAll : Group ResourceId → Stage ResourceId → Type 0
IsFreeOfAll group [] = Unit {0}
IsFreeOfAll group (other ∷ stage) = IsFreeOf group other × IsFreeOfAll group stage

-- so is each group of those behind it, and no number stands in one twice
abbrev pub AreFree : Stage ResourceId → Type 0
AreFree [] = Unit {0}
AreFree (group ∷ stage) = AreDistinct group × IsFreeOfAll group stage × AreFree stage
