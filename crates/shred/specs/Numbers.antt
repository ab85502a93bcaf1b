-- Systems over resources under one dynamic number.
use Rattle.std.specs.Prelude.{◌≡◌, ℕ}
use Rattle.std.specs.List.{All}
use Rattle.shred_world.specs.declared.resource_id.ResourceId.{ResourceId}
use Rattle.shred_plan.specs.Plan.{Placing}

-- each id that a system reads or writes stands under a dynamic number
pub record IsUnder (number : ℕ) (one : Placing ResourceId) : Type 0 where
  pub reads : All (λ id. id.dynamic ≡ number) one.reads
  pub writes : All (λ id. id.dynamic ≡ number) one.writes
