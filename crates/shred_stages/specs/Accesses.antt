-- The ids that a system or a batch declares.
use Rattle.std.specs.Prelude.{List}
use Rattle.std.specs.List.{flat_map}
use Rattle.shred_world.specs.declared.resource_id.ResourceId.{ResourceId}
use Rattle.shred_plan.specs.Plan.{Placing, Stage}
use Rattle.shred_stages.specs.declared.access.Access.{Access}
use Rattle.shred_stages.specs.declared.access.Access.TheVariants.{Reads, Writes}

-- those that it reads and those that it writes, each in order
pub record Accesses : Type 0 where
  pub reads : List ResourceId
  pub writes : List ResourceId

-- the ids of a system that are meant
abbrev pub declared_ids : Access → Placing ResourceId → List ResourceId
declared_ids Reads one = one.reads
declared_ids Writes one = one.writes

-- the ids of each system of some stages, in the order of the plan
abbrev pub ids_in_stages : (Placing ResourceId → List ResourceId) → List (Stage ResourceId) → List ResourceId
ids_in_stages ids stages = flat_map (λ stage. flat_map (λ group. flat_map ids group) stage) stages

-- the ids that they read, and those that they write
abbrev pub all_reads : List (Stage ResourceId) → List ResourceId
all_reads stages = ids_in_stages (λ one. one.reads) stages

abbrev pub all_writes : List (Stage ResourceId) → List ResourceId
all_writes stages = ids_in_stages (λ one. one.writes) stages
