-- What ties an index to the stages of a plan. No public clause cites this file.
use Rattle.std.specs.Prelude.{◌≡◌, ℕ, ◌^◌, ◌<◌, ◌≤◌, ◌==◌, ◌&&◌, ◌||◌, nat_le, Bool, false, List, length, Option, Some, None}
use Rattle.std.specs.List.{list_any}
use Rattle.std.specs.Option.{MatchOption, option_map_or}
use Rattle.std.specs.declared.cmp.Ordering.{Ordering}
use Rattle.shred_plan.specs.declared.id_table.IdTable.{IdTable}
use Rattle.shred_plan.specs.declared.index.Index.{Index}
use Rattle.shred_plan.specs.declared.stage_set.StageSet.{StageSet}
use Rattle.shred_plan.specs.declared.planner.Place.{Place}
use Rattle.shred_plan.specs.Plan.{Placing, Stage, systems_of}
use Rattle.shred_plan.specs.Seats.{KeepsSeats}
use Rattle.shred_plan.specs.Index.{has_stage, has_for, stood_before, stage_at, stands_before, is_loose, is_blocked, rest_at, writes, uses, way_at, NoneAdmits}

-- a table has one number more, for each id that a system writes, and for each that it uses
pub record Marks {Id : Type 0} (cmp : Id → Id → Ordering) (same : Id → Id → Bool) (before after : IdTable Id) (one : Placing Id) (number : ℕ) : Type 0 where
  pub writers : (id : Id) (at : ℕ) → has_for cmp after.writers id at ≡ (has_for cmp before.writers id at || ((number == at) && writes same one id))
  pub users : (id : Id) (at : ℕ) → has_for cmp after.users id at ≡ (has_for cmp before.users id at || ((number == at) && uses same one id))

-- the tables have the stages in which each id is written, and used, and the first of each number;
-- each seat is that of a group; a stage that isn't among the loose ones lets no system join a group
pub record Keeps {Id : Type 0} (cmp : Id → Id → Ordering) (same : Id → Id → Bool) (index : Index Id) (stages : List (Stage Id)) : Type 0 where
  pub writers : (id : Id) (place : ℕ) → has_for cmp index.stages.writers id place ≡ list_any (λ one. writes same one id) (systems_of (stage_at stages place))
  pub users : (id : Id) (place : ℕ) → has_for cmp index.stages.users id place ≡ list_any (λ one. uses same one id) (systems_of (stage_at stages place))
  pub firsts : (number place : ℕ) → stood_before index.firsts.stages number place ≡ stands_before stages number place
  pub seats : KeepsSeats cmp same index.seats stages
  pub loose : (place : ℕ) → has_stage index.loose place ≡ false → is_loose (stage_at stages place) ≡ false

-- nothing is left of those that a system comes after from a stage on, or never
abbrev pub Readies : {Id : Type 0} → Placing Id → List (Stage Id) → Option ℕ → Type 0
Readies one stages ready = (place : ℕ) → place < 2 ^ 63 → (length (rest_at one stages place) == 0) ≡ option_map_or (λ stage. nat_le stage place) ready false

-- a set has the stages with which a system conflicts
abbrev pub Blocks : {Id : Type 0} (same : Id → Id → Bool) → Placing Id → List (Stage Id) → StageSet → Type 0
Blocks same one stages set = (place : ℕ) → has_stage set place ≡ is_blocked same one (stage_at stages place)

-- a place is the first, from one stage to another, that admits a system; none where no stage there does
abbrev pub IsFirst : {Id : Type 0} (same : Id → Id → Bool) → ℕ → Placing Id → List (Stage Id) → ℕ → ℕ → Option Place → Type 0
IsFirst same first one stages from end found =
    MatchOption found (NoneAdmits same first one stages from end)
    (λ place. (from ≤ place.stage) × (place.stage < end) × (way_at same first one stages place.stage ≡ Some place.way) × NoneAdmits same first one stages from place.stage)

-- the stage of a place: one more than there are, where the system needs a new one
abbrev pub stage_of : {Id : Type 0} → List (Stage Id) → Option Place → ℕ
stage_of stages None = length stages
stage_of stages (Some place) = place.stage
