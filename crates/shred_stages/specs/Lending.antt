-- Groups to which their values are lent, one after the other.
use Rattle.std.specs.Prelude.{◌≡◌, ℕ, Option, None, List, [], ◌∷◌, if◌then◌else◌}
use Rattle.std.specs.Option.{option_or}
use Rattle.std.specs.List.{AllZip}
use Rattle.shred_world.specs.declared.resource_id.ResourceId.{ResourceId}
use Rattle.shred_world.specs.Bundles.{absent, out, Holding, holding_of, is_listed}
use Rattle.shred_plan.specs.Plan.{Group, Stage}
use Rattle.shred_stages.specs.declared.stop.Stop.{Stop}
use Rattle.shred_stages.specs.Views.{cut, view_slots, FitsSeat}
use Rattle.shred_stages.specs.Moves.{filled, left_of}
use Rattle.shred_stages.specs.Apart.{group_reads, group_writes, Ran, StandAt, put_systems}
use Rattle.shred_stages.specs.Packs.{Packed}

-- a pack has a group's systems, as they stand among all, and its ids
pub record IsPack {V S : Type 0} (all : List S) (planned : Group ResourceId) (pack : Packed V S) : Type 0 where
  pub group : pack.group ≡ planned
  pub reads : pack.reads ≡ group_reads planned
  pub writes : pack.writes ≡ group_writes planned
  pub stand : StandAt all planned pack.systems

-- the values that a group writes went into its seat
pub record IsLent {V S : Type 0} (group : Group ResourceId) (pack : Packed V S) (w w_after : Holding V) : Type 0 where
  pub seat : (id : ResourceId) → holding_of pack.seat id ≡ (if is_listed (group_writes group) id then filled (w id) out else absent)
  pub left : (id : ResourceId) → w_after id ≡ left_of (group_writes group) w id

-- so did those of each group of a stage
abbrev pub AreLent : {V S : Type 0} → Stage ResourceId → List (Packed V S) → (w w_after : Holding V) → Type 0
AreLent [] [] w w_after = (id : ResourceId) → w_after id ≡ w id
AreLent [] (pack ∷ packs) w w_after = ⊥
AreLent (group ∷ stage) [] w w_after = ⊥
AreLent {V} (group ∷ stage) (pack ∷ packs) w w_after = (between : Holding V) × IsLent group pack w between × AreLent stage packs between w_after

-- each group sees, over what was left, what it declares of what there was
abbrev pub SeeWhatTheyDeclare : {V S : Type 0} → Stage ResourceId → List (Packed V S) → (w w_after : Holding V) → Type 0
SeeWhatTheyDeclare stage packs w w_after = AllZip (λ group pack. view_slots (group_reads group) (group_writes group) w_after pack.seat ≡ cut (group_reads group) (group_writes group) w) stage packs

-- the values that a group wrote came back
abbrev pub IsBack : {V S : Type 0} → Group ResourceId → Packed V S → (w w_after : Holding V) → Type 0
IsBack group pack w w_after = (id : ResourceId) → w_after id ≡ (if is_listed (group_writes group) id then filled (holding_of pack.seat id) (w id) else w id)

-- so did those of each group of a stage
abbrev pub AreBack : {V S : Type 0} → Stage ResourceId → List (Packed V S) → (w w_after : Holding V) → Type 0
AreBack [] [] w w_after = (id : ResourceId) → w_after id ≡ w id
AreBack [] (pack ∷ packs) w w_after = ⊥
AreBack (group ∷ stage) [] w w_after = ⊥
AreBack {V} (group ∷ stage) (pack ∷ packs) w w_after = (between : Holding V) × IsBack group pack w between × AreBack stage packs between w_after

-- what a pack holds after a run is what came of its group
pub record Holds {V S : Type 0} (pack : Packed V S) (ran : Ran V S) : Type 0 where
  pub reads : List ResourceId
  pub writes : List ResourceId
  pub world : Holding V
  pub fits : FitsSeat writes pack.seat
  pub held : ran.held ≡ view_slots reads writes world pack.seat
  pub systems : ran.systems ≡ pack.systems
  pub refused : ran.refused ≡ pack.refused

-- the systems of all groups, put among all at their numbers
abbrev pub put_all : {V S : Type 0} → Stage ResourceId → List (Packed V S) → List S → List S
put_all [] packs all = all
put_all (group ∷ stage) [] all = all
put_all (group ∷ stage) (pack ∷ packs) all = put_all stage packs (put_systems group pack.systems all)

-- the first refusal in the order of the groups
abbrev pub first_told : {V S : Type 0} → List (Packed V S) → Option (ℕ × Stop)
first_told [] = None
first_told (pack ∷ packs) = option_or pack.refused (first_told packs)
