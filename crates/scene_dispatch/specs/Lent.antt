-- What the systems of a dispatcher are lent is what they declare.
use Rattle.std.specs.Prelude.{List, [], ◌∷◌, map, slice_get}
use Rattle.std.specs.Option.{MatchOption}
use Rattle.shred_world.specs.declared.resource_id.ResourceId.{ResourceId}
use Rattle.shred_plan.specs.Plan.{Placing, Group, Stage}
use Rattle.scene_model.specs.Scenes.{PlainSystem}
use Rattle.scene_world.specs.Standing.{Kinds}
use Rattle.scene_world.specs.Lent.{id_of_place, read_places, written_places, IsLent}

module _ {V : Type 0} (kinds : Kinds V) (systems : List PlainSystem) where
  -- a system of a plan is there under its number, and is lent what it declares
  abbrev pub IsLentThere : Placing ResourceId → Type 0
  IsLentThere one = MatchOption (slice_get systems one.number) ⊥ (λ system. IsLent kinds system.access system.position one.reads one.writes)

  -- so it is with each of a group, of a stage, and of a plan
  abbrev pub GroupIsThere : Group ResourceId → Type 0
  GroupIsThere [] = Unit {0}
  GroupIsThere (one ∷ group) = IsLentThere one × GroupIsThere group

  abbrev pub StageIsThere : Stage ResourceId → Type 0
  StageIsThere [] = Unit {0}
  StageIsThere (group ∷ stage) = GroupIsThere group × StageIsThere stage

  abbrev pub PlanIsThere : List (Stage ResourceId) → Type 0
  PlanIsThere [] = Unit {0}
  PlanIsThere (stage ∷ stages) = StageIsThere stage × PlanIsThere stages

-- the ids of what a system reads and writes, by what it declares
abbrev pub reads_of : {V : Type 0} → Kinds V → PlainSystem → List ResourceId
reads_of kinds system = map (id_of_place kinds) (read_places system.access)

abbrev pub writes_of : {V : Type 0} → Kinds V → PlainSystem → List ResourceId
writes_of kinds system = map (id_of_place kinds) (written_places system.access system.position)

-- each system is lent by them what it declares
abbrev pub EachIsLent : {V : Type 0} → Kinds V → List PlainSystem → Type 0
EachIsLent kinds [] = Unit {0}
EachIsLent kinds (system ∷ systems) = IsLent kinds system.access system.position (reads_of kinds system) (writes_of kinds system) × EachIsLent kinds systems
