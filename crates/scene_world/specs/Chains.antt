-- A plan of systems that runs over a world in which a scene stands is the chain of their turns over the scene.
use Rattle.std.specs.Prelude.{◌≡◌, ℕ, ◌==◌, true, List, [], ◌∷◌, map, Option, Some, MatchOption, if◌then◌else◌, slice_get}
use Rattle.std.specs.List.{flat_map}
use Rattle.std.specs.String.{string_bytes}
use Rattle.shred_world.specs.declared.resource_id.ResourceId.{ResourceId}
use Rattle.shred_plan.specs.Plan.{Group, Stage}
use Rattle.shred_stages.specs.declared.stop.Stop.{Stop}
use Rattle.shred_stages.specs.declared.stop.Stop.TheVariants as stop
use Rattle.shred_stages.specs.Runs.{State}
use Rattle.scene_model.specs.Parts.{Name, is_among}
use Rattle.scene_model.specs.Rulebook.{Book, Command}
use Rattle.scene_model.specs.Scenes.{PlainScene, PlainSystem}
use Rattle.scene_model.specs.Frames.{Queues, SystemsRun, SystemsRefuse, SystemsFill}
use Rattle.scene_world.specs.Standing.{Kinds, seen_in, IsWhole, roll_of, plain_of, commands_of, IsSceneWorld}
use Rattle.scene_world.specs.Lent.{IsLent}
use Rattle.scene_world.specs.Turns.{Meaning, IsOfBook, ShowsChanges}

-- the commands in the queue of a place after systems have run that left these queues: those of the last that stands there, else what was in it
abbrev pub left_at : ℕ → Queues → List Command → List Command
left_at position [] before = before
left_at position (queue ∷ queues) before = left_at position queues (if queue.0 == position then queue.1 else before)

-- the systems of a plan in its order, by what is meant of each number
abbrev pub group_order : (ℕ → PlainSystem) → Group ResourceId → List PlainSystem
group_order at group = map (λ one. at one.number) group

abbrev pub stage_order : (ℕ → PlainSystem) → Stage ResourceId → List PlainSystem
stage_order at stage = flat_map (group_order at) stage

abbrev pub plan_order : (ℕ → PlainSystem) → List (Stage ResourceId) → List PlainSystem
plan_order at stages = flat_map (stage_order at) stages

module _ {V : Type 0} (kinds : Kinds V) (at : ℕ → PlainSystem) where
  -- each system of a plan declares what it is lent of a scene
  abbrev pub GroupIsLent : Group ResourceId → Type 0
  GroupIsLent [] = Unit {0}
  GroupIsLent (one ∷ group) = IsLent kinds (at one.number).access (at one.number).position one.reads one.writes × GroupIsLent group

  abbrev pub StageIsLent : Stage ResourceId → Type 0
  StageIsLent [] = Unit {0}
  StageIsLent (group ∷ stage) = GroupIsLent group × StageIsLent stage

  abbrev pub PlanIsLent : List (Stage ResourceId) → Type 0
  PlanIsLent [] = Unit {0}
  PlanIsLent (stage ∷ stages) = StageIsLent stage × PlanIsLent stages

-- what holds of each that stands in a list at a number
abbrev pub EachAt : {S : Type 0} → (ℕ → S → Type 0) → List S → Type 0
EachAt {S} holds systems = (number : ℕ) (system : S) → slice_get systems number ≡ Some system → holds number system

module _ {V S : Type 0} (kinds : Kinds V) (meaning : Meaning S) (book : Book) (at : ℕ → PlainSystem) where
  -- a system is one of the rules', and the one that is meant by its number
  abbrev pub IsMeant : ℕ → S → Type 0
  IsMeant number system = IsOfBook meaning book system × (meaning.plain system ≡ at number)

  -- systems that are meant stand ready, and in the world a scene
  pub record IsReady (state : State V S) : Type 0 where
    pub whole : IsWhole state.held
    pub world : IsSceneWorld kinds book (seen_in state.held)
    pub systems : EachAt IsMeant state.systems

  -- systems have run one after another over the scene, and the commands of each are in the queue of its place; the events of each kind
  -- show what became of its parts, and who lives under which id is as before
  pub record HaveRun (order : List PlainSystem) (before after : State V S) : Type 0 where
    pub ready : IsReady after
    pub queues : Queues
    pub systems : SystemsRun book order (plain_of kinds (seen_in before.held)) (plain_of kinds (seen_in after.held)) queues
    pub queued : (position : ℕ) → commands_of kinds (seen_in after.held) position ≡ left_at position queues (commands_of kinds (seen_in before.held) position)
    pub shown : (kind : Name) → is_among kind kinds.part_names ≡ true → ShowsChanges kinds kind before.held after.held
    pub markers : seen_in after.held kinds.markers_id ≡ seen_in before.held kinds.markers_id
    pub rolls : roll_of kinds (seen_in after.held) ≡ roll_of kinds (seen_in before.held)

  -- one of the systems stops them
  abbrev pub AreStopped : List PlainSystem → PlainScene → ℕ × Stop → Type 0
  AreStopped order scene (number, stop.Refused text) = SystemsRefuse book order scene (at number).position (string_bytes text)
  AreStopped order scene (number, stop.Memory) = Unit {0}
  AreStopped order scene (number, stop.Full) = SystemsFill book order scene

  -- what comes of some systems
  abbrev pub Comes : List PlainSystem → State V S → Option (ℕ × Stop) → State V S → Type 0
  Comes order before refused after = MatchOption refused (HaveRun order before after) (λ why. AreStopped order (plain_of kinds (seen_in before.held)) why)
