-- Why a frame that runs in a world is refused.
use Rattle.std.specs.Prelude.{◌≡◌, ◌≤◌, ◌⊎◌, ℕ, List, ◌∷◌, ◌++◌, length, Some}
use Rattle.shred_world.specs.Worlds.{Slots}
use Rattle.specs_entity.specs.Births.{Births, IndicesAreSpent, GenerationsAreSpent}
use Rattle.scene_model.specs.declared.refusals.FrameRefusal.{FrameRefusal}
use Rattle.scene_model.specs.declared.refusals.FrameRefusal.TheVariants.{System, GoneReference, IdsSpent, IndicesSpent, GenerationsSpent, TooManyCommands, Memory, Threads}
use Rattle.scene_model.specs.Bounds.{commands_only}
use Rattle.scene_model.specs.Parts.{Name, Part}
use Rattle.scene_model.specs.Rulebook.{Book, Command, spawn}
use Rattle.scene_model.specs.Scenes.{PlainScene, PlainFrame}
use Rattle.scene_model.specs.Causes.{Says}
use Rattle.scene_model.specs.Commands.{CommandsRefused, first_gone}
use Rattle.scene_model.specs.Leads.{CommandsLead}
use Rattle.scene_model.specs.Frames.{Queues, SystemsRun, SystemsRefuse, SystemsFill, all_commands, RefusesCommands}
use Rattle.scene_world.specs.Standing.{Kinds, roll_of, owning_in, plain_of}
use Rattle.scene_world.specs.Rolls.{Roll, IsRoll}
use Rattle.scene_commands.specs.Acts.{seen_of}
use Rattle.scene_commands.specs.Bounds.{GrowsByIds}
use Rattle.scene_commands.specs.Newborns.{IsToBeDone}
use Rattle.scene_commands.specs.Lists.{RefusesActs}

-- a reference in a scene is gone, and this is the least id that holds one; want of memory says nothing, and there is no other cause
abbrev pub GoneIn : Book → PlainScene → FrameRefusal → Type 0
GoneIn book scene cause = Says (record { system = λ position text. ⊥; gone = λ id. first_gone book scene ≡ Some id; ids = ⊥; indices = ⊥; generations = ⊥; commands = ⊥; threads = ⊥ }) cause

module _ {V : Type 0} (kinds : Kinds V) where
  -- Commands are carried out in a world up to the one that is refused for this cause; or all are, and a reference is gone then.
  abbrev pub RefusesAll : Book → List Command → Slots V → FrameRefusal → Type 0
  RefusesAll book commands w cause = RefusesActs kinds 1 commands w cause ⊎ ((after : PlainScene) × (places : List ℕ) × CommandsLead (owning_in kinds) 1 commands (plain_of kinds (seen_of w)) after places × GoneIn book after cause)

  -- Among commands is a spawn that is to be done, and the entities of the world in which the commands before it led to the scene are at
  -- a limit; who lives there, of whom no two bear one id, is what became of those who lived before the commands.
  pub record SpawnFindsNone (limit : ℕ) (start : Roll) (commands : List Command) (scene : PlainScene) (spent : Births → Type 0) : Type 0 where
    pub within : length commands ≤ limit
    pub before : List Command
    pub parts : List (Name × Part)
    pub after : List Command
    pub are : commands ≡ before ++ spawn parts ∷ after
    pub between : Slots V
    pub places : List ℕ
    pub lead : CommandsLead (owning_in kinds) 1 before scene (plain_of kinds (seen_of between)) places
    pub at_limit : spent (roll_of kinds (seen_of between)).births
    pub to_be_done : IsToBeDone kinds parts between
    pub roll : IsRoll (roll_of kinds (seen_of between))
    pub grows : GrowsByIds start (roll_of kinds (seen_of between))

  -- Commands are refused in a world for this cause: for one that the definition has, or since a spawn finds no index, or no birth is left
  -- for its index; want of memory says nothing.
  abbrev pub CommandsRefusedIn : Book → ℕ → Roll → List Command → PlainScene → FrameRefusal → Type 0
  CommandsRefusedIn book limit start commands scene (System position text) = ⊥
  CommandsRefusedIn book limit start commands scene (GoneReference id) = CommandsRefused book (commands_only limit) commands scene (GoneReference id)
  CommandsRefusedIn book limit start commands scene IdsSpent = CommandsRefused book (commands_only limit) commands scene IdsSpent
  CommandsRefusedIn book limit start commands scene IndicesSpent = SpawnFindsNone limit start commands scene IndicesAreSpent
  CommandsRefusedIn book limit start commands scene GenerationsSpent = SpawnFindsNone limit start commands scene GenerationsAreSpent
  CommandsRefusedIn book limit start commands scene TooManyCommands = CommandsRefused book (commands_only limit) commands scene TooManyCommands
  CommandsRefusedIn book limit start commands scene Memory = Unit {0}
  CommandsRefusedIn book limit start commands scene Threads = ⊥

  -- the systems of a frame run, and then a spawn among its commands finds none left
  pub record FrameFindsNone (book : Book) (limit : ℕ) (start : Roll) (frame : PlainFrame) (scene : PlainScene) (spent : Births → Type 0) : Type 0 where
    pub mid : PlainScene
    pub queues : Queues
    pub systems : SystemsRun book frame.order scene mid queues
    pub none : SpawnFindsNone limit start (all_commands frame queues) mid spent

  -- A frame is refused in a world for this cause: a system's, or one of the commands; want of memory or of a thread says nothing of the
  -- scene.
  abbrev pub RefusedIn : Book → ℕ → Roll → PlainFrame → PlainScene → FrameRefusal → Type 0
  RefusedIn book limit start frame scene (System position text) = SystemsRefuse book frame.order scene position text
  RefusedIn book limit start frame scene (GoneReference id) = RefusesCommands book (commands_only limit) frame scene (GoneReference id)
  RefusedIn book limit start frame scene IdsSpent = RefusesCommands book (commands_only limit) frame scene IdsSpent
  RefusedIn book limit start frame scene IndicesSpent = FrameFindsNone book limit start frame scene IndicesAreSpent
  RefusedIn book limit start frame scene GenerationsSpent = FrameFindsNone book limit start frame scene GenerationsAreSpent
  RefusedIn book limit start frame scene TooManyCommands = SystemsFill book frame.order scene ⊎ RefusesCommands book (commands_only limit) frame scene TooManyCommands
  RefusedIn book limit start frame scene Memory = Unit {0}
  RefusedIn book limit start frame scene Threads = Unit {0}
