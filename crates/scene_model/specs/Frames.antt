-- A frame: each system in its turn, then the commands, then a look for references that are gone. Where a frame is accepted, the limit
-- is that on its commands.
use Rattle.std.specs.Prelude.{◌≡◌, ◌<◌, ◌≤◌, ℕ, zero, suc, ◌⊎◌, List, [], ◌∷◌, ◌++◌, MatchOption}
use Rattle.std.specs.List.{fold, flat_map}
use Rattle.std.specs.Ordering.{nat_cmp}
use Rattle.std.specs.BTreeMap.{insert_entry}
use Rattle.scene_model.specs.declared.refusals.FrameRefusal.{FrameRefusal}
use Rattle.scene_model.specs.declared.refusals.FrameRefusal.TheVariants.{GoneReference, IdsSpent, IndicesSpent, GenerationsSpent, TooManyCommands}
use Rattle.scene_model.specs.declared.refusals.Report.{Report}
use Rattle.scene_model.specs.declared.refusals.Skip.{Skip}
use Rattle.scene_model.specs.Bounds.{FrameLimit}
use Rattle.scene_model.specs.Rulebook.{Book, Command}
use Rattle.scene_model.specs.Scenes.{PlainScene, PlainSystem, PlainFrame, Steps, StepRefuses, StepFills}
use Rattle.scene_model.specs.Causes.{Says}
use Rattle.scene_model.specs.Commands.{CommandsAccepted, CommandsRefused, skips_of}

-- the commands of each system, under the system's place among the entries
abbrev pub Queues : Type 0
Queues = List (ℕ × List Command)

-- systems one after another take a scene to the one after, with their commands
abbrev pub SystemsRun : Book → List PlainSystem → PlainScene → PlainScene → Queues → Type 0
SystemsRun book [] scene after queues = (after ≡ scene) × (queues ≡ [])
SystemsRun book (first ∷ order) scene after queues = (mid : PlainScene) × (commands : List Command) × (rest : Queues) × Steps book first scene mid commands × SystemsRun book order mid after rest × (queues ≡ (first.position, commands) ∷ rest)

-- the first of the systems that refuses does so with this place and text
abbrev pub SystemsRefuse : Book → List PlainSystem → PlainScene → ℕ → List ℕ → Type 0
SystemsRefuse book [] scene position text = ⊥
SystemsRefuse book (first ∷ order) scene position text = ((first.position ≡ position) × StepRefuses book first scene text) ⊎ ((mid : PlainScene) × (commands : List Command) × Steps book first scene mid commands × SystemsRefuse book order mid position text)

-- after those before it have run, a system fills its queue and has more commands
abbrev pub SystemsFill : Book → List PlainSystem → PlainScene → Type 0
SystemsFill book [] scene = ⊥
SystemsFill book (first ∷ order) scene = ((commands : List Command) × StepFills book first scene commands) ⊎ ((mid : PlainScene) × (commands : List Command) × Steps book first scene mid commands × SystemsFill book order mid)

-- queues in the order of their places, with one more entered at its own
abbrev pub entered : Queues → ℕ × List Command → Queues
entered queues queue = insert_entry nat_cmp queues queue.0 queue.1

-- the commands of the systems by the systems' places among the entries
abbrev pub by_place : Queues → Queues
by_place queues = fold entered [] queues

-- all commands of a frame in the order in which they run: the document's, then the systems' by place
abbrev pub all_commands : PlainFrame → Queues → List Command
all_commands frame queues = frame.commands ++ flat_map (λ queue. queue.1) (by_place queues)

-- a frame takes a scene to the one after, with the places of the commands that were skipped
abbrev pub Accepts : Book → ℕ → PlainFrame → PlainScene → PlainScene → List ℕ → Type 0
Accepts book limit frame scene after places = (mid : PlainScene) × (queues : Queues) × SystemsRun book frame.order scene mid queues × CommandsAccepted book limit (all_commands frame queues) mid after places

-- the systems of a frame run, and then its commands are refused with this cause
abbrev pub RefusesCommands : Book → FrameLimit → PlainFrame → PlainScene → FrameRefusal → Type 0
RefusesCommands book limit frame scene cause = (mid : PlainScene) × (queues : Queues) × SystemsRun book frame.order scene mid queues × CommandsRefused book limit (all_commands frame queues) mid cause

-- a frame is refused with this cause: a system's, or one of the commands; only with two workers or more a thread is wanting, which says
-- nothing of the scene, and neither does want of memory
abbrev pub Refuses : Book → FrameLimit → PlainFrame → PlainScene → FrameRefusal → Type 0
Refuses book limit frame scene cause = Says (record {
  system = λ position text. SystemsRefuse book frame.order scene position text;
  gone = λ id. RefusesCommands book limit frame scene (GoneReference id);
  ids = RefusesCommands book limit frame scene IdsSpent;
  indices = RefusesCommands book limit frame scene IndicesSpent;
  generations = RefusesCommands book limit frame scene GenerationsSpent;
  threads = 2 ≤ limit.workers;
  commands = SystemsFill book frame.order scene ⊎ RefusesCommands book limit frame scene TooManyCommands;
}) cause

-- a number of frames, each as `frames` gives it by its number from 1, take a scene to the one after, with these skips
abbrev pub Reaches : Book → ℕ → (ℕ → PlainFrame) → ℕ → PlainScene → PlainScene → List Skip → Type 0
Reaches book limit frames zero scene after skips = (after ≡ scene) × (skips ≡ [])
Reaches book limit frames (suc count) scene after skips = (mid : PlainScene) × (earlier : List Skip) × (places : List ℕ) × Reaches book limit frames count scene mid earlier × Accepts book limit (frames (suc count)) mid after places × (skips ≡ earlier ++ skips_of (suc count) places)

-- a run has ended at a scene: all frames asked for were accepted, or the next one is refused
abbrev pub Ended : Book → FrameLimit → (ℕ → PlainFrame) → ℕ → Report → PlainScene → Type 0
Ended book limit frames asked report scene = MatchOption report.refused (report.frames ≡ asked) (λ refused. (report.frames < asked) × (refused.0 ≡ suc report.frames) × Refuses book limit (frames (suc report.frames)) scene refused.1)
