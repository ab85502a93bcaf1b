-- What the systems of a frame have come to, before its commands are carried out.
use Rattle.std.specs.Prelude.{◌≡◌, ◌≤◌, ℕ, [], Result, Ok, Err}
use Rattle.shred_world.specs.Worlds.{Slots}
use Rattle.shred_world.specs.Bundles.{holding_of}
use Rattle.shred.specs.Dispatching.{Dispatching}
use Rattle.scene_model.specs.declared.refusals.FrameRefusal.{FrameRefusal}
use Rattle.scene_model.specs.Bounds.{FrameLimit}
use Rattle.scene_model.specs.Rulebook.{Book}
use Rattle.scene_model.specs.Scenes.{PlainScene}
use Rattle.scene_model.specs.Frames.{Queues, SystemsRun}
use Rattle.scene_world.specs.Standing.{Kinds, roll_of, plain_of, commands_of}
use Rattle.scene_world.specs.Turns.{Meaning}
use Rattle.scene_world.specs.Chains.{left_at}
use Rattle.scene_dispatch.specs.Orders.{turn_order}
use Rattle.scene_dispatch.specs.Frames.{AreReady, AreRefused, WantsThread}
use Rattle.scene_commands.specs.Acts.{seen_of}
use Rattle.scene_commands.specs.Bounds.{IsBounded}

module _ {V P : Type 0} (kinds : Kinds V) (meaning : Meaning P) (book : Book) where
  -- the systems have taken their turns over a scene, and what they made of it stands in the world; the commands that wait there are
  -- theirs, each in the queue of its system's position
  pub record HaveTurned (systems : Dispatching P P) (w : Slots V) (scene : PlainScene) : Type 0 where
    pub ready : AreReady kinds meaning book systems (holding_of w)
    pub queues : Queues
    pub systems_ran : SystemsRun book (turn_order meaning.plain systems) scene (plain_of kinds (seen_of w)) queues
    pub queued : (position : ℕ) → commands_of kinds (seen_of w) position ≡ left_at position queues []

  -- they have, or are refused
  abbrev pub HaveCome : {A : Type 0} → Dispatching P P → Slots V → PlainScene → Result A FrameRefusal → Type 0
  HaveCome systems w scene (Ok a) = HaveTurned systems w scene
  HaveCome systems w scene (Err cause) = AreRefused book (turn_order meaning.plain systems) scene cause

-- the entities of a world are under a limit
abbrev pub IsUnder : {V : Type 0} → Kinds V → FrameLimit → Slots V → Type 0
IsUnder kinds limit w = IsBounded limit.indices limit.generation limit.unlisted (roll_of kinds (seen_of w))

-- so they are where systems have come to a good end; and they want a thread only with two workers or more
abbrev pub StaysUnder : {V A : Type 0} → Kinds V → FrameLimit → Slots V → Result A FrameRefusal → Type 0
StaysUnder kinds limit w (Ok a) = IsUnder kinds limit w
StaysUnder kinds limit w (Err cause) = WantsThread cause → 2 ≤ limit.workers
