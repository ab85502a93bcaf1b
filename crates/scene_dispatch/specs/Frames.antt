-- What comes of the systems of a scene on a dispatcher, over the world in which the scene stands.
use Rattle.std.specs.Prelude.{◌≡◌, ℕ, true, List, Result, Ok, Err, All, slice_get}
use Rattle.std.specs.Option.{unwrap_or}
use Rattle.std.specs.String.{string_bytes}
use Rattle.shred_world.specs.Bundles.{Holding}
use Rattle.shred_stages.specs.declared.stop.Stop.{Stop}
use Rattle.shred_stages.specs.declared.stop.Stop.TheVariants as stop
use Rattle.shred_stages.specs.declared.error.DispatchError.{DispatchError}
use Rattle.shred_stages.specs.declared.error.DispatchError.TheVariants as error
use Rattle.shred.specs.Dispatching.{Dispatching}
use Rattle.scene_model.specs.declared.refusals.FrameRefusal.{FrameRefusal}
use Rattle.scene_model.specs.declared.refusals.FrameRefusal.TheVariants.{System, GoneReference, IdsSpent, IndicesSpent, GenerationsSpent, TooManyCommands, Memory, Threads}
use Rattle.scene_model.specs.Parts.{Name, is_among}
use Rattle.scene_model.specs.Rulebook.{Book}
use Rattle.scene_model.specs.Scenes.{PlainScene, PlainSystem}
use Rattle.scene_model.specs.Frames.{Queues, SystemsRun, SystemsRefuse, SystemsFill}
use Rattle.scene_world.specs.Standing.{Kinds, seen_in, roll_of, plain_of, commands_of, IsSceneWorld}
use Rattle.scene_world.specs.Turns.{Meaning, IsOfBook, ShowsChanges}
use Rattle.scene_world.specs.Chains.{left_at}
use Rattle.scene_dispatch.specs.Orders.{turn_order}

-- the cause of a frame's refusal that the stop of a system at a position is
abbrev pub told_as : ℕ → Stop → FrameRefusal
told_as position (stop.Refused text) = System position (string_bytes text)
told_as position stop.Memory = Memory
told_as position stop.Full = TooManyCommands

-- the position of the system at a number
abbrev pub position_at : List ℕ → ℕ → ℕ
position_at positions number = unwrap_or (slice_get positions number) 0

-- the cause that the end of a dispatch is, by the positions of the staged systems and of the local ones
abbrev pub cause_of : (staged locals : List ℕ) → DispatchError → FrameRefusal
cause_of staged locals (error.System id why) = told_as (position_at staged id.0) why
cause_of staged locals (error.Local place why) = told_as (position_at locals place) why
cause_of staged locals error.Memory = Memory
cause_of staged locals error.Threads = Threads

-- systems that take their turns over a scene are refused for this cause: one of them refuses with its text, or fills its queue; want
-- of memory or of a thread says nothing of the scene
abbrev pub AreRefused : Book → List PlainSystem → PlainScene → FrameRefusal → Type 0
AreRefused book order scene (System position text) = SystemsRefuse book order scene position text
AreRefused book order scene (GoneReference id) = ⊥
AreRefused book order scene IdsSpent = ⊥
AreRefused book order scene IndicesSpent = ⊥
AreRefused book order scene GenerationsSpent = ⊥
AreRefused book order scene TooManyCommands = SystemsFill book order scene
AreRefused book order scene Memory = Unit {0}
AreRefused book order scene Threads = Unit {0}

-- the cause is want of a thread
abbrev pub WantsThread : FrameRefusal → Type 0
WantsThread (System position text) = ⊥
WantsThread (GoneReference id) = ⊥
WantsThread IdsSpent = ⊥
WantsThread IndicesSpent = ⊥
WantsThread GenerationsSpent = ⊥
WantsThread TooManyCommands = ⊥
WantsThread Memory = ⊥
WantsThread Threads = Unit {0}

module _ {V P : Type 0} (kinds : Kinds V) (meaning : Meaning P) (book : Book) where
  -- a scene stands in the world, and the systems are the rules' own
  pub record AreReady (systems : Dispatching P P) (w : Holding V) : Type 0 where
    pub world : IsSceneWorld kinds book (seen_in w)
    pub staged : All (IsOfBook meaning book) systems.staging.systems
    pub locals : All (IsOfBook meaning book) systems.locals

  -- the systems have taken their turns over the scene one after another, the commands of each are in the queue of its position, and
  -- they may do so again; the events of each kind show what became of its parts, and who lives under which id is as before
  pub record HaveTakenTurns (before : Dispatching P P) (w : Holding V) (after : Dispatching P P) (w_after : Holding V) : Type 0 where
    pub ready : AreReady after w_after
    pub queues : Queues
    pub systems : SystemsRun book (turn_order meaning.plain before) (plain_of kinds (seen_in w)) (plain_of kinds (seen_in w_after)) queues
    pub queued : (position : ℕ) → commands_of kinds (seen_in w_after) position ≡ left_at position queues (commands_of kinds (seen_in w) position)
    pub shown : (kind : Name) → is_among kind kinds.part_names ≡ true → ShowsChanges kinds kind w w_after
    pub markers : seen_in w_after kinds.markers_id ≡ seen_in w kinds.markers_id
    pub rolls : roll_of kinds (seen_in w_after) ≡ roll_of kinds (seen_in w)

  -- they have, or are refused
  abbrev pub Come : {A : Type 0} → Dispatching P P → Holding V → Result A FrameRefusal → Dispatching P P → Holding V → Type 0
  Come before w (Ok a) after w_after = HaveTakenTurns before w after w_after
  Come before w (Err cause) after w_after = AreRefused book (turn_order meaning.plain before) (plain_of kinds (seen_in w)) cause
