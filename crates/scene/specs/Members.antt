-- What is shown of a scene and of its documents, by what its rules say.
use Rattle.std.specs.Prelude.{ℕ, List, Option, Result}
use Rattle.std.specs.Global.{Vec}
use Rattle.shred_world.specs.Worlds.{Slots}
use Rattle.shred.specs.Dispatching.{Dispatching}
use Rattle.scene_model.specs.declared.command.Command.{Command}
use Rattle.scene_model.specs.declared.refusals.FrameRefusal.{FrameRefusal}
use Rattle.scene_model.specs.Parts.{Json}
use Rattle.scene_model.specs.Queues.{plain_commands}
use Rattle.scene_model.specs.Scenes.{PlainScene, PlainFrame}
use Rattle.scene_document.specs.declared.loaded.Limits.{Limits}
use Rattle.scene.specs.declared.snapshot.kept.KeptScene.{KeptScene}
use Rattle.scene_world.specs.Members.{Members, kinds_by, placed_by}
use Rattle.scene_world.specs.declared.placed.Placed.{Placed}
use Rattle.scene_world.specs.declared.value.SceneValue as values
use Rattle.scene_dispatch.specs.Orders.{turn_order}
use Rattle.scene.specs.Coming.{HaveCome}
use Rattle.scene.specs.Turns.{Shown}
use Rattle.scene.specs.Running.{shown_of, listed_scene, CountsTouched, IsReady, IsUnderWay, MayBegin, HasRunOut, IsOpened, IsOpenedFrom, IsPlaced, IsPrepared}
use Rattle.scene.specs.declared.frame.Scene.{Scene}
use Rattle.scene.specs.declared.load.Opened.{Opened}
use Rattle.scene.specs.declared.load.Prepared.{Prepared}

module _ {R V D G S : Type 0} (rules : Members R V D G S) where
  -- the frame of a dispatcher's systems and of these commands
  abbrev pub frame_by : Dispatching (Placed R V D G S) (Placed R V D G S) → List (Command D) → PlainFrame
  frame_by systems given = record { order = turn_order (placed_by rules).plain systems; commands = plain_commands rules.part_of given }

  -- the scene that is kept
  abbrev pub listed_by : R → KeptScene D (Vec (Option G)) → PlainScene
  listed_by own = listed_scene rules.part_of rules.global_of (rules.book own)

  -- a document is ready to be put into a world
  abbrev pub IsPreparedBy : R → Limits → Json → Prepared R V D G S → Type 0
  IsPreparedBy own = IsPrepared rules.part_of rules.global_of rules.kind_of rules.config_of (placed_by rules) (rules.book own)

  module _ (held : values.Ghosts V D) where
    -- what is shown of a scene
    abbrev pub shown_by : Scene R V D G S → Shown
    shown_by = shown_of (kinds_by rules held) rules.part_of rules.global_of (placed_by rules) rules.book

    -- the changes that a frame makes are those at the indices that were touched
    abbrev pub CountsTouchedBy : (old new : Scene R V D G S) → Type 0
    CountsTouchedBy = CountsTouched (kinds_by rules held)

    -- a scene is ready for its next frame
    abbrev pub IsReadyBy : Scene R V D G S → Type 0
    IsReadyBy = IsReady (kinds_by rules held) rules.part_of rules.global_of (placed_by rules) rules.book

    -- the systems of a frame have come to an outcome over a scene
    abbrev pub HaveComeBy : R → Dispatching (Placed R V D G S) (Placed R V D G S) → Slots V → PlainScene → Result (Unit {0}) FrameRefusal → Type 0
    HaveComeBy own systems w scene outcome = HaveCome (kinds_by rules held) (placed_by rules) (rules.book own) systems w scene outcome

    -- the systems of a scene's next frame have come to an outcome, and nothing else of the frame was done
    abbrev pub IsUnderWayBy : Scene R V D G S → Result (Unit {0}) FrameRefusal → Type 0
    IsUnderWayBy = IsUnderWay (kinds_by rules held) rules.part_of rules.global_of (placed_by rules) rules.book

    -- a scene is ready, and none of its frames has run
    abbrev pub MayBeginBy : Scene R V D G S → Type 0
    MayBeginBy = MayBegin (kinds_by rules held) rules.part_of rules.global_of (placed_by rules) rules.book

    -- the frames of a scene have run to their end
    abbrev pub HasRunOutBy : Scene R V D G S → Scene R V D G S → Type 0
    HasRunOutBy = HasRunOut (kinds_by rules held) rules.part_of rules.global_of (placed_by rules) rules.book

    -- a document stands in a world, before anything is kept of its scene
    abbrev pub IsPlacedBy : R → Limits → Json → Opened R V D G S → Type 0
    IsPlacedBy own = IsPlaced (kinds_by rules held) rules.part_of (placed_by rules) (rules.book own)

    -- a scene was opened from a JSON
    abbrev pub IsOpenedBy : R → Limits → Json → Scene R V D G S → Type 0
    IsOpenedBy = IsOpened (kinds_by rules held) rules.part_of rules.global_of (placed_by rules) rules.book

    -- bytes were read as a JSON, and a scene was opened from that
    abbrev pub IsReadAndOpened : R → Limits → List ℕ → Scene R V D G S → Type 0
    IsReadAndOpened = IsOpenedFrom (kinds_by rules held) rules.part_of rules.global_of (placed_by rules) rules.book
