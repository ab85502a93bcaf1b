-- A scene between two frames: what is shown of it, and what one call of `run_frame` does.
use Rattle.std.specs.Prelude.{◌≡◌, ◌-◌, ◌<◌, ◌≤◌, ◌++◌, ℕ, suc, List, [], None, Some, MatchOption}
use Rattle.scene_model.specs.declared.refusals.Report.{Report}
use Rattle.scene_model.specs.declared.refusals.FrameRefusal.{FrameRefusal}
use Rattle.scene_model.specs.Rulebook.{Book}
use Rattle.scene_model.specs.Scenes.{PlainScene, PlainFrame}
use Rattle.scene_model.specs.Commands.{skips_of}
use Rattle.scene_document.specs.Drafts.{Draft}
use Rattle.scene_document.specs.Openings.{first_scene, frames_of}
use Rattle.scene_model.specs.Bounds.{FrameLimit}
use Rattle.scene_model.specs.Frames.{Accepts, Refuses, Reaches, Ended}
use Rattle.scene.specs.Limits.{Bounds, limit_of}

-- what is shown of a scene: the last accepted scene, its frames by their numbers from 1, what bounds them, how many frames are asked
-- for, and the report so far
pub record Shown : Type 0 where
  pub scene : PlainScene
  pub frames : ℕ → PlainFrame
  pub limit : FrameLimit
  pub asked : ℕ
  pub report : Report

-- the report before any frame
abbrev pub nothing_yet : Report
nothing_yet = record { frames = 0; skips = []; refused = None }

-- what a document shows before any frame, under these bounds
abbrev pub opening : Bounds → Draft → Shown
opening bounds draft = record { scene = first_scene draft; frames = frames_of draft; limit = limit_of bounds draft; asked = draft.frames; report = nothing_yet }

-- the frames asked for and not yet accepted
abbrev pub frames_left : Shown → ℕ
frames_left shown = shown.asked - shown.report.frames

-- the next frame of a scene
abbrev pub next_frame : Shown → PlainFrame
next_frame shown = shown.frames (suc shown.report.frames)

-- nothing happens in the frames to come: no system runs, and no command is given to them
abbrev pub IsAtRest : Shown → Type 0
IsAtRest shown = (number : ℕ) → shown.report.frames < number → shown.frames number ≡ record { order = []; commands = [] }

-- what is shown once all frames that are asked for are counted, where nothing else changed
abbrev pub at_end : Shown → Shown
at_end shown = record {
  scene = shown.scene;
  frames = shown.frames;
  limit = shown.limit;
  asked = shown.asked;
  report = record { frames = shown.asked; skips = shown.report.skips; refused = shown.report.refused };
}

-- what stays of a scene whatever its frames do: the frames themselves, what bounds them and how many are asked for
pub record SameCourse (old new : Shown) : Type 0 where
  pub frames : new.frames ≡ old.frames
  pub limit : new.limit ≡ old.limit
  pub asked : new.asked ≡ old.asked

-- a frame was accepted: the scene is the one after, and the report counts it and tells its skips
pub record Advances (book : Book) (old new : Shown) : Type 0 where
  pub was_going : old.report.refused ≡ None
  pub accepted : (places : List ℕ) × Accepts book old.limit.commands (next_frame old) old.scene new.scene places × (new.report ≡ record { frames = suc old.report.frames; skips = old.report.skips ++ skips_of (suc old.report.frames) places; refused = None })
  pub course : SameCourse old new

-- a frame was refused for this cause
pub record IsRefused (book : Book) (old new : Shown) (cause : FrameRefusal) : Type 0 where
  pub refused : Refuses book old.limit (next_frame old) old.scene cause
  pub report : new.report ≡ record { frames = old.report.frames; skips = old.report.skips; refused = Some (suc old.report.frames, cause) }

-- no frame was accepted: the scene stays, and the report tells the first refusal
pub record Stays (book : Book) (old new : Shown) : Type 0 where
  pub scene : new.scene ≡ old.scene
  pub course : SameCourse old new
  pub told : MatchOption old.report.refused ((cause : FrameRefusal) × IsRefused book old new cause) (λ _. new.report ≡ old.report)

-- the frames of a scene so far, all accepted
pub record Going (book : Book) (start now : Shown) : Type 0 where
  pub going : now.report.refused ≡ None
  pub reached : Reaches book start.limit.commands start.frames now.report.frames start.scene now.scene now.report.skips
  pub course : SameCourse start now
  pub within : now.report.frames ≤ now.asked

-- the frames of a scene to their end: all that were asked for, or up to the first that is refused
pub record RunsOut (book : Book) (start now : Shown) : Type 0 where
  pub reached : Reaches book start.limit.commands start.frames now.report.frames start.scene now.scene now.report.skips
  pub ended : Ended book start.limit start.frames start.asked now.report now.scene
