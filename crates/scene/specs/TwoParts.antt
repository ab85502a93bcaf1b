-- A run in two parts: some frames, and then the rest of them from the scene that those reached.
use Rattle.std.specs.Prelude.{◌≡◌, ◌+◌, ℕ, List, map, drop, ◌++◌, option_map}
use Rattle.scene_model.specs.declared.refusals.FrameRefusal.{FrameRefusal}
use Rattle.scene_model.specs.declared.refusals.Report.{Report}
use Rattle.scene_model.specs.declared.refusals.Skip.{Skip}
use Rattle.scene_model.specs.Scenes.{PlainScene, PlainFrame}
use Rattle.scene_document.specs.Drafts.{Draft}
use Rattle.scene_document.specs.Openings.{first_scene}

-- the frames behind the first ones, by their numbers from 1
abbrev pub frames_behind : ℕ → (ℕ → PlainFrame) → ℕ → PlainFrame
frames_behind count frames number = frames (count + number)

-- skips of frames that come behind others
abbrev pub later_skip : ℕ → Skip → Skip
later_skip count skip = record { frame = count + skip.frame; place = skip.place }

abbrev pub later_skips : ℕ → List Skip → List Skip
later_skips count skips = map (later_skip count) skips

-- a refused frame that comes behind others
abbrev pub later_refused : ℕ → ℕ × FrameRefusal → ℕ × FrameRefusal
later_refused count refused = (count + refused.0, refused.1)

-- the report of two parts, of those of each
abbrev pub joined : Report → Report → Report
joined first second = record { frames = first.frames + second.frames; skips = first.skips ++ later_skips first.frames second.skips; refused = option_map (later_refused first.frames) second.refused }

-- a document is another with as many frames more as a third asks for, which has the same systems and the rest of the commands
pub record IsInTwoParts (whole first second : Draft) : Type 0 where
  pub next : whole.next ≡ first.next
  pub entities : whole.entities ≡ first.entities
  pub globals : whole.globals ≡ first.globals
  pub entries : whole.entries ≡ first.entries
  pub same_entries : second.entries ≡ first.entries
  pub commands : whole.commands ≡ first.commands
  pub rest : second.commands ≡ drop first.frames first.commands
  pub frames : whole.frames ≡ first.frames + second.frames

-- a document begins with a scene
abbrev pub BeginsAt : Draft → PlainScene → Type 0
BeginsAt draft scene = first_scene draft ≡ scene
