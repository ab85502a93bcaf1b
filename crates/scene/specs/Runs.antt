-- A run: from a document to the scene that its frames reach.
use Rattle.std.specs.Prelude.{ℕ, All}
use Rattle.scene_model.specs.declared.refusals.Report.{Report}
use Rattle.scene_model.specs.Rulebook.{Book}
use Rattle.scene_model.specs.Scenes.{PlainScene, IsProper, PartsStand, IsDescribed}
use Rattle.scene_model.specs.Lawful.{IsLawful}
use Rattle.scene_document.specs.Drafts.{Draft}
use Rattle.scene_document.specs.Openings.{first_scene, frames_of}
use Rattle.scene_model.specs.Frames.{Reaches, Ended}
use Rattle.scene.specs.Limits.{Bounds, limit_of}

-- a document can begin: the scene that it gives is proper, its parts stand under the rules' kinds, and in each frame the systems are
-- as the rules describe them, and the document's commands are ones that they know
pub record CanBegin (book : Book) (draft : Draft) : Type 0 where
  pub proper : IsProper book (first_scene draft)
  pub stand : PartsStand book.part_names (first_scene draft).part
  pub described : (number : ℕ) → All (IsDescribed book) (frames_of draft number).order
  pub lawful : (number : ℕ) → All (IsLawful book) (frames_of draft number).commands

-- a document's frames reach a scene, with this report, under these bounds
abbrev pub Ran : Book → Bounds → Draft → Report → PlainScene → Type 0
Ran book bounds draft report scene = Reaches book bounds.commands (frames_of draft) report.frames (first_scene draft) scene report.skips × Ended book (limit_of bounds draft) (frames_of draft) draft.frames report scene
