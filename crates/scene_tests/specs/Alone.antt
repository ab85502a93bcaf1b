-- Documents in which drift is alone, and what their frames lead to.
use Rattle.std.specs.Prelude.{◌≡◌, ℕ, zero, suc, List, [], ◌∷◌, Option, Ok}
use Rattle.serde_json.specs.Data.{null}
use Rattle.scene_model.specs.declared.refusals.Report.{Report}
use Rattle.scene_model.specs.Parts.{Part}
use Rattle.scene_model.specs.Scenes.{PlainScene, PlainSystem, PlainFrame}
use Rattle.scene_document.specs.Drafts.{Draft}
use Rattle.scene_document.specs.Texts.{text_of}
use Rattle.scene_document.specs.Documents.{document_of}
use Rattle.scene_document.specs.Openings.{first_scene, frames_of}
use Rattle.scene_cases.specs.Drifting.{drift_name, drift_access, drifting_book, moved_part, pos_name, vel_name}

-- drift at a place, and a frame in which it is the only system, without commands
abbrev pub drift_at : ℕ → PlainSystem
drift_at place = record { position = place; kind = drift_name; config = null; access = drift_access }

abbrev pub drift_frame : ℕ → PlainFrame
drift_frame place = record { order = drift_at place ∷ []; commands = [] }

-- bytes are a document of which each frame is so
pub record IsDriftAlone (indices : ℕ) (input : List ℕ) (draft : Draft) : Type 0 where
  pub document : document_of drifting_book indices input ≡ Ok draft
  pub place : ℕ
  pub alone : (number : ℕ) → frames_of draft (suc number) ≡ drift_frame place

-- a position to which a velocity was added so many times
abbrev pub moved_times : ℕ → Option Part → Option Part → Option Part
moved_times zero position velocity = position
moved_times (suc count) position velocity = moved_part (moved_times count position velocity) velocity

-- in so many frames each position gained the velocity of its entity once a frame, and nothing else changed
pub record DriftsFor (count : ℕ) (scene after : PlainScene) : Type 0 where
  pub next : after.next ≡ scene.next
  pub ids : after.ids ≡ scene.ids
  pub positions : (id : ℕ) → after.part id pos_name ≡ moved_times count (scene.part id pos_name) (scene.part id vel_name)
  pub velocities : (id : ℕ) → after.part id vel_name ≡ scene.part id vel_name

-- a text is that of the scene to which the frames of a report lead, where drift is alone
abbrev pub IsDriftedText : Draft → Report → List ℕ → Type 0
IsDriftedText draft report text = (after : PlainScene) × DriftsFor report.frames (first_scene draft) after × (text ≡ text_of drifting_book after)
