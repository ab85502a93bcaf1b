-- A run to its end, and a run in two parts by what documents say.
use Rattle.std.specs.Prelude.{◌≡◌, ◌+◌, ℕ, List, drop, Ok, Some}
use Rattle.scene_document.specs.declared.loaded.Limits.{Limits}
use Rattle.scene_model.specs.declared.refusals.Report.{Report}
use Rattle.scene_model.specs.Parts.{Json}
use Rattle.scene_model.specs.Rulebook.{Book}
use Rattle.scene_model.specs.Scenes.{PlainScene}
use Rattle.scene_document.specs.Drafts.{Draft, DraftEntry, DraftCommand, whole_32, entries_from, commands_from}
use Rattle.scene_document.specs.Texts.{scene_json, text_of, ReadsBack}
use Rattle.scene_document.specs.Documents.{document_from}
use Rattle.scene.specs.Limits.{bounds_of}
use Rattle.scene.specs.Runs.{CanBegin, Ran}
use Rattle.scene.specs.OneOutcome.{HadMeans}
use Rattle.scene.specs.Printed.{CanBeRead}

-- a document that a JSON is was run to its end, and had what it needs, with this report and this text of the scene that it reached,
-- which can be read again
pub record IsFinished (book : Book) (limits : Limits) (json : Json) (report : Report) (text : List ℕ) : Type 0 where
  pub draft : Draft
  pub scene : PlainScene
  pub document : document_from book limits.indices json ≡ Ok draft
  pub begins : CanBegin book draft
  pub ran : Ran book (bounds_of limits) draft report scene
  pub means : HadMeans report
  pub readable : CanBeRead book scene
  pub written : text ≡ text_of book scene
  pub reads : ReadsBack text (scene_json book scene)

-- a document asks for the frames of another and then for more, which have the same systems and the rest of the commands
pub record GoesOn (book : Book) (indices : ℕ) (whole first systems frames commands : Json) : Type 0 where
  pub all : Draft
  pub begin : Draft
  pub entries : List DraftEntry
  pub asked : ℕ
  pub lists : List (List DraftCommand)
  pub is_all : document_from book indices whole ≡ Ok all
  pub is_begin : document_from book indices first ≡ Ok begin
  pub are_entries : entries_from book systems ≡ Some entries
  pub are_frames : whole_32 frames ≡ Some asked
  pub are_lists : commands_from book commands ≡ Some lists
  pub next : all.next ≡ begin.next
  pub entities : all.entities ≡ begin.entities
  pub globals : all.globals ≡ begin.globals
  pub entries_of_both : all.entries ≡ begin.entries
  pub same_systems : entries ≡ begin.entries
  pub lists_of_both : all.commands ≡ begin.commands
  pub rest : lists ≡ drop begin.frames begin.commands
  pub total : all.frames ≡ begin.frames + asked
