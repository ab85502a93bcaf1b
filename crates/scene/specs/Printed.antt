-- A sound scene, whose text the rules can read again.
use Rattle.std.specs.Prelude.{◌≡◌, ℕ, List, true, false, codes, Some}
use Rattle.serde_json.specs.Data.{null, boolean, number, string, array, object, Members, put}
use Rattle.serde_json.specs.Written.{has_float}
use Rattle.scene_model.specs.Parts.{Json, Name, Part, is_among}
use Rattle.scene_model.specs.Rulebook.{Book}
use Rattle.scene_model.specs.Scenes.{PlainScene, IdsFit, RefsLive, PartsOwned}
use Rattle.scene_document.specs.Drafts.{Draft, DraftEntry, DraftCommand, draft_from}
use Rattle.scene_document.specs.Texts.{scene_json}
use Rattle.scene_document.specs.Documents.{document_from}
use Rattle.scene_document.specs.Openings.{first_scene}
use Rattle.scene.specs.References.{StandUnder}

-- two sets of rules read the same documents, and refuse the others alike
abbrev pub ReadsAlike : Book → Book → Type 0
ReadsAlike one other = (indices : ℕ) (json : Json) → document_from one indices json ≡ document_from other indices json

-- ids fit; parts stand at living ids, under the rules' kinds, and are read back from what is written for them; so are the values
-- of globals, which stand under the rules' names
pub record CanBeRead (book : Book) (scene : PlainScene) : Type 0 where
  pub ids : IdsFit scene.next scene.ids
  pub owned : PartsOwned scene.ids scene.part
  pub stand : StandUnder book.part_names scene.ids scene.part
  pub parts : (id : ℕ) (kind : Name) (held : Part) → scene.part id kind ≡ Some held → book.read_part kind held.json ≡ Some held
  pub named : (name : Name) (value : Json) → scene.global name ≡ Some value → is_among name book.global_names ≡ true
  pub globals : (name : Name) (value : Json) → scene.global name ≡ Some value → book.read_global name value ≡ Some value

-- no float is written for a scene, and its references live
pub record CanBeLoaded (scene : PlainScene) : Type 0 where
  pub parts : (id : ℕ) (kind : Name) (held : Part) → scene.part id kind ≡ Some held → has_float held.json ≡ false
  pub globals : (name : Name) (value : Json) → scene.global name ≡ Some value → has_float value ≡ false
  pub living : RefsLive scene.ids scene.part

-- a JSON with its members changed, where it is an object
abbrev pub with_members : (Members → Members) → Json → Json
with_members change null = null
with_members change (boolean b) = boolean b
with_members change (number n) = number n
with_members change (string text) = string text
with_members change (array items) = array items
with_members change (object members) = object (change members)

-- a JSON with systems, frames and commands put in, where it is an object
abbrev pub with_course : Json → Json → Json → Json → Json
with_course systems frames commands json = with_members (λ members. put (codes "systems") systems (put (codes "frames") frames (put (codes "commands") commands members))) json

-- the JSON of a scene with systems, frames and commands put in
abbrev pub document_json : Book → PlainScene → Json → Json → Json → Json
document_json book scene systems frames commands = with_course systems frames commands (scene_json book scene)

-- a document has these systems, frames and commands
pub record HasCourse (entries : List DraftEntry) (frames : ℕ) (commands : List (List DraftCommand)) (draft : Draft) : Type 0 where
  pub same_entries : draft.entries ≡ entries
  pub same_frames : draft.frames ≡ frames
  pub same_commands : draft.commands ≡ commands

-- a scene with the systems, frames and commands of a document is read as a draft of it and of what these say
abbrev pub GivesDocument : Book → PlainScene → Json → Json → Json → List DraftEntry → ℕ → List (List DraftCommand) → Type 0
GivesDocument book scene systems frames commands entries asked lists =
    (draft : Draft) × (draft_from book (document_json book scene systems frames commands) ≡ Some draft) × (first_scene draft ≡ scene) × HasCourse entries asked lists draft
