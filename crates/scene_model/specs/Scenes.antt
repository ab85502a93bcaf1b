-- A scene, the fragment of it that a system is lent, and the scene after a system's turn.
use Rattle.std.specs.Prelude.{◌≡◌, ◌<◌, ℕ, Bool, true, ◌==◌, List, length, Option, Some, None, IsSome, All, AllPairs, if◌then◌else◌}
use Rattle.std.specs.List.{list_any}
use Rattle.scene_model.specs.Parts.{Json, Name, Ref, living, gone, Part, is_among}
use Rattle.scene_model.specs.Rulebook.{Access, declares, declares_global, Facts, known, Fragment, Book, leaves, refuses, fills, Command, queue_room}
use Rattle.scene_model.specs.Lawful.{IsLawful}

-- a scene: the next id, the ids ascending, the part of each id under each kind, the value of each global
pub record PlainScene : Type 0 where
  pub next : ℕ
  pub ids : List ℕ
  pub part : ℕ → Name → Option Part
  pub global : Name → Option Json

-- whether an id lives
abbrev pub lives : ℕ → List ℕ → Bool
lives id ids = list_any (λ other. other == id) ids

-- a reference to an entity that lives
abbrev pub RefLives : List ℕ → Ref → Type 0
RefLives ids (living id) = lives id ids ≡ true
RefLives ids gone = ⊥

-- each reference of each part of a living id names a living id
abbrev pub RefsLive : List ℕ → (ℕ → Name → Option Part) → Type 0
RefsLive ids part = (id : ℕ) (kind : Name) (held : Part) → lives id ids ≡ true → part id kind ≡ Some held → All (RefLives ids) held.refs

-- each part is one that the rules admit under its kind
abbrev pub PartsAdmitted : Book → (ℕ → Name → Option Part) → Type 0
PartsAdmitted book part = (id : ℕ) (kind : Name) (held : Part) → part id kind ≡ Some held → book.admits kind held ≡ true

-- the value of each global is what the rules read for it
abbrev pub GlobalsReadable : Book → (Name → Option Json) → Type 0
GlobalsReadable book global = (name : Name) (value : Json) → global name ≡ Some value → book.read_global name value ≡ Some value

-- each part stands at a living id
abbrev pub PartsOwned : List ℕ → (ℕ → Name → Option Part) → Type 0
PartsOwned ids part = (id : ℕ) (kind : Name) (held : Part) → part id kind ≡ Some held → lives id ids ≡ true

-- each part stands under one of these kinds
abbrev pub PartsStand : List Name → (ℕ → Name → Option Part) → Type 0
PartsStand names part = (id : ℕ) (kind : Name) (held : Part) → part id kind ≡ Some held → is_among kind names ≡ true

-- ids ascend
abbrev pub IdsAscend : List ℕ → Type 0
IdsAscend ids = AllPairs (λ one other. one < other) ids

-- and are below the next one
pub record IdsFit (next : ℕ) (ids : List ℕ) : Type 0 where
  pub ascend : IdsAscend ids
  pub below : All (λ id. id < next) ids

-- a scene is proper: its ids ascend below the next one, each part stands at a living id and is one that the rules admit under its
-- kind, each reference names a living id, and the value of each global is what the rules read for it
pub record IsProper (book : Book) (scene : PlainScene) : Type 0 where
  pub ids : IdsFit scene.next scene.ids
  pub owned : PartsOwned scene.ids scene.part
  pub admitted : PartsAdmitted book scene.part
  pub living : RefsLive scene.ids scene.part
  pub readable : GlobalsReadable book scene.global

-- what a scene holds of the declared kinds and globals
abbrev pub fragment : Access → PlainScene → Fragment
fragment access scene = record {
  ids = scene.ids;
  part = λ id kind. if declares access kind then scene.part id kind else None;
  global = λ name. if declares_global access name then scene.global name else None;
}

-- the scene with what a system left of its written kinds and globals put in, and all else equal
abbrev pub with_left : Access → Fragment → PlainScene → PlainScene
with_left access left scene = record {
  next = scene.next;
  ids = scene.ids;
  part = λ id kind. if is_among kind access.writes then left.part id kind else scene.part id kind;
  global = λ name. if is_among name access.written_globals then left.global name else scene.global name;
}

-- a system by what a document says of it: where it stands among the entries, its kind, its configuration and what it declares
pub record PlainSystem : Type 0 where
  pub position : ℕ
  pub kind : Name
  pub config : Json
  pub access : Access

-- the rules describe a system by its kind and configuration, and it declares what they say of it
abbrev pub IsDescribed : Book → PlainSystem → Type 0
IsDescribed book system = (facts : Facts) × (book.system system.kind system.config ≡ known facts) × (system.access ≡ facts.access)

-- each global that had a value has one
abbrev pub KeepsValues : Fragment → Fragment → Type 0
KeepsValues old left = (name : Name) → IsSome (old.global name) → IsSome (left.global name)

-- what a system leaves of what it was lent, and its commands, are lawful: the ids stay, parts stand at them, references name them, parts are of their
-- kinds, globals keep a value and have none that the rules don't read, and the commands are ones that the rules know
pub record IsLawfullyLeft (book : Book) (old left : Fragment) (commands : List Command) : Type 0 where
  pub ids : left.ids ≡ old.ids
  pub owned : PartsOwned left.ids left.part
  pub living : RefsLive left.ids left.part
  pub admitted : PartsAdmitted book left.part
  pub valued : KeepsValues old left
  pub readable : GlobalsReadable book left.global
  pub known : All (IsLawful book) commands

-- a system's turn takes a scene to the one after, with these commands
abbrev pub Steps : Book → PlainSystem → PlainScene → PlainScene → List Command → Type 0
Steps book system scene after commands = (left : Fragment) × book.meets system.kind system.config (fragment system.access scene) (leaves left commands) × IsLawfullyLeft book (fragment system.access scene) left commands × (after ≡ with_left system.access left scene)

-- a system refuses a scene with a text
abbrev pub StepRefuses : Book → PlainSystem → PlainScene → List ℕ → Type 0
StepRefuses book system scene text = book.meets system.kind system.config (fragment system.access scene) (refuses text)

-- a system fills its queue with these commands, and has more
abbrev pub StepFills : Book → PlainSystem → PlainScene → List Command → Type 0
StepFills book system scene commands = book.meets system.kind system.config (fragment system.access scene) (fills commands) × (length commands ≡ queue_room)

-- what a frame is made of: its systems in their order, and the document's commands for it
pub record PlainFrame : Type 0 where
  pub order : List PlainSystem
  pub commands : List Command
