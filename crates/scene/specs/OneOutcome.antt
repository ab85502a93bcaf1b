-- One outcome: what a system is lent determines what becomes of its turn.
use Rattle.std.specs.Prelude.{◌≡◌, ℕ, true, List, Ok, MatchOption}
use Rattle.scene_model.specs.declared.refusals.FrameRefusal.{FrameRefusal}
use Rattle.scene_model.specs.declared.refusals.FrameRefusal.TheVariants.{System, GoneReference, IdsSpent, IndicesSpent, GenerationsSpent, TooManyCommands, Memory, Threads}
use Rattle.scene_model.specs.declared.refusals.Report.{Report}
use Rattle.scene_model.specs.Parts.{Json, Name, is_among}
use Rattle.scene_model.specs.Rulebook.{Book, Access, Facts, known, Fragment, Outcome, leaves, refuses, fills}
use Rattle.scene_model.specs.Scenes.{IdsAscend, PartsAdmitted, RefsLive, GlobalsReadable}
use Rattle.scene_document.specs.Drafts.{Draft}
use Rattle.scene_document.specs.Documents.{document_of}
use Rattle.scene.specs.Outcomes.{Bounds}

-- two fragments that a system may leave are one under what it writes
pub record SameLeft (access : Access) (one other : Fragment) : Type 0 where
  pub parts : (id : ℕ) (kind : Name) → is_among kind access.writes ≡ true → one.part id kind ≡ other.part id kind
  pub globals : (name : Name) → is_among name access.written_globals ≡ true → one.global name ≡ other.global name

-- two outcomes of a turn are one, under what the system writes
abbrev pub SameOutcome : Access → Outcome → Outcome → Type 0
SameOutcome access (leaves one commands) (leaves other more) = SameLeft access one other × (commands ≡ more)
SameOutcome access (leaves one commands) (refuses text) = ⊥
SameOutcome access (leaves one commands) (fills more) = ⊥
SameOutcome access (refuses text) (leaves other more) = ⊥
SameOutcome access (refuses one) (refuses other) = one ≡ other
SameOutcome access (refuses text) (fills more) = ⊥
SameOutcome access (fills commands) (leaves other more) = ⊥
SameOutcome access (fills commands) (refuses text) = ⊥
SameOutcome access (fills one) (fills other) = one ≡ other

-- a fragment is one that a system may be lent: ids ascend, parts are of their kinds, references live, and globals have values that
-- the rules read
pub record IsSoundFragment (book : Book) (lent : Fragment) : Type 0 where
  pub ascend : IdsAscend lent.ids
  pub admitted : PartsAdmitted book lent.part
  pub living : RefsLive lent.ids lent.part
  pub readable : GlobalsReadable book lent.global

-- each system that the rules know allows one outcome of what it may be lent
abbrev pub OneOutcome : Book → Type 0
OneOutcome book = (kind : Name) (config : Json) (facts : Facts) → book.system kind config ≡ known facts → (old : Fragment) → IsSoundFragment book old → (one other : Outcome) → book.meets kind config old one → book.meets kind config old other → SameOutcome facts.access one other

-- A cause is of the scene, and not of where it runs: a want of memory or of a thread is as little of the scene as a limit of the
-- world's entities, an index or a birth that a spawn didn't find.
abbrev pub IsOfScene : FrameRefusal → Type 0
IsOfScene (System position text) = Unit {0}
IsOfScene (GoneReference id) = Unit {0}
IsOfScene IdsSpent = Unit {0}
IsOfScene IndicesSpent = ⊥
IsOfScene GenerationsSpent = ⊥
IsOfScene TooManyCommands = Unit {0}
IsOfScene Memory = ⊥
IsOfScene Threads = ⊥

-- a run had what it needs: if a frame is refused, then for a cause that is of the scene
abbrev pub HadMeans : Report → Type 0
HadMeans report = MatchOption report.refused (Unit {0}) (λ refused. IsOfScene refused.1)

-- two documents differ in their workers and their store alone
pub record SameButPlace (one other : Draft) : Type 0 where
  pub next : one.next ≡ other.next
  pub entities : one.entities ≡ other.entities
  pub globals : one.globals ≡ other.globals
  pub entries : one.entries ≡ other.entries
  pub frames : one.frames ≡ other.frames
  pub commands : one.commands ≡ other.commands

-- an input is a document under rules and bounds, with this draft
abbrev pub GivesDraft : Book → Bounds → List ℕ → Draft → Type 0
GivesDraft book bounds input draft = document_of book bounds.indices input ≡ Ok draft
