-- The status of the program and the line on standard error, by what a run came to.
use Rattle.std.specs.Prelude.{◌≤◌, ℕ, codes, decimal, List, [], ◌∷◌, ◌++◌, length, take, Option, Some, None, Result, Ok, Err, ◌⊎◌}
use Rattle.std.specs.List.{flat_map}
use Rattle.std.specs.Io.KnownBytes.{Appends}
use Rattle.scene.specs.Faults.{HasFailed}
use Rattle.scene_model.specs.declared.refusals.DocRefusal.{DocRefusal}
use Rattle.scene_model.specs.declared.refusals.DocRefusal.TheVariants.{Unreadable, NotWhole, WrongShape, UnknownKind, DoubleId, IdNotBelowNext, Dangling, UnknownSystem, NameTaken, UnknownDependency, MissingGlobal, ReservedWrite, TooManyWorkers, TooManySystems, UnknownStore, TooManyEntities}
use Rattle.scene_model.specs.declared.refusals.FrameRefusal.{FrameRefusal}
use Rattle.scene_model.specs.declared.refusals.FrameRefusal.TheVariants.{System, GoneReference, IdsSpent, IndicesSpent, GenerationsSpent, TooManyCommands, Memory, Threads}
use Rattle.scene_model.specs.declared.refusals.Report.{Report}
use Rattle.scene.specs.declared.runner.RunError.{RunError}
use Rattle.scene.specs.declared.runner.RunError.TheVariants as run
use Rattle.scene_basics.specs.declared.lines.Piece.{Piece}
use Rattle.scene_basics.specs.declared.lines.Piece.TheVariants.{Text, Number}

-- the name of a document's refusal
abbrev pub name_of : DocRefusal → List ℕ
name_of Unreadable = codes "Unreadable"
name_of NotWhole = codes "NotWhole"
name_of WrongShape = codes "WrongShape"
name_of UnknownKind = codes "UnknownKind"
name_of DoubleId = codes "DoubleId"
name_of IdNotBelowNext = codes "IdNotBelowNext"
name_of Dangling = codes "Dangling"
name_of UnknownSystem = codes "UnknownSystem"
name_of NameTaken = codes "NameTaken"
name_of UnknownDependency = codes "UnknownDependency"
name_of MissingGlobal = codes "MissingGlobal"
name_of ReservedWrite = codes "ReservedWrite"
name_of TooManyWorkers = codes "TooManyWorkers"
name_of TooManySystems = codes "TooManySystems"
name_of UnknownStore = codes "UnknownStore"
name_of TooManyEntities = codes "TooManyEntities"

-- the text of a piece
abbrev pub piece_text : Piece → List ℕ
piece_text (Text text) = text.now
piece_text (Number number) = decimal number

-- texts one after another
abbrev pub joined : List (List ℕ) → List ℕ
joined texts = flat_map (λ text. text) texts

-- the name of a frame's refusal
abbrev pub cause_name : FrameRefusal → List ℕ
cause_name (System position text) = codes "System"
cause_name (GoneReference id) = codes "GoneReference"
cause_name IdsSpent = codes "IdsSpent"
cause_name IndicesSpent = codes "IndicesSpent"
cause_name GenerationsSpent = codes "GenerationsSpent"
cause_name TooManyCommands = codes "TooManyCommands"
cause_name Memory = codes "Memory"
cause_name Threads = codes "Threads"

-- what is told beside the name
abbrev pub cause_detail : FrameRefusal → List (List ℕ)
cause_detail (System position text) = codes " " ∷ decimal position ∷ codes ": " ∷ text ∷ []
cause_detail (GoneReference id) = codes " " ∷ decimal id ∷ []
cause_detail IdsSpent = []
cause_detail IndicesSpent = []
cause_detail GenerationsSpent = []
cause_detail TooManyCommands = []
cause_detail Memory = []
cause_detail Threads = []

-- the line of a frame that is refused
abbrev pub frame_line : ℕ → FrameRefusal → List ℕ
frame_line frame refusal = joined (codes "frame " ∷ decimal frame ∷ codes " refused: " ∷ cause_name refusal ∷ (cause_detail refusal ++ codes "\n" ∷ []))

-- the line of a run that gave no report
abbrev pub error_line : RunError → List ℕ
error_line (run.Document refusal) = joined (codes "document refused: " ∷ name_of refusal ∷ codes "\n" ∷ [])
error_line run.Read = joined (codes "read failed\n" ∷ [])
error_line (run.Write sent) = joined (codes "write failed after " ∷ decimal sent ∷ codes " bytes\n" ∷ [])
error_line run.Memory = joined (codes "out of memory\n" ∷ [])

-- the line of the frame that a run was refused at, if it was
abbrev pub refused_line : Option (ℕ × FrameRefusal) → List ℕ
refused_line None = []
refused_line (Some refused) = frame_line refused.0 refused.1

-- the line of what a run came to: none where all frames are done
abbrev pub line_of : Result Report RunError → List ℕ
line_of (Ok report) = refused_line report.refused
line_of (Err error) = error_line error

-- the status of a run that gave no report
abbrev pub error_status : RunError → ℕ
error_status (run.Document refusal) = 1
error_status run.Read = 3
error_status (run.Write sent) = 3
error_status run.Memory = 4

-- the status of a run that was or was not refused at a frame
abbrev pub refused_status : Option (ℕ × FrameRefusal) → ℕ
refused_status None = 0
refused_status (Some refused) = 2

-- the status of what a run came to
abbrev pub status_of : Result Report RunError → ℕ
status_of (Ok report) = refused_status report.refused
status_of (Err error) = error_status error

-- a line went out, or just its first bytes, where the writer failed
pub record Tells (line : List ℕ) (held_before held_after : Option (List ℕ)) (failures_before failures_after : ℕ) : Type 0 where
  pub sent : ℕ
  pub bytes : Appends held_before held_after (take sent line)
  pub whole : (length line ≤ sent) ⊎ HasFailed failures_before failures_after
