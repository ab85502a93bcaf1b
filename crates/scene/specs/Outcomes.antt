-- What a whole run may answer, in terms of the bytes that were read.
use Rattle.std.specs.Prelude.{◌≡◌, ◌≤◌, ℕ, List, length, Option, IfSome, IfOk, IfErr, Result, Ok, Err, ◌⊎◌, take}
use Rattle.std.specs.Io.KnownBytes.{Appends, IsAtEnd}
use Rattle.scene.specs.Faults.{HasFailed}
use Rattle.scene.specs.Reading.{GivesAtLeast}
use Rattle.scene_model.specs.declared.refusals.DocRefusal.{DocRefusal}
use Rattle.scene_model.specs.declared.refusals.Report.{Report}
use Rattle.scene_document.specs.declared.loaded.LoadError.{LoadError}
use Rattle.scene_document.specs.declared.loaded.LoadError.TheVariants.{Document, Memory}
use Rattle.scene.specs.declared.runner.RunError.{RunError}
use Rattle.scene.specs.declared.runner.RunError.TheVariants as run
use Rattle.scene_model.specs.Rulebook.{Book}
use Rattle.scene_model.specs.Scenes.{PlainScene, IsProper}
use Rattle.scene_document.specs.Drafts.{Draft}
use Rattle.scene_document.specs.Documents.{document_of}
use Rattle.scene_document.specs.Texts.{scene_json, text_of, ReadsBack}
pub use Rattle.scene.specs.Limits.{Bounds, bounds_of, full_bounds}
use Rattle.scene.specs.Runs.{CanBegin, Ran}

-- a text is that of a scene which the frames of the document in these bytes reach, with this report; the document can begin, the
-- scene is proper, and the text reads as its JSON, and as no other
pub record IsRunOf (book : Book) (bounds : Bounds) (input : List ℕ) (report : Report) (text : List ℕ) : Type 0 where
  pub draft : Draft
  pub scene : PlainScene
  pub document : document_of book bounds.indices input ≡ Ok draft
  pub begins : CanBegin book draft
  pub ran : Ran book bounds draft report scene
  pub proper : IsProper book scene
  pub written : text ≡ text_of book scene
  pub reads : ReadsBack text (scene_json book scene)

-- bytes are no document, and this is why: a refusal stands; want of memory says nothing
abbrev pub IsNoDocument : Book → Bounds → List ℕ → LoadError → Type 0
IsNoDocument book bounds input (Document refusal) = document_of book bounds.indices input ≡ Err refusal
IsNoDocument book bounds input Memory = Unit {0}

-- something holds of the bytes that a reader had left: of these, where the reader tells them, else of some
abbrev pub OfInput : Option (List ℕ) → (List ℕ → Type 0) → Type 0
OfInput known holds = (input : List ℕ) × IfSome known (λ bytes. input ≡ bytes) × holds input

-- what each error of a run says
pub record Errors : Type 1 where
  pub document : DocRefusal → Type 0
  pub read : Type 0
  pub write : ℕ → Type 0
  pub memory : Type 0

-- what the error says
abbrev pub Means : Errors → RunError → Type 0
Means errors (run.Document refusal) = errors.document refusal
Means errors run.Read = errors.read
Means errors (run.Write sent) = errors.write sent
Means errors run.Memory = errors.memory

-- what a call did to its reader: the bytes that were left and are left, where the reader tells them, and its failures
pub record Reading : Type 0 where
  pub left_before : Option (List ℕ)
  pub left_after : Option (List ℕ)
  pub failures_before : ℕ
  pub failures_after : ℕ

-- what a call did to its writer: the bytes that it held and holds, where the writer tells them, and its failures
pub record Writing : Type 1 where
  pub held_before : Option (List ℕ)
  pub held_after : Option (List ℕ)
  pub failures_before : ℕ
  pub failures_after : ℕ
  pub untouched : Type 0
  pub flushed : Type 0

-- of a reader before and after, by what is told of one
abbrev pub reading : {I : Type 0} → (I → Option (List ℕ)) → (I → ℕ) → I → I → Reading
reading left failures old new = record { left_before = left old; left_after = left new; failures_before = failures old; failures_after = failures new }

-- so of a writer
abbrev pub writing : {O : Type 0} → (O → Option (List ℕ)) → (O → ℕ) → (O → Type 0) → O → O → Writing
writing held failures flushed old new = record { held_before = held old; held_after = held new; failures_before = failures old; failures_after = failures new; untouched = new ≡ old; flushed = flushed new }

-- the reader had no failure, and is at its end
pub record ReadWhole (reading : Reading) : Type 0 where
  pub sound : reading.failures_after ≡ reading.failures_before
  pub at_end : IsAtEnd reading.left_after

-- The bytes written are the text of a scene that the frames of the document reach, and no others, and are flushed; the report is of
-- those frames. No device failed, and the whole document was read, and nothing after it.
pub record Reports (book : Book) (bounds : Bounds) (reading : Reading) (writing : Writing) (report : Report) : Type 0 where
  pub scene : OfInput reading.left_before (λ input. (text : List ℕ) × IsRunOf book bounds input report text × Appends writing.held_before writing.held_after text)
  pub flushed : writing.flushed
  pub sound_writer : writing.failures_after ≡ writing.failures_before
  pub whole : ReadWhole reading

-- The document is refused by the name of the least refusal that stands, and nothing was written; the whole document was read.
pub record RefusesDocument (book : Book) (bounds : Bounds) (reading : Reading) (writing : Writing) (refusal : DocRefusal) : Type 0 where
  pub stands : OfInput reading.left_before (λ input. document_of book bounds.indices input ≡ Err refusal)
  pub untouched : writing.untouched
  pub whole : ReadWhole reading

-- The reader failed in the call, or gave bytes 4,294,967,295 times, and nothing was written.
pub record FailsRead (reading : Reading) (writing : Writing) : Type 0 where
  pub failed : HasFailed reading.failures_before reading.failures_after ⊎ GivesAtLeast 4294967295 reading.left_before reading.left_after
  pub untouched : writing.untouched

-- The writer failed in the call, and just the first bytes of a text went out, as it would have been written; the whole document was read.
pub record FailsWrite (book : Book) (bounds : Bounds) (reading : Reading) (writing : Writing) (sent : ℕ) : Type 0 where
  pub failed : HasFailed writing.failures_before writing.failures_after
  pub first : OfInput reading.left_before (λ input. (report : Report) × (text : List ℕ) × IsRunOf book bounds input report text × (sent ≤ length text) × Appends writing.held_before writing.held_after (take sent text))
  pub whole : ReadWhole reading

-- Nothing was written, and the reader had no failure.
pub record WantsMemory (reading : Reading) (writing : Writing) : Type 0 where
  pub untouched : writing.untouched
  pub sound : reading.failures_after ≡ reading.failures_before

-- where this refusal stands, it is the one that is told, but for a failed read and want of memory
abbrev pub TellsOnly : {A : Type 0} → DocRefusal → Result A RunError → Type 0
TellsOnly refusal (Ok report) = ⊥
TellsOnly refusal (Err error) = Means (record { document = λ told. told ≡ refusal; read = Unit {0}; write = λ sent. ⊥; memory = Unit {0} }) error

-- a run of the document that a reader gives, to a writer
pub record RunsDocument (book : Book) (bounds : Bounds) (result : Result Report RunError) (reading : Reading) (writing : Writing) : Type 0 where
  pub reports : IfOk result (Reports book bounds reading writing)
  pub error : IfErr result (Means (record {
    document = RefusesDocument book bounds reading writing;
    read = FailsRead reading writing;
    write = FailsWrite book bounds reading writing;
    memory = WantsMemory reading writing;
  }))
  -- A document that is no scene is refused by its name, and only then.
  pub only_that : IfSome reading.left_before (λ input. (refusal : DocRefusal) → document_of book bounds.indices input ≡ Err refusal → TellsOnly refusal result)
