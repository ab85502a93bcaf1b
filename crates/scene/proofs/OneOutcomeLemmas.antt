-- Lemmas on the runs of documents.
use Rattle.std.proofs.Common.{◌≡◌, ℕ, List, sym, ◌∙◌, ap, subst, All}
use Rattle.std.specs.Prelude.{Result, Ok, Err}
use Rattle.scene_model.specs.declared.refusals.Report.{Report}
use Rattle.scene_model.specs.declared.refusals.DocRefusal.{DocRefusal}
use Rattle.scene_model.specs.Parts.{Json, Name}
use Rattle.scene_model.specs.Rulebook.{Book, Facts, known}
use Rattle.scene_model.specs.Laws.{DeclaresKnown}
use Rattle.scene_model.specs.Lawful.{IsLawful}
use Rattle.scene_model.specs.Scenes.{PlainScene, PlainFrame, IsDescribed}
use Rattle.scene_document.specs.Drafts.{Draft}
use Rattle.scene_document.specs.Documents.{document_of}
use Rattle.scene_document.specs.Openings.{first_scene, frames_of}
use Rattle.scene_document.specs.Texts.{text_of}
use Rattle.scene_model.specs.Frames.{Reaches, Ended}
use Rattle.scene_model.specs.Bounds.{commands_only}
use Rattle.scene.specs.Limits.{limit_of}
use Rattle.scene.specs.Runs.{CanBegin, Ran}
use Rattle.scene.specs.Outcomes.{Bounds, IsRunOf}
use Rattle.scene.specs.OneOutcome.{OneOutcome, HadMeans, SameButPlace}
use Rattle.scene.proofs.SoundLemmas.{IsGood, lone-turn, turn-good, frame-good}
use Rattle.scene.proofs.ResumedTurnLemmas.{runs-one, ended-means}

-- a document's frames reach a scene, with this report, whatever limits there are but that on commands
abbrev pub RanWithin : Book → ℕ → Draft → Report → PlainScene → Type 0
RanWithin book limit draft report scene = Reaches book limit (frames_of draft) report.frames (first_scene draft) scene report.skips × Ended book (commands_only limit) (frames_of draft) draft.frames report scene

-- so does a run that had means
pub ran-means : (book : Book) (bounds : Bounds) (draft : Draft) (report : Report) (scene : PlainScene) → HadMeans report → Ran book bounds draft report scene → RanWithin book bounds.commands draft report scene
ran-means book bounds draft report scene means ran = (ran.0, ended-means book (limit_of bounds draft) (frames_of draft) draft.frames report scene means ran.1)

module _ (book : Book) (declares : (kind : Name) (config : Json) (facts : Facts) → book.system kind config ≡ known facts → DeclaresKnown book facts.access) where
  -- two runs of frames from a good scene that had means are one
  pub frames-one : (limit : ℕ) (frames : ℕ → PlainFrame) (asked : ℕ) (start scene after : PlainScene) (one other : Report) → OneOutcome book → IsGood book start → ((number : ℕ) → All (IsDescribed book) (frames number).order) → ((number : ℕ) → All (IsLawful book) (frames number).commands) → HadMeans one → HadMeans other → Reaches book limit frames one.frames start scene one.skips → Ended book (commands_only limit) frames asked one scene → Reaches book limit frames other.frames start after other.skips → Ended book (commands_only limit) frames asked other after → (one ≡ other) × (scene ≡ after)
  frames-one limit frames asked start scene after one other lone good described lawful first_means second_means =
      runs-one book (IsGood book) (IsDescribed book) (lone-turn book lone) (turn-good book declares) limit frames described
      (λ number mid next places is accepts. frame-good book declares limit (frames number) mid next places (described number) (lawful number) is accepts)
      asked start scene after one other good first_means second_means

  -- two ways of a document's frames that had means are one
  pub reached-one : (limit : ℕ) (draft : Draft) (one other : Report) (scene after : PlainScene) → OneOutcome book → CanBegin book draft → HadMeans one → HadMeans other → RanWithin book limit draft one scene → RanWithin book limit draft other after → (one ≡ other) × (scene ≡ after)
  reached-one limit draft one other scene after lone begins first_means second_means first second =
      frames-one limit (frames_of draft) draft.frames (first_scene draft) scene after one other lone (record { proper = begins.proper; stand = begins.stand }) begins.described begins.lawful first_means second_means first.0 first.1 second.0 second.1

  -- two runs of a document that had means are one
  pub ran-one : (bounds : Bounds) (draft : Draft) (one other : Report) (scene after : PlainScene) → OneOutcome book → CanBegin book draft → HadMeans one → HadMeans other → Ran book bounds draft one scene → Ran book bounds draft other after → (one ≡ other) × (scene ≡ after)
  ran-one bounds draft one other scene after lone begins first_means second_means first second =
      reached-one bounds.commands draft one other scene after lone begins first_means second_means (ran-means book bounds draft one scene first_means first) (ran-means book bounds draft other after second_means second)

-- a document with the workers and the store of another
abbrev pub placed_as : Draft → Draft → Draft
placed_as other draft = record { next = draft.next; entities = draft.entities; globals = draft.globals; entries = draft.entries; frames = draft.frames; commands = draft.commands; workers = other.workers; store = other.store }

-- two documents that differ in their workers and store are one but for those
pub same-but-place : (one two : Draft) → SameButPlace one two → placed_as two one ≡ two
same-but-place one two same = λ i. record { next = same.next i; entities = same.entities i; globals = same.globals i; entries = same.entries i; frames = same.frames i; commands = same.commands i; workers = two.workers; store = two.store }

-- a document's frames are those of the document with the workers and the store of another
pub ran-as : (book : Book) (limit : ℕ) (one two : Draft) (report : Report) (scene : PlainScene) → SameButPlace one two → RanWithin book limit one report scene → RanWithin book limit two report scene
ran-as book limit one two report scene same ran = subst (λ draft. RanWithin book limit draft report scene) (same-but-place one two same) ran

-- the draft that is a document, or another
abbrev pub draft_or : Draft → Result Draft DocRefusal → Draft
draft_or other (Ok draft) = draft
draft_or other (Err refusal) = other

-- the runs of two documents that differ in their workers and store, and had means, have one report and one text
pub runs-as-one : (book : Book) → ((kind : Name) (config : Json) (facts : Facts) → book.system kind config ≡ known facts → DeclaresKnown book facts.access) → (bounds : Bounds) (input other : List ℕ) (one two : Draft) (first second : Report) (text more : List ℕ) → OneOutcome book → HadMeans first → HadMeans second → document_of book bounds.indices input ≡ Ok one → document_of book bounds.indices other ≡ Ok two → SameButPlace one two → IsRunOf book bounds input first text → IsRunOf book bounds other second more → (first ≡ second) × (text ≡ more)
runs-as-one book declares bounds input other one two first second text more lone first_means second_means is_one is_two same run run_too =
    let draft : run.draft ≡ one = ap (draft_or one) (sym run.document ∙ is_one) in
    let draft_too : run_too.draft ≡ two = ap (draft_or two) (sym run_too.document ∙ is_two) in
    let ran : RanWithin book bounds.commands two first run.scene =
    ran-as book bounds.commands one two first run.scene same (subst (λ some. RanWithin book bounds.commands some first run.scene) draft (ran-means book bounds run.draft first run.scene first_means run.ran)) in
    let ran_too : RanWithin book bounds.commands two second run_too.scene = subst (λ some. RanWithin book bounds.commands some second run_too.scene) draft_too (ran-means book bounds run_too.draft second run_too.scene second_means run_too.ran) in
    let end = reached-one book declares bounds.commands two first second run.scene run_too.scene lone (subst (CanBegin book) draft_too run_too.begins) first_means second_means ran ran_too in
    (end.0, run.written ∙ (ap (text_of book) end.1 ∙ sym run_too.written))
