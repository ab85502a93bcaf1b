-- Lemmas on what a whole run answers.
use Rattle.std.proofs.Common.{◌≡◌, ℕ, List, Some, Ok, sym, ◌∙◌, ap, subst}
use Rattle.scene_model.specs.declared.refusals.Report.{Report}
use Rattle.scene_model.specs.Rulebook.{Book}
use Rattle.scene_model.specs.Scenes.{IsProper}
use Rattle.scene_model.specs.Parts.{Json}
use Rattle.scene_document.specs.declared.loaded.LoadError.{LoadError}
use Rattle.scene_document.specs.declared.loaded.LoadError.TheVariants.{Document, Memory}
use Rattle.scene_document.specs.Loading.{IsNotLoaded}
use Rattle.scene_document.specs.Drafts.{Draft}
use Rattle.scene_document.specs.Documents.{of_reading, document_from}
use Rattle.scene_document.specs.Texts.{json_of, scene_json, text_of, ReadsBack}
use Rattle.scene.specs.Runs.{CanBegin, Ran}
use Rattle.scene.specs.Turns.{Shown, opening, RunsOut}
use Rattle.scene.specs.Outcomes.{Bounds, IsRunOf, IsNoDocument}

-- a run to the end of a document that was opened is a run of its bytes
pub run_of : (book : Book) (bounds : Bounds) (input : List ℕ) (json : Json) (draft : Draft) (start now : Shown) (report : Report) (text : List ℕ) → json_of input ≡ Some json → document_from book bounds.indices json ≡ Ok draft → start ≡ opening bounds draft → CanBegin book draft → RunsOut book start now → IsProper book now.scene → report ≡ now.report → text ≡ text_of book now.scene → ReadsBack text (scene_json book now.scene) → IsRunOf book bounds input report text
run_of book bounds input json draft start now report text reads document opened begins out proper told written back =
    let ends : RunsOut book (opening bounds draft) now = subst (λ some. RunsOut book some now) opened out in
    record {
      draft = draft;
      scene = now.scene;
      document = ap (of_reading book bounds.indices) reads ∙ document;
      begins = begins;
      ran = subst (λ some. Ran book bounds draft some now.scene) (sym told) (ends.reached, ends.ended);
      proper = proper;
      written = written;
      reads = back;
    }

-- where a JSON is no document, the bytes that read as it are none
pub not-loaded : (book : Book) (bounds : Bounds) (bytes : List ℕ) (json : Json) → json_of bytes ≡ Some json → (error : LoadError) → IsNotLoaded book bounds.indices json error → IsNoDocument book bounds bytes error
not-loaded book bounds bytes json is (Document refusal) none = ap (of_reading book bounds.indices) is ∙ none
not-loaded book bounds bytes json is Memory none = tt
