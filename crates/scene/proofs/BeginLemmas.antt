-- Lemmas on the scene that a document gives: its ids fit.
use Rattle.std.proofs.Common.{◌≡◌, ℕ, List}
use Rattle.std.specs.Prelude.{Ok}
use Rattle.scene_model.specs.Rulebook.{Book}
use Rattle.scene_model.specs.Scenes.{IdsFit}
use Rattle.scene_document.specs.Drafts.{Draft}
use Rattle.scene_document.specs.Documents.{listed_ids, document_of}
use Rattle.scene_document.specs.Openings.{first_scene}
use Rattle.scene_model.proofs.CallerLemmas.{in_order-ascends}
use Rattle.scene_document.proofs.CallerLemmas.{ids-below, no_past, unrefused}
use Rattle.scene.proofs.ReadyLemmas.{from_bytes}

-- the ids of the scene that a document gives fit
pub first-fits : (book : Book) (indices : ℕ) (input : List ℕ) (draft : Draft) → document_of book indices input ≡ Ok draft → IdsFit (first_scene draft).next (first_scene draft).ids
first-fits book indices input draft made = from_bytes book indices input draft made (λ json reads document. record {
  ascend = in_order-ascends (listed_ids draft);
  below = ids-below (λ entity. entity.id) draft.next draft.entities (no_past indices draft (unrefused book indices json draft document));
})
