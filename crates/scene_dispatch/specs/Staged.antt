-- The systems of a document, as a dispatcher and its builder have them.
use Rattle.std.specs.Prelude.{◌≡◌, ℕ, Bool, List, Ok}
use Rattle.std.specs.List.{All}
use Rattle.shred_world.specs.declared.resource_id.ResourceId.{ResourceId}
use Rattle.shred.specs.Dispatchers.{Drafting}
use Rattle.scene_model.specs.Parts.{Json, Name}
use Rattle.scene_model.specs.Rulebook.{Book, Access}
use Rattle.scene_document.specs.declared.draft.EntryDraft.{EntryDraft}
use Rattle.scene_document.specs.Drafts.{Draft, DraftEntry, barrier, system}
use Rattle.scene_document.specs.DraftViews.{plain_draft, EntryIsMade}
use Rattle.scene_document.specs.DraftViews.{IsOfBook as IsSaidBy}
use Rattle.scene_document.specs.Documents.{document_from}
use Rattle.scene_world.specs.Standing.{Kinds}
use Rattle.scene_world.specs.Turns.{Meaning, IsOfBook}
use Rattle.scene_dispatch.specs.Told.{FactsKnown}
use Rattle.scene_dispatch.specs.Asked.{IsDraftedOf}

-- entries are those of a document
pub record AreOfDocument (book : Book) (entries : List DraftEntry) : Type 0 where
  pub document : Draft
  pub indices : ℕ
  pub json : Json
  pub is : document_from book indices json ≡ Ok document
  pub its : document.entries ≡ entries

-- what the system of an entry declares stands in a world
abbrev pub IsKnownEntry : {V : Type 0} → Kinds V → DraftEntry → Type 0
IsKnownEntry kinds barrier = Unit {0}
IsKnownEntry kinds (system one) = FactsKnown kinds one.facts

-- the rules made the system of an entry, as the entry says, and what it declares stands in a world
pub record IsFit {V S : Type 0} (kinds : Kinds V) (kind_of : S → Name) (config_of : S → Json) (declared : S → Access) (said_time : S → ℕ) (made_by : S → Type 0) (book : Book) (entry : EntryDraft S) : Type 0 where
  pub said : IsSaidBy kind_of config_of book entry
  pub made : EntryIsMade declared said_time made_by entry
  pub known : IsKnownEntry kinds (plain_draft entry)

-- a builder has the systems of entries, staged and local, and each is the rules'
pub record HasSystems {V P : Type 0} (kinds : Kinds V) (same : ResourceId → ResourceId → Bool) (meaning : Meaning P) (book : Book) (entries : List DraftEntry) (drafting : Drafting P P) : Type 0 where
  pub drafted : IsDraftedOf kinds same meaning.plain meaning.plain entries drafting
  pub staged : All (IsOfBook meaning book) drafting.building.staging.systems
  pub locals : All (IsOfBook meaning book) drafting.locals
