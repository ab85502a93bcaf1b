-- What a builder of a dispatcher is asked for a document's entries, and what it is then.
use Rattle.std.specs.Prelude.{◌≡◌, ℕ, suc, Bool, true, false, List, [], ◌∷◌, ◌++◌, length, map, Option, Some, None}
use Rattle.shred_world.specs.declared.resource_id.ResourceId.{ResourceId}
use Rattle.scene_model.specs.Parts.{Name}
use Rattle.scene_model.specs.Rulebook.{Facts}
use Rattle.scene_model.specs.Scenes.{PlainSystem}
use Rattle.scene_document.specs.Drafts.{DraftEntry, DraftSystem, barrier, system}
use Rattle.scene_world.specs.Standing.{Kinds}
use Rattle.shred.specs.Building.{Building, Declared, nothing_built, built_with, fenced}
use Rattle.shred.specs.Dispatchers.{Drafting, with_building}
use Rattle.shred.specs.Histories.{Asked, built_from}
use Rattle.shred.specs.Histories as asked
use Rattle.scene_document.specs.Openings.{local_list}
use Rattle.scene_dispatch.specs.Entries.{plain_system}
use Rattle.scene_dispatch.specs.Told.{declared_of}

-- what is asked, by what a system is for a document
abbrev pub asked_as : {S T : Type 0} → (S → T) → Asked S → Asked T
asked_as plain (asked.system one declared name after) = asked.system (plain one) declared name after
asked_as plain asked.barrier = asked.barrier

module _ {V : Type 0} (kinds : Kinds V) where
  -- what a builder is asked for an entry's system: to take it, where it is staged, under its name, after those it names
  abbrev pub asked_at : ℕ → DraftSystem → Bool → Option Facts → List (Asked PlainSystem)
  asked_at place one local None = []
  asked_at place one true (Some facts) = []
  asked_at place one false (Some facts) =
      asked.system (plain_system place one facts) (declared_of kinds place facts) one.name one.after ∷ []

  -- what it is asked for entries, the first of them at a place
  abbrev pub asked_entries : ℕ → List DraftEntry → List (Asked PlainSystem)
  asked_entries place [] = []
  asked_entries place (barrier ∷ entries) = asked.barrier ∷ asked_entries (suc place) entries
  asked_entries place (system one ∷ entries) = asked_at place one one.local one.facts ++ asked_entries (suc place) entries

  -- a builder is asked for what entries say, one after the other, and for nothing else
  pub record IsBuiltOf {S : Type 0} (same : ResourceId → ResourceId → Bool) (plain : S → PlainSystem) (entries : List DraftEntry) (building : Building S) : Type 0 where
    pub list : List (Asked S)
    pub built : building ≡ built_from same nothing_built list
    pub asks : map (asked_as plain) list ≡ asked_entries 1 entries

  -- so it is of what a builder holds beside: its local systems are those of the entries, in their order
  pub record IsDraftedOf {S L : Type 0} (same : ResourceId → ResourceId → Bool) (plain : S → PlainSystem) (plain_local : L → PlainSystem) (entries : List DraftEntry) (draft : Drafting S L) : Type 0 where
    pub building : IsBuiltOf same plain entries draft.building
    pub locals : map plain_local draft.locals ≡ local_list 1 entries

  module _ {S L : Type 0} (same : ResourceId → ResourceId → Bool) (plain : S → PlainSystem) (plain_local : L → PlainSystem) where
    -- a builder goes on from entries to a barrier
    abbrev pub GoesOnToBarriers : Type 0
    GoesOnToBarriers =
        (early : List DraftEntry) (draft : Drafting S L) → IsDraftedOf same plain plain_local early draft
        → IsDraftedOf same plain plain_local (early ++ barrier ∷ []) (with_building draft (record { staging = fenced same draft.building.staging; names = draft.building.names }))

    -- to a staged system that is the one of the next entry, and declares what that says
    abbrev pub GoesOnToStaged : Type 0
    GoesOnToStaged =
        (early : List DraftEntry) (draft : Drafting S L) (one : DraftSystem) (facts : Facts) (taken : S) (declared : Declared) (name : Name) (after : List Name)
        → IsDraftedOf same plain plain_local early draft → one.local ≡ false → one.facts ≡ Some facts → plain taken ≡ plain_system (suc (length early)) one facts
        → declared ≡ declared_of kinds (suc (length early)) facts → name ≡ one.name → after ≡ one.after
        → IsDraftedOf same plain plain_local (early ++ system one ∷ []) (with_building draft (built_with same draft.building taken declared name after))

    -- to a local system that is the one of the next entry
    abbrev pub GoesOnToLocals : Type 0
    GoesOnToLocals =
        (early : List DraftEntry) (draft : Drafting S L) (one : DraftSystem) (facts : Facts) (taken : L)
        → IsDraftedOf same plain plain_local early draft → one.local ≡ true → one.facts ≡ Some facts → plain_local taken ≡ plain_system (suc (length early)) one facts
        → IsDraftedOf same plain plain_local (early ++ system one ∷ []) (record { building = draft.building; locals = draft.locals ++ taken ∷ []; workers = draft.workers })
