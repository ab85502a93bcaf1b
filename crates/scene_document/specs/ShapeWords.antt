-- What the readers of a document's shape ensure; no public clause cites this.
use Rattle.std.specs.Prelude.{◌≡◌, ◌<◌, ℕ, true, false, List, [], ◌∷◌, ◌++◌, length, map, String, codes, Option, Some, None, option_map, option_and_then, Result, MatchResult, All}
use Rattle.std.specs.declared.alloc.Global.{Global}
use Rattle.std.specs.Str.{bytes_eq}
use Rattle.serde_json.specs.declared.value.Value.{Value}
use Rattle.serde_json.specs.Find.{get}
use Rattle.serde_json.specs.View.{items_view, members_view}
use Rattle.scene_model.specs.declared.reading.ReadError.{ReadError}
use Rattle.scene_model.specs.declared.reading.ReadError.TheVariants.{Shape}
use Rattle.scene_document.specs.declared.draft.DocumentDraft.{DocumentDraft}
use Rattle.scene_document.specs.declared.draft.EntityDraft.{EntityDraft}
use Rattle.scene_document.specs.declared.draft.MadeDraft.{MadeDraft}
use Rattle.scene_document.specs.declared.draft.EntryDraft.{EntryDraft}
use Rattle.scene_document.specs.declared.draft.CommandDraft.{CommandDraft}
use Rattle.scene_model.specs.Parts.{Json, Name, Part, is_among, name_at}
use Rattle.scene_model.specs.Rulebook.{Book, Access}
use Rattle.scene_document.specs.Drafts.{Draft, DraftEntry, items_list, members_list, each, entities_from, system_found, draft_found}
use Rattle.scene_document.specs.DraftViews.{plain_entity, IsEntity, IsMadeAs, IsOfBook, IsMadeIfKnown, EntryIsMade, AreMade, plain_asked, IsLawfulDraft, IsDraft}

-- the items of a list of values
abbrev pub items_seen : List Value → List Json
items_seen values = items_list (items_view values)

-- the members of an object's entries
abbrev pub members_seen : List (String Global × Value) → List (Name × Json)
members_seen entries = members_list (members_view entries)

-- what was read, with what holds of it, or that there is nothing to read; want of memory says nothing
abbrev pub Reads : {V X : Type 0} → (V → X) → (V → Type 0) → Option X → Result V ReadError → Type 0
Reads meaning good expected result = MatchResult result (λ value. (expected ≡ Some (meaning value)) × good value) (λ error. error ≡ Shape → expected ≡ None)

-- nothing more holds of what was read
abbrev pub Anything : {V : Type 0} → V → Type 0
Anything value = Unit {0}

-- a name is one of these, and stands at a place
pub record IsKnownAt (name : Name) (names : List Name) (place : ℕ) : Type 0 where
  pub known : is_among name names ≡ true
  pub within : place < length names
  pub is_name : name_at names place ≡ name

-- a command asks for what the rules know
abbrev pub IsAsked : {D : Type 0} → (D → Part) → Book → CommandDraft D → Type 0
IsAsked part_of book draft = IsLawfulDraft book (plain_asked part_of draft)

-- a system that was made, where its kind is known, is the rules' of a kind with a configuration, and says what its draft says
pub record IsRuled {S : Type 0} (kind_of : S → Name) (config_of : S → Json) (declared : S → Access) (said_time : S → ℕ) (made_by : S → Type 0) (book : Book) (kind : Name) (config : Json) (made : Option (MadeDraft S)) : Type 0 where
  pub of_book : IsMadeAs kind_of config_of book kind config made
  pub made_so : IsMadeIfKnown declared said_time made_by made

-- so is the system of an entry
pub record IsEntry {S : Type 0} (kind_of : S → Name) (config_of : S → Json) (declared : S → Access) (said_time : S → ℕ) (made_by : S → Type 0) (book : Book) (entry : EntryDraft S) : Type 0 where
  pub of_book : IsOfBook kind_of config_of book entry
  pub made_so : EntryIsMade declared said_time made_by entry

-- of a list, what was read so far, each with what holds of it, and what is left to read
pub record IsReadUpTo {V X Y : Type 0} (read : X → Option Y) (meaning : V → Y) (good : V → Type 0) (all left : List X) (done : List V) : Type 0 where
  pub so_far : each read all ≡ option_map (λ rest. map meaning done ++ rest) (each read left)
  pub all_good : All good done

-- a key is another than those of these members
abbrev pub IsOtherKey : Name → List (Name × Json) → Type 0
IsOtherKey key [] = Unit {0}
IsOtherKey key (first ∷ members) = (bytes_eq key first.0 ≡ false) × IsOtherKey key members

-- no two members have one key
abbrev pub KeysDiffer : List (Name × Json) → Type 0
KeysDiffer [] = Unit {0}
KeysDiffer (first ∷ members) = IsOtherKey first.0 members × KeysDiffer members

-- the entry of a system, of an object's members
abbrev pub entry_in : Book → Json → Option DraftEntry
entry_in book json = system_found book (get (codes "kind") json) (get (codes "name") json) (get (codes "after") json) (get (codes "config") json) (get (codes "local") json)

-- a document, of an object's members and of what was found for its entities
abbrev pub draft_around : Book → Json → Option Json → Option Draft
draft_around book json entities = draft_found book (get (codes "next") json) entities (get (codes "globals") json) (get (codes "systems") json) (get (codes "frames") json) (get (codes "commands") json) (get (codes "workers") json) (get (codes "store") json)

-- a document, of an object's members
abbrev pub draft_in : Book → Json → Option Draft
draft_in book json = draft_around book json (get (codes "entities") json)

-- entities are what is read of what was found
pub record AreRead {D : Type 0} (part_of : D → Part) (book : Book) (found : Option Json) (entities : List (EntityDraft D)) : Type 0 where
  pub read : option_and_then (entities_from book) found ≡ Some (map (plain_entity part_of book.part_names) entities)
  pub known : All (IsEntity part_of book) entities

-- the code's draft of a document is read, or there is none; want of memory says nothing
abbrev pub ReadsDraft : {D G S : Type 0} → (D → Part) → (G → Json) → (S → Name) → (S → Json) → (S → Access) → (S → ℕ) → (S → Type 0) → Book → Option Draft → Result (DocumentDraft D G S) ReadError → Type 0
ReadsDraft part_of global_of kind_of config_of declared said_time made_by book expected result = MatchResult result
    (λ draft. (plain : Draft) × (expected ≡ Some plain) × IsDraft part_of global_of kind_of config_of book plain draft × AreMade declared said_time made_by draft.entries.items)
    (λ error. error ≡ Shape → expected ≡ None)
