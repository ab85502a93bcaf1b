-- The tests of a document by what the code holds of it; no public clause cites this.
use Rattle.std.specs.Prelude.{ℕ, Bool, false, not, ◌&&◌, ◌||◌, List, [], map, length, nat_lt, Option, Some, None, is_none, if◌then◌else◌}
use Rattle.std.specs.List.{list_any}
use Rattle.std.specs.Option.{option_or}
use Rattle.std.specs.Str.{bytes_eq}
use Rattle.scene_model.specs.declared.refusals.DocRefusal.{DocRefusal}
use Rattle.scene_model.specs.declared.refusals.DocRefusal.TheVariants.{UnknownKind, DoubleId, IdNotBelowNext, Dangling, UnknownSystem, NameTaken, UnknownDependency, MissingGlobal, ReservedWrite, TooManyWorkers, TooManySystems, UnknownStore, TooManyEntities}
use Rattle.scene_model.specs.declared.access.SystemAccess.{SystemAccess}
use Rattle.scene_document.specs.declared.draft.EntityDraft.{EntityDraft}
use Rattle.scene_document.specs.declared.draft.MadeDraft.{MadeDraft}
use Rattle.scene_document.specs.declared.draft.EntryDraft.{EntryDraft}
use Rattle.scene_document.specs.declared.draft.EntryDraft.TheVariants as entry
use Rattle.scene_document.specs.declared.draft.CommandDraft.{CommandDraft}
use Rattle.scene_document.specs.declared.draft.CommandDraft.TheVariants as asked
use Rattle.scene_document.specs.declared.draft.DocumentDraft.{DocumentDraft}
use Rattle.scene_model.specs.Parts.{Name, Part, name_at}
use Rattle.scene_model.specs.Rulebook.{Access}
use Rattle.scene_model.specs.Declaring.{access_of}
use Rattle.scene_model.specs.Commands.{ref_lives}
use Rattle.scene_document.specs.Documents.{has_double, has_taken_name, has_unknown_dependency}
use Rattle.scene_document.specs.DraftViews.{systems_in}
use Rattle.scene_model.specs.Ids.{ascending}

-- a reference of a datum names none of the ids
abbrev pub datum_dangles : {D : Type 0} → (D → Part) → List ℕ → Option (ℕ × D) → Bool
datum_dangles part_of ids None = false
datum_dangles part_of ids (Some pair) = list_any (λ ref. not (ref_lives ids ref)) (part_of pair.1).refs

-- a reference of one of an entity's data names none of the ids
abbrev pub entity_dangles : {D : Type 0} → (D → Part) → List ℕ → EntityDraft D → Bool
entity_dangles part_of ids entity = list_any (datum_dangles part_of ids) entity.parts.items

-- whether the kind of a command's part is unknown
abbrev pub asks_unknown : {D : Type 0} → CommandDraft D → Bool
asks_unknown (asked.Spawn parts) = list_any is_none parts.items
asks_unknown (asked.Kill id) = false
asks_unknown (asked.Put id part) = is_none part
asks_unknown (asked.Take id kind) = is_none kind

-- whether a global stands at the place of a name
abbrev pub stands_for : {G : Type 0} → List Name → Name → Option (ℕ × G) → Bool
stands_for names name None = false
stands_for names name (Some pair) = nat_lt pair.0 (length names) && bytes_eq name (name_at names pair.0)

-- one of the names has no global at its place
abbrev pub lacks_one : {G : Type 0} → List Name → List (Option (ℕ × G)) → List Name → Bool
lacks_one names globals wanted = list_any (λ name. not (list_any (stands_for names name) globals)) wanted

-- a declared global is not given
abbrev pub lacks_declared : {G : Type 0} → List Name → List (Option (ℕ × G)) → Access → Bool
lacks_declared names globals access = lacks_one names globals access.read_globals || lacks_one names globals access.written_globals

-- whether the system of an entry is one that the rules don't know
abbrev pub is_unmade : {S : Type 0} → EntryDraft S → Bool
is_unmade entry.Barrier = false
is_unmade (entry.System draft) = is_none draft.made

-- whether a test holds of what a made system declares
abbrev pub made_that : {S : Type 0} → (SystemAccess → Bool) → Option (MadeDraft S) → Bool
made_that test None = false
made_that test (Some made) = test made.accessor

abbrev pub entry_that : {S : Type 0} → (SystemAccess → Bool) → EntryDraft S → Bool
entry_that test entry.Barrier = false
entry_that test (entry.System draft) = made_that test draft.made

-- the least refusal for what systems declare, where the rules have these names of globals
abbrev pub declared_refusal : {G S : Type 0} → List Name → List (Option (ℕ × G)) → List (EntryDraft S) → Option DocRefusal
declared_refusal names globals entries =
    if list_any (entry_that (λ accessor. lacks_declared names globals (access_of accessor))) entries then Some MissingGlobal else
    (if list_any (entry_that (λ accessor. accessor.writes_reserved)) entries then Some ReservedWrite else None)

-- the least refusal for systems
abbrev pub system_refusal : {G S : Type 0} → List Name → List (Option (ℕ × G)) → List (EntryDraft S) → Option DocRefusal
system_refusal names globals entries =
    if list_any is_unmade entries then Some UnknownSystem else
    (if has_taken_name (systems_in entries) then Some NameTaken else
    (if has_unknown_dependency [] (systems_in entries) then Some UnknownDependency else declared_refusal names globals entries))

module _ {D G S : Type 0} where
  -- a part's kind, a global's name or a command's kind is unknown
  abbrev pub has_unknown : DocumentDraft D G S → Bool
  has_unknown draft = list_any (λ entity. list_any is_none entity.parts.items) draft.entities.items || list_any is_none draft.globals.items || list_any (λ list. list_any asks_unknown list.items) draft.commands.items

  -- the least refusal for the numbers of a draft
  abbrev pub number_refusal : ℕ → DocumentDraft D G S → Option DocRefusal
  number_refusal indices draft =
      if nat_lt 64 draft.workers then Some TooManyWorkers else
      (if nat_lt 4096 (length draft.entries.items) then Some TooManySystems else
      (if is_none draft.store then Some UnknownStore else
      (if nat_lt indices (length draft.entities.items) then Some TooManyEntities else None)))

  -- the least refusal for the systems and numbers of a draft, where the rules have these names of globals
  abbrev pub later_refusal : List Name → ℕ → DocumentDraft D G S → Option DocRefusal
  later_refusal names indices draft = option_or (system_refusal names draft.globals.items draft.entries.items) (number_refusal indices draft)

  -- the least refusal for the entities of a draft
  abbrev pub entity_refusal : (D → Part) → DocumentDraft D G S → Option DocRefusal
  entity_refusal part_of draft =
      if has_unknown draft then Some UnknownKind else
      (if has_double (map (λ entity. entity.id) draft.entities.items) then Some DoubleId else
      (if list_any (λ entity. not (nat_lt entity.id draft.next)) draft.entities.items then Some IdNotBelowNext else
      (if list_any (entity_dangles part_of (ascending (map (λ entity. entity.id) draft.entities.items))) draft.entities.items then Some Dangling else None)))

  -- the least refusal of a draft
  abbrev pub draft_refusal : (D → Part) → List Name → ℕ → DocumentDraft D G S → Option DocRefusal
  draft_refusal part_of names indices draft = option_or (entity_refusal part_of draft) (later_refusal names indices draft)
