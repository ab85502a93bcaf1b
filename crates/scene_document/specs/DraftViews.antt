-- What the code's draft says in plain terms.
use Rattle.std.specs.Prelude.{◌≡◌, ◌<◌, ℕ, true, false, List, [], ◌∷◌, length, map, Option, Some, None, option_map, unwrap_or}
use Rattle.std.specs.List.{filter_map, All}
use Rattle.std.specs.Global.{Vec}
use Rattle.std.specs.Str.{bytes_eq}
use denote.Ref.{Bor}
use Rattle.serde_json.specs.declared.value.Value.{Value}
use Rattle.serde_json.specs.Data.{null}
use Rattle.serde_json.specs.View.{view}
use Rattle.scene_document.specs.declared.draft.EntityDraft.{EntityDraft}
use Rattle.scene_document.specs.declared.draft.MadeDraft.{MadeDraft}
use Rattle.scene_document.specs.declared.draft.SystemDraft.{SystemDraft}
use Rattle.scene_document.specs.declared.draft.EntryDraft.{EntryDraft}
use Rattle.scene_document.specs.declared.draft.EntryDraft.TheVariants as entry
use Rattle.scene_document.specs.declared.draft.CommandDraft.{CommandDraft}
use Rattle.scene_document.specs.declared.draft.CommandDraft.TheVariants as asked
use Rattle.scene_document.specs.declared.draft.DocumentDraft.{DocumentDraft}
use Rattle.scene_model.specs.Parts.{Json, Name, Part, is_among, name_at}
use Rattle.scene_model.specs.Rulebook.{Book, Facts, Access, known}
use Rattle.scene_model.specs.Stores.{store_named}
use Rattle.scene_model.specs.Lawful.{IsKnownPart}
use Rattle.scene_model.specs.Queues.{plain_entry}
use Rattle.scene_model.specs.Declaring.{texts, access_of}
use Rattle.shred_plan.specs.Plan.{units_of}
use Rattle.scene_document.specs.Drafts.{Draft, DraftPart, DraftEntity, DraftSystem, DraftEntry, barrier, system, system_of_entry, DraftCommand, spawn, kill, put, take}

-- the JSON of what was found
abbrev pub seen : Option (Bor Value) → Option Json
seen found = option_map (λ value. view value.now) found

-- the configuration that was found, or null
abbrev pub config_seen : Option Json → Json
config_seen config = unwrap_or config null

-- something at a place, as something under the name there
abbrev pub named : {D X : Type 0} → (D → X) → List Name → Option (ℕ × D) → Option (Name × X)
named meaning names placed = option_map (λ pair. (name_at names pair.0, meaning pair.1)) placed

-- an entity in plain terms
abbrev pub plain_entity : {D : Type 0} → (D → Part) → List Name → EntityDraft D → DraftEntity
plain_entity part_of names entity = record { id = entity.id; parts = map (named part_of names) entity.parts.items }

-- the places of what is known are places of names
abbrev pub IsPlaced : {D : Type 0} → ℕ → Option (ℕ × D) → Type 0
IsPlaced count None = Unit {0}
IsPlaced count (Some pair) = pair.0 < count

-- what is known is of its kind
abbrev pub IsAdmitted : {D : Type 0} → (D → Part) → Book → Option (ℕ × D) → Type 0
IsAdmitted part_of book None = Unit {0}
IsAdmitted part_of book (Some pair) = book.admits (name_at book.part_names pair.0) (part_of pair.1) ≡ true

-- a part that is known is at the place of its kind, and of its kind
pub record IsPart {D : Type 0} (part_of : D → Part) (book : Book) (part : Option (ℕ × D)) : Type 0 where
  pub placed : IsPlaced (length book.part_names) part
  pub admitted : IsAdmitted part_of book part

-- so are all parts of an entity
abbrev pub IsEntity : {D : Type 0} → (D → Part) → Book → EntityDraft D → Type 0
IsEntity part_of book entity = All (IsPart part_of book) entity.parts.items

-- what is known of a made system
abbrev pub facts_of : {S : Type 0} → MadeDraft S → Facts
facts_of made = record { access = access_of made.accessor; time = units_of made.time }

-- a system in plain terms
abbrev pub plain_system : {S : Type 0} → SystemDraft S → DraftSystem
plain_system draft = record { kind = draft.kind.now; name = draft.name.now; after = texts draft.after.items; config = config_seen (seen draft.config); local = draft.local; facts = option_map facts_of draft.made }

-- an entry in plain terms
abbrev pub plain_draft : {S : Type 0} → EntryDraft S → DraftEntry
plain_draft entry.Barrier = barrier
plain_draft (entry.System draft) = system (plain_system draft)

-- the systems among entries
abbrev pub systems_in : {S : Type 0} → List (EntryDraft S) → List DraftSystem
systems_in entries = filter_map system_of_entry (map plain_draft entries)

-- a made system is the rules' of a kind with a configuration, and they know of it what is declared
pub record IsMadeOf {S : Type 0} (kind_of : S → Name) (config_of : S → Json) (book : Book) (kind : Name) (config : Json) (made : MadeDraft S) : Type 0 where
  pub known : book.system kind config ≡ known (facts_of made)
  pub of_kind : kind_of made.system ≡ kind
  pub with_config : config_of made.system ≡ config

-- so it is where the kind is known
abbrev pub IsMadeAs : {S : Type 0} → (S → Name) → (S → Json) → Book → Name → Json → Option (MadeDraft S) → Type 0
IsMadeAs kind_of config_of book kind config None = Unit {0}
IsMadeAs kind_of config_of book kind config (Some made) = IsMadeOf kind_of config_of book kind config made

-- the system of an entry is the rules'
abbrev pub IsOfBook : {S : Type 0} → (S → Name) → (S → Json) → Book → EntryDraft S → Type 0
IsOfBook kind_of config_of book entry.Barrier = Unit {0}
IsOfBook kind_of config_of book (entry.System draft) = IsMadeAs kind_of config_of book draft.kind.now (config_seen (seen draft.config)) draft.made

-- rules made a system, and it says of itself what its draft says
pub record IsMadeBy {S : Type 0} (declared : S → Access) (said_time : S → ℕ) (made_by : S → Type 0) (draft : MadeDraft S) : Type 0 where
  pub made_so : made_by draft.system
  pub access : declared draft.system ≡ access_of draft.accessor
  pub time : said_time draft.system ≡ units_of draft.time

-- so they did where the kind is known
abbrev pub IsMadeIfKnown : {S : Type 0} → (S → Access) → (S → ℕ) → (S → Type 0) → Option (MadeDraft S) → Type 0
IsMadeIfKnown declared said_time made_by None = Unit {0}
IsMadeIfKnown declared said_time made_by (Some draft) = IsMadeBy declared said_time made_by draft

-- so they did the system of an entry
abbrev pub EntryIsMade : {S : Type 0} → (S → Access) → (S → ℕ) → (S → Type 0) → EntryDraft S → Type 0
EntryIsMade declared said_time made_by entry.Barrier = Unit {0}
EntryIsMade declared said_time made_by (entry.System draft) = IsMadeIfKnown declared said_time made_by draft.made

-- so they did those of a list of entries
abbrev pub AreMade : {S : Type 0} → (S → Access) → (S → ℕ) → (S → Type 0) → List (EntryDraft S) → Type 0
AreMade declared said_time made_by entries = All (EntryIsMade declared said_time made_by) entries

-- a part under its kind, where that is known
abbrev pub plain_part : {D : Type 0} → (D → Part) → Option (Bor Name × D) → DraftPart
plain_part part_of part = option_map (plain_entry part_of) part

-- a command in plain terms
abbrev pub plain_asked : {D : Type 0} → (D → Part) → CommandDraft D → DraftCommand
plain_asked part_of (asked.Spawn parts) = spawn (map (plain_part part_of) parts.items)
plain_asked part_of (asked.Kill id) = kill id
plain_asked part_of (asked.Put id part) = put id (plain_part part_of part)
plain_asked part_of (asked.Take id kind) = take id (option_map (λ name. name.now) kind)

-- a list of commands in plain terms
abbrev pub plain_list : {D : Type 0} → (D → Part) → Vec (CommandDraft D) → List DraftCommand
plain_list part_of list = map (plain_asked part_of) list.items

-- a part is the rules', where its kind is known
abbrev pub IsKnownDraft : Book → DraftPart → Type 0
IsKnownDraft book None = Unit {0}
IsKnownDraft book (Some entry) = IsKnownPart book entry

-- the kind of a part is another than this
abbrev pub IsOther : Name → DraftPart → Type 0
IsOther kind None = Unit {0}
IsOther kind (Some entry) = bytes_eq kind entry.0 ≡ false

-- two parts are under two kinds, where both are known
abbrev pub Differ : DraftPart → DraftPart → Type 0
Differ None other = Unit {0}
Differ (Some one) other = IsOther one.0 other

-- so are any two of a list
abbrev pub AreApart : List DraftPart → Type 0
AreApart [] = Unit {0}
AreApart (one ∷ others) = All (Differ one) others × AreApart others

-- a command that asks for what the rules know
abbrev pub IsLawfulDraft : Book → DraftCommand → Type 0
IsLawfulDraft book (spawn parts) = All (IsKnownDraft book) parts × AreApart parts
IsLawfulDraft book (kill id) = Unit {0}
IsLawfulDraft book (put id part) = IsKnownDraft book part
IsLawfulDraft book (take id None) = Unit {0}
IsLawfulDraft book (take id (Some kind)) = is_among kind book.part_names ≡ true

-- the value of a global is what the rules read for it, where its name is known
abbrev pub IsReadable : Book → Option (Name × Json) → Type 0
IsReadable book None = Unit {0}
IsReadable book (Some global) = book.read_global global.0 global.1 ≡ Some global.1

-- the code's draft is a draft in plain terms
pub record IsDraft {D G S : Type 0} (part_of : D → Part) (global_of : G → Json) (kind_of : S → Name) (config_of : S → Json) (book : Book) (plain : Draft) (draft : DocumentDraft D G S) : Type 0 where
  pub next : plain.next ≡ draft.next
  pub entities : plain.entities ≡ map (plain_entity part_of book.part_names) draft.entities.items
  pub globals : plain.globals ≡ map (named global_of book.global_names) draft.globals.items
  pub entries : plain.entries ≡ map plain_draft draft.entries.items
  pub frames : plain.frames ≡ draft.frames
  pub commands : plain.commands ≡ map (plain_list part_of) draft.commands.items
  pub workers : plain.workers ≡ draft.workers
  pub store : store_named plain.store ≡ draft.store
  pub kinds_placed : All (λ entity. All (IsPlaced (length book.part_names)) entity.parts.items) draft.entities.items
  pub globals_placed : All (IsPlaced (length book.global_names)) draft.globals.items
  pub admitted : All (λ entity. All (IsAdmitted part_of book) entity.parts.items) draft.entities.items
  pub readable : All (IsReadable book) plain.globals
  pub made : All (IsOfBook kind_of config_of book) draft.entries.items
  pub lawful : All (λ list. All (λ draft. IsLawfulDraft book (plain_asked part_of draft)) list.items) draft.commands.items
