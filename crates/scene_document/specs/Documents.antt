-- Which document the bytes are, or why they are none: each refusal as a test of its own, and the least that stands.
use Rattle.std.specs.Prelude.{ℕ, Bool, false, not, ◌&&◌, ◌||◌, List, [], ◌∷◌, ◌++◌, map, length, nat_lt, Option, Some, None, is_none, Result, Ok, Err, if◌then◌else◌}
use Rattle.std.specs.List.{list_any, filter_map}
use Rattle.std.specs.Str.{bytes_eq}
use Rattle.serde_json.specs.Written.{has_float}
use Rattle.scene_model.specs.declared.refusals.DocRefusal.{DocRefusal}
use Rattle.scene_model.specs.declared.refusals.DocRefusal.TheVariants.{Unreadable, NotWhole, WrongShape, UnknownKind, DoubleId, IdNotBelowNext, Dangling, UnknownSystem, NameTaken, UnknownDependency, MissingGlobal, ReservedWrite, TooManyWorkers, TooManySystems, UnknownStore, TooManyEntities}
use Rattle.scene_model.specs.Parts.{Json, Name, is_among}
use Rattle.scene_model.specs.Rulebook.{Book, Facts, Access}
use Rattle.scene_model.specs.Scenes.{lives}
use Rattle.scene_model.specs.Commands.{ref_lives}
use Rattle.scene_document.specs.Drafts.{Draft, DraftPart, DraftSystem, system_of_entry, DraftCommand, spawn, kill, put, take, stores, draft_from}
use Rattle.scene_document.specs.Texts.{json_of}

-- the ids of the listed entities, in the order of the list
abbrev pub listed_ids : Draft → List ℕ
listed_ids draft = map (λ entity. entity.id) draft.entities

-- the systems among the entries
abbrev pub systems_of : Draft → List DraftSystem
systems_of draft = filter_map system_of_entry draft.entries

-- whether the kind of a command's part isn't the rules'
abbrev pub names_unknown : DraftCommand → Bool
names_unknown (spawn parts) = list_any is_none parts
names_unknown (kill id) = false
names_unknown (put id part) = is_none part
names_unknown (take id kind) = is_none kind

-- a part kind or a global's name isn't the rules', in an entity, among the globals or in a command
abbrev pub has_unknown_kind : Draft → Bool
has_unknown_kind draft = list_any (λ entity. list_any is_none entity.parts) draft.entities || list_any is_none draft.globals || list_any (λ list. list_any names_unknown list) draft.commands

-- an id stands in a list twice
abbrev pub has_double : List ℕ → Bool
has_double [] = false
has_double (id ∷ ids) = lives id ids || has_double ids

-- the id of an entity isn't below the next one
abbrev pub has_id_past_next : Draft → Bool
has_id_past_next draft = list_any (λ entity. not (nat_lt entity.id draft.next)) draft.entities

-- a reference of a part names no id of the list
abbrev pub part_dangles : List ℕ → DraftPart → Bool
part_dangles ids None = false
part_dangles ids (Some part) = list_any (λ ref. not (ref_lives ids ref)) part.1.refs

-- a reference in an entity's part names no listed id
abbrev pub dangles : Draft → Bool
dangles draft = list_any (λ entity. list_any (part_dangles (listed_ids draft)) entity.parts) draft.entities

-- the kind of a system isn't the rules'
abbrev pub has_unknown_system : Draft → Bool
has_unknown_system draft = list_any (λ one. is_none one.facts) (systems_of draft)

-- two systems have one name that isn't empty
abbrev pub has_taken_name : List DraftSystem → Bool
has_taken_name [] = false
has_taken_name (one ∷ others) = (not (bytes_eq one.name []) && list_any (λ other. bytes_eq other.name one.name) others) || has_taken_name others

-- a system comes after a name that is empty or that no earlier entry has
abbrev pub has_unknown_dependency : List Name → List DraftSystem → Bool
has_unknown_dependency earlier [] = false
has_unknown_dependency earlier (one ∷ others) = list_any (λ name. bytes_eq name [] || not (is_among name earlier)) one.after || has_unknown_dependency (earlier ++ one.name ∷ []) others

-- whether a global that a document gives has a name
abbrev pub is_named : Name → Option (Name × Json) → Bool
is_named name None = false
is_named name (Some entry) = bytes_eq name entry.0

-- whether a document gives a global
abbrev pub gives_global : Draft → Name → Bool
gives_global draft name = list_any (is_named name) draft.globals

-- whether something holds of what a system declares, where its kind is known
abbrev pub declares_that : (Access → Bool) → Option Facts → Bool
declares_that test None = false
declares_that test (Some facts) = test facts.access

-- a system declares a global that the document lacks
abbrev pub lacks_global : Draft → Bool
lacks_global draft = list_any (λ one. declares_that (λ access. list_any (λ name. not (gives_global draft name)) (access.read_globals ++ access.written_globals)) one.facts) (systems_of draft)

-- a system declares a write to entities or markers
abbrev pub writes_reserved : Draft → Bool
writes_reserved draft = list_any (λ one. declares_that (λ access. access.reserved) one.facts) (systems_of draft)

-- the least refusal of a document of the right shape, under a limit of indices
abbrev pub refusal_of : ℕ → Draft → Option DocRefusal
refusal_of indices draft =
    if has_unknown_kind draft then Some UnknownKind else
    (if has_double (listed_ids draft) then Some DoubleId else
    (if has_id_past_next draft then Some IdNotBelowNext else
    (if dangles draft then Some Dangling else
    (if has_unknown_system draft then Some UnknownSystem else
    (if has_taken_name (systems_of draft) then Some NameTaken else
    (if has_unknown_dependency [] (systems_of draft) then Some UnknownDependency else
    (if lacks_global draft then Some MissingGlobal else
    (if writes_reserved draft then Some ReservedWrite else
    (if nat_lt 64 draft.workers then Some TooManyWorkers else
    (if nat_lt 4096 (length draft.entries) then Some TooManySystems else
    (if not (is_among draft.store stores) then Some UnknownStore else
    (if nat_lt indices (length draft.entities) then Some TooManyEntities else None))))))))))))

-- a draft, unless a refusal stands
abbrev pub unless_refused : Draft → Option DocRefusal → Result Draft DocRefusal
unless_refused draft None = Ok draft
unless_refused draft (Some refusal) = Err refusal

-- a draft of the right shape, unless a refusal stands
abbrev pub of_shape : ℕ → Option Draft → Result Draft DocRefusal
of_shape indices None = Err WrongShape
of_shape indices (Some draft) = unless_refused draft (refusal_of indices draft)

-- the document that a JSON is, or the least refusal that stands
abbrev pub document_from : Book → ℕ → Json → Result Draft DocRefusal
document_from book indices json = if has_float json then Err NotWhole else of_shape indices (draft_from book json)

-- a JSON as a document, or that there is none
abbrev pub of_reading : Book → ℕ → Option Json → Result Draft DocRefusal
of_reading book indices None = Err Unreadable
of_reading book indices (Some json) = document_from book indices json

-- the document that the bytes are, or the least refusal that stands
abbrev pub document_of : Book → ℕ → List ℕ → Result Draft DocRefusal
document_of book indices bytes = of_reading book indices (json_of bytes)
