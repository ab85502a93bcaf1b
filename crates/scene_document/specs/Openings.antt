-- The scene and the frames that a document gives.
use Rattle.std.specs.Prelude.{◌==◌, ℕ, zero, suc, Bool, true, false, not, List, [], ◌∷◌, ◌++◌, map, slice_get, Option, Some, None, option_map, if◌then◌else◌}
use Rattle.std.specs.List.{filter_map}
use Rattle.std.specs.Str.{bytes_eq}
use Rattle.scene_model.specs.Parts.{Json, Name, Part}
use Rattle.scene_model.specs.Rulebook.{Facts, Access, Command}
use Rattle.scene_model.specs.Rulebook as book
use Rattle.scene_model.specs.Scenes.{PlainScene, PlainSystem, PlainFrame}
use Rattle.scene_model.specs.Ids.{ascending}
use Rattle.scene_document.specs.Drafts.{Draft, DraftPart, DraftEntity, DraftSystem, DraftEntry, barrier, system, DraftCommand, spawn, kill, put, take}
use Rattle.scene_document.specs.Documents.{listed_ids}
use Rattle.shred_plan.specs.Plan.{Added, fence, placing, order}

-- the part of an entity under a kind
abbrev pub part_in : List DraftPart → Name → Option Part
part_in [] kind = None
part_in (None ∷ parts) kind = part_in parts kind
part_in (Some part ∷ parts) kind = if bytes_eq kind part.0 then Some part.1 else part_in parts kind

-- the part of an id under a kind, among entities
abbrev pub part_among : List DraftEntity → ℕ → Name → Option Part
part_among [] id kind = None
part_among (entity ∷ entities) id kind = if entity.id == id then part_in entity.parts kind else part_among entities id kind

-- the value of a global
abbrev pub global_among : List (Option (Name × Json)) → Name → Option Json
global_among [] name = None
global_among (None ∷ globals) name = global_among globals name
global_among (Some global ∷ globals) name = if bytes_eq name global.0 then Some global.1 else global_among globals name

-- the scene that a document gives
abbrev pub first_scene : Draft → PlainScene
first_scene draft = record {
  next = draft.next;
  ids = ascending (listed_ids draft);
  part = part_among draft.entities;
  global = global_among draft.globals;
}

-- what a system may read or write: the parts of a kind, or a global
pub data Resource : Type 0 where
  parts_of : Name → Resource
  value_of : Name → Resource

-- whether two resources are one
abbrev pub same_resource : Resource → Resource → Bool
same_resource (parts_of kind) (parts_of other) = bytes_eq kind other
same_resource (value_of name) (value_of other) = bytes_eq name other
same_resource (parts_of kind) (value_of name) = false
same_resource (value_of name) (parts_of kind) = false

-- what a system reads, and what it writes
abbrev pub reads_of : Access → List Resource
reads_of access = map (λ kind. parts_of kind) access.reads ++ map (λ name. value_of name) access.read_globals

abbrev pub writes_of : Access → List Resource
writes_of access = map (λ kind. parts_of kind) access.writes ++ map (λ name. value_of name) access.written_globals

-- whether a system is staged: its kind is known, and it isn't local
abbrev pub is_staged_as : Bool → Option Facts → Bool
is_staged_as local None = false
is_staged_as local (Some facts) = not local

abbrev pub is_staged : DraftEntry → Bool
is_staged barrier = false
is_staged (system one) = is_staged_as one.local one.facts

-- the number after that of an entry: the staged systems are numbered in the order of the list
abbrev pub next_number : ℕ → DraftEntry → ℕ
next_number number entry = if is_staged entry then suc number else number

-- the number of the first system of a name among entries, the first of them with a number
abbrev pub number_named : ℕ → List DraftEntry → Name → Option ℕ
number_named number [] name = None
number_named number (barrier ∷ entries) name = number_named number entries name
number_named number (system one ∷ entries) name = if bytes_eq one.name name then Some number else number_named (next_number number (system one)) entries name

-- a staged system as the planner takes it: by its number, after the numbers of those that it names
abbrev pub staged_at : List DraftEntry → ℕ → DraftSystem → Option Facts → List (Added Resource)
staged_at all number one None = []
staged_at all number one (Some facts) = if one.local then [] else placing (record { number = number; reads = reads_of facts.access; writes = writes_of facts.access; after = filter_map (number_named 0 all) one.after; time = facts.time }) ∷ []

-- the entries as the planner takes them, the first of them with a number: a barrier is a fence, a local system isn't staged
abbrev pub staged : List DraftEntry → ℕ → List DraftEntry → List (Added Resource)
staged all number [] = []
staged all number (barrier ∷ entries) = fence ∷ staged all number entries
staged all number (system one ∷ entries) = staged_at all number one one.facts ++ staged all (next_number number (system one)) entries

-- a system with its place, where its kind is known
abbrev pub with_facts : ℕ → DraftSystem → Option Facts → List PlainSystem
with_facts place one None = []
with_facts place one (Some facts) = record { position = place; kind = one.kind; config = one.config; access = facts.access } ∷ []

-- the systems among entries that pass a test, the first entry at a place, in the order of the list
abbrev pub systems_at : (DraftSystem → Bool) → ℕ → List DraftEntry → List PlainSystem
systems_at test place [] = []
systems_at test place (barrier ∷ entries) = systems_at test (suc place) entries
systems_at test place (system one ∷ entries) = (if test one then with_facts place one one.facts else []) ++ systems_at test (suc place) entries

-- the staged systems among entries, and the local ones, the first entry at a place
abbrev pub staged_list : ℕ → List DraftEntry → List PlainSystem
staged_list place entries = systems_at (λ one. not one.local) place entries

abbrev pub local_list : ℕ → List DraftEntry → List PlainSystem
local_list place entries = systems_at (λ one. one.local) place entries

-- all systems of a document, and the local ones, in the order of the list
abbrev pub all_systems : Draft → List PlainSystem
all_systems draft = systems_at (λ one. true) 1 draft.entries

abbrev pub local_systems : Draft → List PlainSystem
local_systems draft = local_list 1 draft.entries

-- the staged systems in the order of the plan
abbrev pub staged_systems : Draft → List PlainSystem
staged_systems draft = filter_map (λ number. slice_get (staged_list 1 draft.entries) number) (order same_resource (staged draft.entries 0 draft.entries))

-- a command of a document, where its kinds are known
abbrev pub command_of : DraftCommand → Option Command
command_of (spawn parts) = Some (book.spawn (filter_map (λ part. part) parts))
command_of (kill id) = Some (book.kill id)
command_of (put id part) = option_map (λ pair. book.put id pair.0 pair.1) part
command_of (take id kind) = option_map (λ name. book.take id name) kind

-- the commands of a list that may be missing
abbrev pub commands_in : Option (List DraftCommand) → List Command
commands_in None = []
commands_in (Some list) = filter_map command_of list

-- the document's commands for a frame, by its number from 1
abbrev pub commands_for : Draft → ℕ → List Command
commands_for draft zero = []
commands_for draft (suc place) = commands_in (slice_get draft.commands place)

-- a frame of a document: the staged systems in the order of the plan, then the local ones; and the document's commands for it
abbrev pub frames_of : Draft → ℕ → PlainFrame
frames_of draft number = record { order = staged_systems draft ++ local_systems draft; commands = commands_for draft number }
