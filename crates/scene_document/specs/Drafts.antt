-- What a document says, by the shape of its JSON; none where the shape is wrong.
use Rattle.std.specs.Prelude.{◌^◌, ℕ, Bool, true, false, ◌&&◌, List, [], ◌∷◌, nat_lt, codes, Option, Some, None, option_map, option_and_then, if◌then◌else◌}
use Rattle.serde_json.specs.Data.{null, Items, no_items, item, Members, no_members, member}
use Rattle.serde_json.specs.Find.{get_member, as_number, as_u64, as_str, as_bool, as_array, as_object}
use Rattle.std.specs.Str.{bytes_eq}
use Rattle.scene_model.specs.Parts.{Json, Name, Part, is_among}
use Rattle.scene_model.specs.Rulebook.{Book, Facts, Described, misshapen, unknown, known}

-- a part under a kind of the rules, or none where the kind is unknown
abbrev pub DraftPart : Type 0
DraftPart = Option (Name × Part)

-- an entity as a document says it
pub record DraftEntity : Type 0 where
  pub id : ℕ
  pub parts : List DraftPart

-- a system as a document says it, with the facts that the rules have of it, or none where its kind is unknown
pub record DraftSystem : Type 0 where
  pub kind : Name
  pub name : Name
  pub after : List Name
  pub config : Json
  pub local : Bool
  pub facts : Option Facts

-- an entry of the list of systems
pub data DraftEntry : Type 0 where
  barrier : DraftEntry
  system : DraftSystem → DraftEntry

-- the system of an entry
abbrev pub system_of_entry : DraftEntry → Option DraftSystem
system_of_entry barrier = None
system_of_entry (system one) = Some one

-- a command as a document says it; a part or a kind is none where the kind is unknown
pub data DraftCommand : Type 0 where
  spawn : List DraftPart → DraftCommand
  kill : ℕ → DraftCommand
  put : ℕ → DraftPart → DraftCommand
  take : ℕ → Option Name → DraftCommand

-- a document as it reads; a global is none where its name is unknown; the first list of commands is for frame 1
pub record Draft : Type 0 where
  pub next : ℕ
  pub entities : List DraftEntity
  pub globals : List (Option (Name × Json))
  pub entries : List DraftEntry
  pub frames : ℕ
  pub commands : List (List DraftCommand)
  pub workers : ℕ
  pub store : Name

-- the kinds of store
abbrev pub stores : List Name
stores = codes "vec" ∷ codes "dense" ∷ codes "hash" ∷ codes "btree" ∷ []

-- the items of an array
abbrev pub items_list : Items → List Json
items_list no_items = []
items_list (item first items) = first ∷ items_list items

-- the members of an object, ascending by key
abbrev pub members_list : Members → List (Name × Json)
members_list no_members = []
members_list (member key value members) = (key, value) ∷ members_list members

-- what a reading makes of each element, if it reads each
abbrev pub each : {X Y : Type 0} → (X → Option Y) → List X → Option (List Y)
each read [] = Some []
each read (first ∷ rest) = option_and_then (λ one. option_map (λ others. one ∷ others) (each read rest)) (read first)

-- whether no key is another than these
abbrev pub keys_within : List Name → List (Name × Json) → Bool
keys_within keys [] = true
keys_within keys (first ∷ members) = is_among first.0 keys && keys_within keys members

-- the members of an object that has no other keys than these
abbrev pub object_with : List Name → Json → Option Members
object_with keys json = option_and_then (λ members. if keys_within keys (members_list members) then Some members else None) (as_object json)

-- what stands under a key that has to be there
abbrev pub required : {X : Type 0} → List ℕ → (Json → Option X) → Members → Option X
required key read members = option_and_then read (get_member key members)

-- what is read of something, or a default where there is nothing
abbrev pub read_or : {X : Type 0} → X → (Json → Option X) → Option Json → Option X
read_or default read None = Some default
read_or default read (Some json) = read json

-- what stands under a key that may be missing
abbrev pub optional : {X : Type 0} → List ℕ → X → (Json → Option X) → Members → Option X
optional key default read members = read_or default read (get_member key members)

-- a whole number of 64 bits
abbrev pub whole : Json → Option ℕ
whole json = option_and_then as_u64 (as_number json)

-- a whole number of 32 bits
abbrev pub whole_32 : Json → Option ℕ
whole_32 json = option_and_then (λ number. if nat_lt number (2 ^ 32) then Some number else None) (whole json)

-- a part under a name
abbrev pub part_under : Book → Name × Json → Option DraftPart
part_under book entry = if is_among entry.0 book.part_names then option_map (λ part. Some (entry.0, part)) (book.read_part entry.0 entry.1) else Some None

-- the parts of an entity
abbrev pub parts_from : Book → Json → Option (List DraftPart)
parts_from book json = option_and_then (λ members. each (part_under book) (members_list members)) (as_object json)

-- an entity, of an id and its parts
abbrev pub entity_from : Book → Json → Option DraftEntity
entity_from book json = option_and_then (λ members. option_and_then (λ id. option_map (λ parts. record { id = id; parts = parts }) (required (codes "parts") (parts_from book) members)) (required (codes "id") whole members)) (object_with (codes "id" ∷ codes "parts" ∷ []) json)

-- the entities
abbrev pub entities_from : Book → Json → Option (List DraftEntity)
entities_from book json = option_and_then (λ items. each (entity_from book) (items_list items)) (as_array json)

-- a global under a name
abbrev pub global_under : Book → Name × Json → Option (Option (Name × Json))
global_under book entry = if is_among entry.0 book.global_names then option_map (λ value. Some (entry.0, value)) (book.read_global entry.0 entry.1) else Some None

-- the globals
abbrev pub globals_from : Book → Json → Option (List (Option (Name × Json)))
globals_from book json = option_and_then (λ members. each (global_under book) (members_list members)) (as_object json)

-- the names of a list of texts
abbrev pub names_from : Json → Option (List Name)
names_from json = option_and_then (λ items. each as_str (items_list items)) (as_array json)

-- any JSON
abbrev pub anything : Json → Option Json
anything json = Some json

-- the facts of a system whose configuration has its shape, none of them where its kind is unknown
abbrev pub facts_in_shape : Described → Option (Option Facts)
facts_in_shape misshapen = None
facts_in_shape unknown = Some None
facts_in_shape (known facts) = Some (Some facts)

-- the entry of a system, of what was found under each of its keys
abbrev pub system_found : Book → Option Json → Option Json → Option Json → Option Json → Option Json → Option DraftEntry
system_found book kind name after config local = option_and_then (λ kind. option_and_then (λ name. option_and_then (λ after. option_and_then (λ config. option_and_then (λ local. option_map (λ facts. system (record { kind = kind; name = name; after = after; config = config; local = local; facts = facts })) (facts_in_shape (book.system kind config))) (read_or false as_bool local)) (read_or null anything config)) (read_or [] names_from after)) (read_or [] as_str name)) (option_and_then as_str kind)

-- a system of an entry whose keys are known
abbrev pub system_from : Book → Members → Option DraftEntry
system_from book members = system_found book (get_member (codes "kind") members) (get_member (codes "name") members) (get_member (codes "after") members) (get_member (codes "config") members) (get_member (codes "local") members)

-- the keys that an entry of a system may have; a local one has neither a name nor names that it comes after
abbrev pub entry_keys : Bool → List Name
entry_keys true = codes "kind" ∷ codes "config" ∷ codes "local" ∷ []
entry_keys false = codes "kind" ∷ codes "name" ∷ codes "after" ∷ codes "config" ∷ codes "local" ∷ []

-- whether something is there and true
abbrev pub is_true : Option Bool → Bool
is_true None = false
is_true (Some b) = b

-- whether an entry says that it is local
abbrev pub says_local : Members → Bool
says_local members = is_true (optional (codes "local") false as_bool members)

-- whether an entry says that it is a barrier
abbrev pub says_barrier : Members → Bool
says_barrier members = is_true (required (codes "barrier") as_bool members)

-- an entry: a barrier, or a system
abbrev pub entry_from : Book → Json → Option DraftEntry
entry_from book json = option_and_then (λ members. if keys_within (codes "barrier" ∷ []) (members_list members) then (if says_barrier members then Some barrier else None) else (if keys_within (entry_keys (says_local members)) (members_list members) then system_from book members else None)) (as_object json)

-- the entries of the list of systems
abbrev pub entries_from : Book → Json → Option (List DraftEntry)
entries_from book json = option_and_then (λ items. each (entry_from book) (items_list items)) (as_array json)

-- a kind of the rules, or none where it is unknown
abbrev pub known_kind : Book → Name → Option Name
known_kind book kind = if is_among kind book.part_names then Some kind else None

-- a put: an id, a kind, and what is read under the kind
abbrev pub put_from : Book → Json → Option DraftCommand
put_from book json = option_and_then (λ members. option_and_then (λ id. option_and_then (λ kind. option_map (λ part. put id part) (required (codes "value") (λ value. part_under book (kind, value)) members)) (required (codes "kind") as_str members)) (required (codes "id") whole members)) (object_with (codes "id" ∷ codes "kind" ∷ codes "value" ∷ []) json)

-- a take: an id and a kind
abbrev pub take_from : Book → Json → Option DraftCommand
take_from book json = option_and_then (λ members. option_and_then (λ id. option_map (λ kind. take id (known_kind book kind)) (required (codes "kind") as_str members)) (required (codes "id") whole members)) (object_with (codes "id" ∷ codes "kind" ∷ []) json)

-- a command by its key
abbrev pub command_under : Book → Name × Json → Option DraftCommand
command_under book entry =
    if bytes_eq entry.0 (codes "spawn") then option_map (λ parts. spawn parts) (parts_from book entry.1) else
    (if bytes_eq entry.0 (codes "kill") then option_map (λ id. kill id) (whole entry.1) else
    (if bytes_eq entry.0 (codes "put") then put_from book entry.1 else
    (if bytes_eq entry.0 (codes "take") then take_from book entry.1 else None)))

-- the one member of an object that has no other
abbrev pub only_member : List (Name × Json) → Option (Name × Json)
only_member [] = None
only_member (first ∷ []) = Some first
only_member (first ∷ second ∷ members) = None

-- a command: an object of one key
abbrev pub command_from : Book → Json → Option DraftCommand
command_from book json = option_and_then (λ members. option_and_then (command_under book) (only_member (members_list members))) (as_object json)

-- the commands of a frame
abbrev pub command_list_from : Book → Json → Option (List DraftCommand)
command_list_from book json = option_and_then (λ items. each (command_from book) (items_list items)) (as_array json)

-- the lists of commands
abbrev pub commands_from : Book → Json → Option (List (List DraftCommand))
commands_from book json = option_and_then (λ items. each (command_list_from book) (items_list items)) (as_array json)

-- the keys of a document
abbrev pub document_keys : List Name
document_keys = codes "next" ∷ codes "entities" ∷ codes "globals" ∷ codes "systems" ∷ codes "frames" ∷ codes "commands" ∷ codes "workers" ∷ codes "store" ∷ []

-- a document, of what was found under each of its keys
abbrev pub draft_found : Book → Option Json → Option Json → Option Json → Option Json → Option Json → Option Json → Option Json → Option Json → Option Draft
draft_found book next entities globals systems frames commands workers store =
    option_and_then (λ next.
    option_and_then (λ entities.
    option_and_then (λ globals.
    option_and_then (λ entries.
    option_and_then (λ frames.
    option_and_then (λ commands.
    option_and_then (λ workers.
    option_map (λ store. record { next = next; entities = entities; globals = globals; entries = entries; frames = frames; commands = commands; workers = workers; store = store })
    (read_or (codes "vec") as_str store))
    (read_or 1 whole workers))
    (read_or [] (commands_from book) commands))
    (read_or 0 whole_32 frames))
    (read_or [] (entries_from book) systems))
    (read_or [] (globals_from book) globals))
    (option_and_then (entities_from book) entities))
    (option_and_then whole next)

-- the document that a JSON is
abbrev pub draft_from : Book → Json → Option Draft
draft_from book json = option_and_then (λ members. draft_found book (get_member (codes "next") members) (get_member (codes "entities") members) (get_member (codes "globals") members) (get_member (codes "systems") members) (get_member (codes "frames") members) (get_member (codes "commands") members) (get_member (codes "workers") members) (get_member (codes "store") members)) (object_with document_keys json)
