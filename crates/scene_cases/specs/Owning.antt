-- The rules of the test: an entity belongs to another, and has a rank; a world has an era; documents have no system.
use Rattle.std.specs.Prelude.{◌≡◌, ℕ, ◌==◌, Bool, true, false, List, [], ◌∷◌, codes, Option, Some, None, option_map, option_and_then, if◌then◌else◌}
use Rattle.std.specs.List.{slice_index_or}
use Rattle.std.specs.Option.{option_map_or}
use Rattle.std.specs.Str.{bytes_eq}
use Rattle.serde_json.specs.Data.{null, number, unsigned, negative, float, boolean, string, array, object}
use Rattle.shred_world.specs.ResourceIds.{id_of}
use Rattle.specs_layouts.specs.Channels.{Log, log_of, no_log}
use Rattle.specs_layouts.specs.declared.track.ComponentEvent.{ComponentEvent}
use Rattle.specs_layouts.specs.Flagged.{tells}
use Rattle.scene_world.specs.Markers.{marker_at, marker_log, marker_tells}
use Rattle.scene_model.specs.Parts.{Json, Name, Ref, living, gone, Part}
use Rattle.scene_model.specs.Rulebook.{Access, Book, Fragment, Outcome, leaves, refuses, fills, unknown}
use Rattle.scene_world.specs.Stored.{Stored}
use Rattle.scene_world.specs.Standing.{Kinds}
use Rattle.scene_world.specs.Places.{Places, Columns, kinds_of}
use Rattle.scene_cases.specs.Holdings.{births_in, markers_in, noting_in, queue_in, owners_in, ranks_in, era_in, owner_at, rank_at, owner_id, rank_id, era_id}
use Rattle.scene_cases.specs.declared.commands.datum.Datum.{Datum}
use Rattle.scene_cases.specs.declared.commands.datum.Datum.TheVariants.{OwnedBy, Ranked}
use Rattle.scene_cases.specs.declared.commands.values.Owner.{Owner}
use Rattle.scene_cases.specs.declared.commands.values.Rank.{Rank}
use Rattle.scene_cases.specs.declared.commands.values.Value.{Value}
use Rattle.scene_cases.specs.declared.commands.values.Value.TheVariants.{EntitiesValue, AllocatorValue, QueueValue}

-- the names of the two kinds, and of the global
abbrev pub owner_name : Name
owner_name = codes "owner"

abbrev pub rank_name : Name
rank_name = codes "rank"

abbrev pub era_name : Name
era_name = codes "era"

-- what is written for a whole number
abbrev pub counted : ℕ → Json
counted n = number (unsigned n)

-- the part that belongs to the entity of an id, and the one of a rank
abbrev pub owned_by : ℕ → Part
owned_by id = record { json = counted id; refs = living id ∷ [] }

abbrev pub ranked : ℕ → Part
ranked n = record { json = counted n; refs = [] }

-- the part that a datum is
abbrev pub part_of : Datum → Part
part_of (OwnedBy id) = owned_by id
part_of (Ranked n) = ranked n

-- what is stored where an entity belongs to another, for which its id is written, and where it has a rank
abbrev pub owner_stored : Owner → Stored
owner_stored owner = record { named = owner.0 ∷ []; written = λ ids. counted (slice_index_or ids 0 0) }

abbrev pub rank_stored : Rank → Stored
rank_stored rank = record { named = []; written = λ ids. counted rank.0 }

-- the number that a JSON is, if it is one
abbrev pub number_in : Json → Option ℕ
number_in (number (unsigned n)) = Some n
number_in (number (negative n)) = None
number_in (number (float f)) = None
number_in null = None
number_in (boolean b) = None
number_in (string s) = None
number_in (array _) = None
number_in (object _) = None

-- the part that a number is under a kind
abbrev pub part_for : Name → ℕ → Part
part_for kind n = if bytes_eq kind owner_name then owned_by n else ranked n

-- whether references are the one to an id that was written, and whether there are none to a number
abbrev pub is_owner : Option ℕ → List Ref → Bool
is_owner None refs = false
is_owner (Some n) [] = false
is_owner (Some n) (gone ∷ refs) = false
is_owner (Some n) (living id ∷ []) = id == n
is_owner (Some n) (living id ∷ other ∷ refs) = false

abbrev pub is_rank : Option ℕ → List Ref → Bool
is_rank None refs = false
is_rank (Some n) [] = true
is_rank (Some n) (ref ∷ refs) = false

-- what a system that rests may do: it leaves all as it is, and asks for nothing
abbrev pub Rests : Fragment → Outcome → Type 0
Rests seen (leaves left commands) = (left ≡ seen) × (commands ≡ [])
Rests seen (refuses text) = ⊥
Rests seen (fills commands) = ⊥

-- and it declares nothing
abbrev pub no_access : Access
no_access = record { reads = []; writes = []; read_globals = []; written_globals = []; reserved = false }

abbrev pub owning_book : Book
owning_book = record {
  part_names = owner_name ∷ rank_name ∷ [];
  owning = λ kind. false;
  global_names = era_name ∷ [];
  read_part = λ kind json. option_map (part_for kind) (number_in json);
  read_global = λ name json. option_map counted (number_in json);
  admits = λ kind part. if bytes_eq kind owner_name then is_owner (number_in part.json) part.refs else is_rank (number_in part.json) part.refs;
  system = λ kind config. unknown;
  meets = λ kind config seen outcome. ⊥;
}

-- what is stored at an index of a value, under each kind
abbrev pub owner_column : Value → ℕ → Option Stored
owner_column v index = option_map owner_stored (option_and_then (λ s. owner_at s index) (owners_in v))

abbrev pub rank_column : Value → ℕ → Option Stored
rank_column v index = option_map rank_stored (option_and_then (λ s. rank_at s index) (ranks_in v))

-- the events that tell of each kind, and whether a change is told
abbrev pub owner_events : Value → Log ComponentEvent
owner_events v = option_map_or (λ s. log_of s.inner.channel) (owners_in v) no_log

abbrev pub owner_emits : Value → Bool
owner_emits v = option_map_or (λ s. tells s.inner) (owners_in v) false

abbrev pub rank_events : Value → Log ComponentEvent
rank_events v = option_map_or (λ s. log_of s.inner.channel) (ranks_in v) no_log

abbrev pub rank_emits : Value → Bool
rank_emits v = option_map_or (λ s. tells s.inner) (ranks_in v) false

-- where the two kinds and the global stand, and what is read there
abbrev pub owning_columns : Columns Value
owning_columns = record {
  part_names = owner_name ∷ rank_name ∷ [];
  owning = λ kind. false;
  global_names = era_name ∷ [];
  part_id = λ kind. if bytes_eq kind owner_name then owner_id else rank_id;
  global_id = λ name. era_id;
  stored = λ kind v index. if bytes_eq kind owner_name then owner_column v index else rank_column v index;
  events = λ kind v. if bytes_eq kind owner_name then owner_events v else rank_events v;
  emits = λ kind v. if bytes_eq kind owner_name then owner_emits v else rank_emits v;
  value = λ name v. option_map counted (era_in v);
}

-- where a scene's own stand
abbrev pub owning_places : Places Value Datum
owning_places = record {
  entities_id = id_of 0 0;
  markers_id = id_of 1 0;
  allocator_id = id_of 2 0;
  queue_id = λ position. id_of 3 position;
  births = births_in;
  marker = λ v index. option_and_then (λ markers. marker_at markers index) (markers_in v);
  marker_events = λ v. option_map_or marker_log (markers_in v) no_log;
  marker_emits = λ v. option_map_or marker_tells (markers_in v) false;
  noting = noting_in;
  queue = queue_in;
  queue_value = QueueValue;
  entities_value = EntitiesValue;
  allocator_value = AllocatorValue;
}

-- where all that a world of these rules holds stands, and what is read there
abbrev pub owning_kinds : Kinds Value
owning_kinds = kinds_of owning_places part_of owning_columns
