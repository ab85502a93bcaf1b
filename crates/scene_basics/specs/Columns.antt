-- Where the parts and the global of the program's rules stand in a world, and what is read there.
use Rattle.std.specs.Prelude.{ℕ, Bool, false, [], ◌∷◌, Option, option_map, option_and_then, if◌then◌else◌}
use Rattle.std.specs.List.{slice_index_or}
use Rattle.std.specs.Option.{option_map_or}
use Rattle.std.specs.Str.{bytes_eq}
use Rattle.serde_json.specs.Data.{number, unsigned}
use Rattle.shred_world.specs.declared.resource_id.ResourceId.{ResourceId}
use Rattle.shred_world.specs.ResourceIds.{id_of}
use Rattle.specs_layouts.specs.Channels.{Log, log_of, no_log}
use Rattle.specs_layouts.specs.declared.track.ComponentEvent.{ComponentEvent}
use Rattle.specs_layouts.specs.Flagged.{tells}
use Rattle.scene_world.specs.Markers.{marker_at, marker_log, marker_tells}
use Rattle.scene_model.specs.Parts.{Name, is_among}
use Rattle.scene_world.specs.Stored.{Stored}
use Rattle.scene_world.specs.Standing.{Kinds}
use Rattle.scene_world.specs.Places.{Places, Columns, kinds_of}
use Rattle.scene_basics.specs.declared.data.Datum.{Datum}
use Rattle.scene_basics.specs.declared.values.Whole.{Whole}
use Rattle.scene_basics.specs.declared.values.Owner.{Owner}
use Rattle.scene_basics.specs.declared.values.Value.{Value}
use Rattle.scene_basics.specs.declared.values.Value.TheVariants.{EntitiesValue, AllocatorValue, QueueValue}
use Rattle.scene_basics.specs.Names.{bond_kind, hp_kind, owner_kind, pos_kind, g_name, part_kinds, reference_kinds, owns_holder}
use Rattle.scene_basics.specs.Numbers.{json_of, part_of}
use Rattle.scene_basics.specs.Values.{births_in, markers_in, noting_in, queue_in, numbers_in, owners_in, global_in, whole_at, owner_at}

-- the number of a kind: under it its parts stand
abbrev pub kind_number : Name → ℕ
kind_number kind = if bytes_eq kind owner_kind then 4 else (if bytes_eq kind hp_kind then 5 else (if bytes_eq kind pos_kind then 6 else (if bytes_eq kind bond_kind then 9 else 7)))

-- where the parts of a kind stand, and where the global does
abbrev pub part_id : Name → ResourceId
part_id kind = id_of (kind_number kind) 0

abbrev pub global_id : ResourceId
global_id = id_of 8 0

-- what is stored for a number, and for a reference to an owner, whose id is written for it
abbrev pub whole_stored : Whole → Stored
whole_stored whole = record { named = []; written = λ ids. json_of whole.0 }

abbrev pub owner_stored : Owner → Stored
owner_stored owner = record { named = owner.0 ∷ []; written = λ ids. number (unsigned (slice_index_or ids 0 0)) }

-- what is stored at an index of a value
abbrev pub number_column : Value → ℕ → Option Stored
number_column v index = option_map whole_stored (option_and_then (λ s. whole_at s index) (numbers_in v))

abbrev pub owner_column : Value → ℕ → Option Stored
owner_column v index = option_map owner_stored (option_and_then (λ s. owner_at s index) (owners_in v))

-- the events that tell of numbers, and of owners, and whether a change is told
abbrev pub number_events : Value → Log ComponentEvent
number_events v = option_map_or (λ s. log_of s.inner.channel) (numbers_in v) no_log

abbrev pub number_emits : Value → Bool
number_emits v = option_map_or (λ s. tells s.inner) (numbers_in v) false

abbrev pub owner_events : Value → Log ComponentEvent
owner_events v = option_map_or (λ s. log_of s.inner.channel) (owners_in v) no_log

abbrev pub owner_emits : Value → Bool
owner_emits v = option_map_or (λ s. tells s.inner) (owners_in v) false

-- where the kinds and the global stand, and what is read there
abbrev pub basic_columns : Columns Value
basic_columns = record {
  part_names = part_kinds;
  owning = owns_holder;
  global_names = g_name ∷ [];
  part_id = part_id;
  global_id = λ name. global_id;
  stored = λ kind v index. if is_among kind reference_kinds then owner_column v index else number_column v index;
  events = λ kind v. if is_among kind reference_kinds then owner_events v else number_events v;
  emits = λ kind v. if is_among kind reference_kinds then owner_emits v else number_emits v;
  value = λ name v. option_map json_of (global_in v);
}

-- where a scene's own stand
abbrev pub basic_places : Places Value Datum
basic_places = record {
  entities_id = id_of 0 0;
  markers_id = id_of 1 0;
  allocator_id = id_of 2 0;
  queue_id = λ position. id_of 3 position;
  births = births_in;
  marker = λ v index. option_and_then (λ markers. marker_at markers index) (markers_in v);
  marker_events = λ v. option_map_or marker_log (markers_in v) no_log;
  marker_emits = λ v. option_map_or marker_tells (markers_in v) false;
  noting = noting_in;
  queue = queue_in;
  queue_value = QueueValue;
  entities_value = EntitiesValue;
  allocator_value = AllocatorValue;
}

-- both together
abbrev pub basic_kinds : Kinds Value
basic_kinds = kinds_of basic_places part_of basic_columns
