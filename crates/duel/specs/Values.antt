-- What a world of the scene holds, and where, as tools/values writes it from values.list.
use Rattle.std.specs.Prelude.{ℕ, false, List, [], ◌∷◌, codes, Option, Some, None, refl, option_map, option_and_then}
use Rattle.std.specs.Option.{option_map_or}
use Rattle.shred_world.specs.ResourceIds.{id_of}
use Rattle.specs_entity.specs.Births.{Births}
use Rattle.specs_layouts.specs.Channels.{no_log}
use Rattle.specs_layouts.specs.Flagged.{Flagged}
use Rattle.specs_layouts.specs.Masked.{Masked}
use Rattle.specs_layouts.specs.declared.storages.vec.VecStorage.{VecStorage}
use Rattle.specs_markers.specs.Simple.{Noting}
use Rattle.scene_model.specs.declared.command.Queue.{Queue}
use Rattle.scene_world.specs.Markers.{marker_at, marker_log, marker_tells}
use Rattle.scene_world.specs.Standing.{Kinds}
use Rattle.scene_world.specs.Places.{Places, Columns, kinds_of}
use Rattle.scene_world.specs.Columns.{Storage, PlainKind, PlainGlobal, plain_kind, plain_columns}
use Rattle.scene_world.specs.Numbers.{counted, number_stored, reference_stored}
use Rattle.scene_world.specs.Lent.{StandApart}
use Rattle.scene_world.specs.ColumnLaws.{plain-apart}
use Rattle.duel.specs.declared.data.Datum.{Datum}
use Rattle.duel.specs.declared.data.Attack.{Attack}
use Rattle.duel.specs.declared.data.Hp.{Hp}
use Rattle.duel.specs.declared.data.Target.{Target}
use Rattle.duel.specs.declared.values.Value.{Value}
use Rattle.duel.specs.declared.values.Value.TheVariants.{EntitiesValue}
use Rattle.duel.specs.declared.values.Value.TheVariants.{MarkersValue}
use Rattle.duel.specs.declared.values.Value.TheVariants.{AllocatorValue}
use Rattle.duel.specs.declared.values.Value.TheVariants.{QueueValue}
use Rattle.duel.specs.declared.values.Value.TheVariants.{AttackValue}
use Rattle.duel.specs.declared.values.Value.TheVariants.{HpValue}
use Rattle.duel.specs.declared.values.Value.TheVariants.{TargetValue}
use Rattle.duel.specs.declared.values.Value.TheVariants.{TurnValue}
use Rattle.duel.specs.Names.{part_of}

-- what is read of a value as one of each kind
abbrev pub entities_in : Value → Option Births
entities_in (EntitiesValue x) = Some x
entities_in (MarkersValue x) = None
entities_in (AllocatorValue x) = None
entities_in (QueueValue x) = None
entities_in (AttackValue x) = None
entities_in (HpValue x) = None
entities_in (TargetValue x) = None
entities_in (TurnValue x) = None

abbrev pub markers_in : Value → Option (Masked (Flagged (VecStorage ℕ)))
markers_in (EntitiesValue x) = None
markers_in (MarkersValue x) = Some x
markers_in (AllocatorValue x) = None
markers_in (QueueValue x) = None
markers_in (AttackValue x) = None
markers_in (HpValue x) = None
markers_in (TargetValue x) = None
markers_in (TurnValue x) = None

abbrev pub allocator_in : Value → Option Noting
allocator_in (EntitiesValue x) = None
allocator_in (MarkersValue x) = None
allocator_in (AllocatorValue x) = Some x
allocator_in (QueueValue x) = None
allocator_in (AttackValue x) = None
allocator_in (HpValue x) = None
allocator_in (TargetValue x) = None
allocator_in (TurnValue x) = None

abbrev pub queue_in : Value → Option (Queue Datum)
queue_in (EntitiesValue x) = None
queue_in (MarkersValue x) = None
queue_in (AllocatorValue x) = None
queue_in (QueueValue x) = Some x
queue_in (AttackValue x) = None
queue_in (HpValue x) = None
queue_in (TargetValue x) = None
queue_in (TurnValue x) = None

abbrev pub attack_in : Value → Option (Storage Attack)
attack_in (EntitiesValue x) = None
attack_in (MarkersValue x) = None
attack_in (AllocatorValue x) = None
attack_in (QueueValue x) = None
attack_in (AttackValue x) = Some x
attack_in (HpValue x) = None
attack_in (TargetValue x) = None
attack_in (TurnValue x) = None

abbrev pub hp_in : Value → Option (Storage Hp)
hp_in (EntitiesValue x) = None
hp_in (MarkersValue x) = None
hp_in (AllocatorValue x) = None
hp_in (QueueValue x) = None
hp_in (AttackValue x) = None
hp_in (HpValue x) = Some x
hp_in (TargetValue x) = None
hp_in (TurnValue x) = None

abbrev pub target_in : Value → Option (Storage Target)
target_in (EntitiesValue x) = None
target_in (MarkersValue x) = None
target_in (AllocatorValue x) = None
target_in (QueueValue x) = None
target_in (AttackValue x) = None
target_in (HpValue x) = None
target_in (TargetValue x) = Some x
target_in (TurnValue x) = None

abbrev pub turn_in : Value → Option ℕ
turn_in (EntitiesValue x) = None
turn_in (MarkersValue x) = None
turn_in (AllocatorValue x) = None
turn_in (QueueValue x) = None
turn_in (AttackValue x) = None
turn_in (HpValue x) = None
turn_in (TargetValue x) = None
turn_in (TurnValue x) = Some x

-- the columns and the globals, by their names
abbrev pub attack_column : PlainKind Value
attack_column = plain_kind (codes "attack") 4 attack_in (λ (part : Attack). number_stored part.0)

abbrev pub hp_column : PlainKind Value
hp_column = plain_kind (codes "hp") 5 hp_in (λ (part : Hp). number_stored part.0)

abbrev pub target_column : PlainKind Value
target_column = plain_kind (codes "target") 6 target_in (λ (part : Target). reference_stored part.0)

abbrev pub turn_global : PlainGlobal Value
turn_global = record { name = codes "turn"; number = 7; value = λ v. option_map counted (turn_in v) }

abbrev pub all_columns : List (PlainKind Value)
all_columns = attack_column ∷ hp_column ∷ target_column ∷ []

abbrev pub all_globals : List (PlainGlobal Value)
all_globals = turn_global ∷ []

abbrev pub columns : Columns Value
columns = plain_columns (λ kind. false) all_columns all_globals

-- where the entities, the markers, the allocator of ids and the queues stand
abbrev pub places : Places Value Datum
places = record {
  entities_id = id_of 0 0;
  markers_id = id_of 1 0;
  allocator_id = id_of 2 0;
  queue_id = λ position. id_of 3 position;
  births = entities_in;
  marker = λ v index. option_and_then (λ markers. marker_at markers index) (markers_in v);
  marker_events = λ v. option_map_or marker_log (markers_in v) no_log;
  marker_emits = λ v. option_map_or marker_tells (markers_in v) false;
  noting = allocator_in;
  queue = queue_in;
  queue_value = QueueValue;
  entities_value = EntitiesValue;
  allocator_value = AllocatorValue;
}

-- where all stand, no two of them under one id
abbrev pub kinds : Kinds Value
kinds = kinds_of places part_of columns

pub kinds-apart : StandApart kinds
kinds-apart = plain-apart places part_of (λ kind. false) all_columns all_globals (record { entities = refl; markers = refl; allocator = refl; queue = λ position. refl }) refl
