-- Where the values of a scene stand, by what the values are and by what the rules say of their own.
use Rattle.std.specs.Prelude.{◌≡◌, ℕ, Bool, List, [], Option, Some}
use Rattle.std.specs.Option.{option_map_or, option_and_then}
use Rattle.shred_world.specs.declared.resource_id.ResourceId.{ResourceId}
use Rattle.shred_world.specs.Bundles.{Holding, out, takable, with_slot}
use Rattle.specs_entity.specs.Births.{Births}
use Rattle.specs_layouts.specs.Channels.{Log}
use Rattle.specs_layouts.specs.declared.track.ComponentEvent.{ComponentEvent}
use Rattle.specs_markers.specs.Simple.{Noting}
use Rattle.scene_model.specs.declared.command.Queue.{Queue}
use Rattle.scene_model.specs.Parts.{Json, Name, Part}
use Rattle.scene_model.specs.Queues.{plain_commands, waiting}
use Rattle.scene_world.specs.Stored.{Stored}
use Rattle.scene_world.specs.Standing.{Kinds}

-- where a scene's entities, their markers, the allocator of ids and the queues stand, what is read of each, and the values
-- that hold them
pub record Places (V D : Type 0) : Type 0 where
  pub entities_id : ResourceId
  pub markers_id : ResourceId
  pub allocator_id : ResourceId
  pub queue_id : ℕ → ResourceId
  pub births : V → Option Births
  pub marker : V → ℕ → Option ℕ
  pub marker_events : V → Log ComponentEvent
  pub marker_emits : V → Bool
  pub noting : V → Option Noting
  pub queue : V → Option (Queue D)
  pub queue_value : Queue D → V
  pub entities_value : Births → V
  pub allocator_value : Noting → V

-- where the parts and globals of rules stand, under their names, whether references of a kind own their holder, and what is read of each
pub record Columns (V : Type 0) : Type 0 where
  pub part_names : List Name
  pub owning : Name → Bool
  pub global_names : List Name
  pub part_id : Name → ResourceId
  pub global_id : Name → ResourceId
  pub stored : Name → V → ℕ → Option Stored
  pub events : Name → V → Log ComponentEvent
  pub emits : Name → V → Bool
  pub value : Name → V → Option Json

-- both together
abbrev pub kinds_of : {V D : Type 0} → Places V D → (D → Part) → Columns V → Kinds V
kinds_of places part_of columns = record {
  part_names = columns.part_names;
  owning = columns.owning;
  global_names = columns.global_names;
  entities_id = places.entities_id;
  markers_id = places.markers_id;
  allocator_id = places.allocator_id;
  part_id = columns.part_id;
  global_id = columns.global_id;
  queue_id = places.queue_id;
  births = places.births;
  marker = places.marker;
  marker_events = places.marker_events;
  marker_emits = places.marker_emits;
  noting = places.noting;
  stored = columns.stored;
  events = columns.events;
  emits = columns.emits;
  value = columns.value;
  queued = λ v. option_map_or (λ queue. plain_commands part_of (waiting queue)) (places.queue v) [];
}

module _ {V D : Type 0} (places : Places V D) where
  -- the queue of a place was taken out of what is held
  pub record TakesQueue (position : ℕ) (before : Holding V) (queue : Queue D) (after : Holding V) : Type 0 where
    pub there : option_and_then places.queue (takable (before (places.queue_id position))) ≡ Some queue
    pub slots : after ≡ with_slot before (places.queue_id position) out
