-- A scene that stands in a world: a function of what can be read at each id of the world.
use Rattle.std.specs.Prelude.{◌≡◌, ℕ, Bool, true, false, List, [], Option, None, IsSome, if◌then◌else◌, option_and_then}
use Rattle.std.specs.Option.{option_map_or, unwrap_or}
use Rattle.std.specs.List.{filter}
use Rattle.shred_world.specs.declared.resource_id.ResourceId.{ResourceId}
use Rattle.shred_world.specs.Bundles.{Holding, readable, takable}
use Rattle.specs_entity.specs.Births.{Births, living, none_born}
use Rattle.specs_layouts.specs.Channels.{Log, no_log}
use Rattle.specs_layouts.specs.declared.track.ComponentEvent.{ComponentEvent}
use Rattle.specs_markers.specs.Simple.{Noting, none_noted}
use Rattle.scene_model.specs.Parts.{Json, Name, is_among}
use Rattle.scene_model.specs.Rulebook.{Access, Fragment, Book, Command}
use Rattle.scene_model.specs.Scenes.{PlainScene, fragment, IsProper}
use Rattle.scene_world.specs.Stored.{Stored}
use Rattle.scene_world.specs.Rolls.{Roll, ids_in, part_in, IsRoll}

-- what can be read at each id
abbrev pub Sight : Type 0 → Type 0
Sight V = ResourceId → Option V

-- what can be read of what is held
abbrev pub seen_in : {V : Type 0} → Holding V → Sight V
seen_in w id = readable (w id)

-- each value that is held may be taken out, as in a world
abbrev pub IsWhole : {V : Type 0} → Holding V → Type 0
IsWhole w = (id : ResourceId) → takable (w id) ≡ readable (w id)

-- where the values of a scene stand, which kinds own their holders, and what is read of each value: the births of its entities, the id that is marked at an index, what
-- the allocator of ids notes, what a kind's column stores at an index, a global's value, and the commands of a queue; of the markers and
-- of a column also the events that tell of them, and whether a change is told
pub record Kinds (V : Type 0) : Type 0 where
  pub part_names : List Name
  pub owning : Name → Bool
  pub global_names : List Name
  pub entities_id : ResourceId
  pub markers_id : ResourceId
  pub allocator_id : ResourceId
  pub part_id : Name → ResourceId
  pub global_id : Name → ResourceId
  pub queue_id : ℕ → ResourceId
  pub births : V → Option Births
  pub marker : V → ℕ → Option ℕ
  pub marker_events : V → Log ComponentEvent
  pub marker_emits : V → Bool
  pub noting : V → Option Noting
  pub stored : Name → V → ℕ → Option Stored
  pub events : Name → V → Log ComponentEvent
  pub emits : Name → V → Bool
  pub value : Name → V → Option Json
  pub queued : V → List Command

module _ {V : Type 0} (kinds : Kinds V) where
  -- who lives, and under which id, by what stands for the entities, their markers and the allocator
  abbrev pub roll_in : (entities markers allocator : Option V) → Roll
  roll_in entities markers allocator = record {
    births = unwrap_or (option_and_then kinds.births entities) (none_born 0 0);
    marker = λ index. option_and_then (λ v. kinds.marker v index) markers;
    noting = unwrap_or (option_and_then kinds.noting allocator) none_noted;
  }

  abbrev pub roll_of : Sight V → Roll
  roll_of w = roll_in (w kinds.entities_id) (w kinds.markers_id) (w kinds.allocator_id)

  -- what the column of a kind stores at each index
  abbrev pub column_in : Name → Option V → ℕ → Option Stored
  column_in kind held index = option_and_then (λ v. kinds.stored kind v index) held

  abbrev pub column_of : Sight V → Name → ℕ → Option Stored
  column_of w kind = column_in kind (w (kinds.part_id kind))

  -- the events that tell of it, and whether a change is told
  abbrev pub events_in : Name → Option V → Log ComponentEvent
  events_in kind held = option_map_or (kinds.events kind) held no_log

  abbrev pub emits_in : Name → Option V → Bool
  emits_in kind held = option_map_or (kinds.emits kind) held false

  -- the marker at each index, the events that tell of them, and whether a change is told
  abbrev pub marker_in : Option V → ℕ → Option ℕ
  marker_in held index = option_and_then (λ v. kinds.marker v index) held

  abbrev pub marker_events_in : Option V → Log ComponentEvent
  marker_events_in held = option_map_or kinds.marker_events held no_log

  abbrev pub marker_emits_in : Option V → Bool
  marker_emits_in held = option_map_or kinds.marker_emits held false

  -- the value of a global
  abbrev pub value_of : Sight V → Name → Option Json
  value_of w name = option_and_then (kinds.value name) (w (kinds.global_id name))

  -- the commands of the system at a place
  abbrev pub commands_of : Sight V → ℕ → List Command
  commands_of w position = option_map_or kinds.queued (w (kinds.queue_id position)) []

  -- the kinds whose references own their holder
  abbrev pub owning_in : List Name
  owning_in = filter kinds.owning kinds.part_names

  -- the scene that is seen: the ids are those that mark the living, and the parts those of the columns of the rules' kinds
  abbrev pub plain_of : Sight V → PlainScene
  plain_of w = record {
    next = (roll_of w).noting.next;
    ids = ids_in (roll_of w);
    part = λ id kind. if is_among kind kinds.part_names then part_in (roll_of w) (column_of w kind) id else None;
    global = λ name. if is_among name kinds.global_names then value_of w name else None;
  }

  -- the fragment that is seen in what a system is lent
  abbrev pub fragment_of : Access → Holding V → Fragment
  fragment_of access w = fragment access (plain_of (seen_in w))

  -- no part stands where nobody lives
  abbrev pub IsWithin : Roll → (ℕ → Option Stored) → Type 0
  IsWithin roll column = (index : ℕ) → IsSome (column index) → IsSome (living roll.births index)

  -- a world in which a scene stands
  pub record IsSceneWorld (book : Book) (w : Sight V) : Type 0 where
    pub entities : IsSome (option_and_then kinds.births (w kinds.entities_id))
    pub markers : IsSome (w kinds.markers_id)
    pub allocator : IsSome (option_and_then kinds.noting (w kinds.allocator_id))
    pub roll : IsRoll (roll_of w)
    pub within : (kind : Name) → is_among kind kinds.part_names ≡ true → IsWithin (roll_of w) (column_of w kind)
    pub proper : IsProper book (plain_of w)

  -- that scene stands in the world
  pub record StandsFor (book : Book) (w : Sight V) (scene : PlainScene) : Type 0 where
    pub world : IsSceneWorld book w
    pub same : plain_of w ≡ scene
