-- Plain columns: the parts of a kind lie in one storage, which is a resource of its own in a world's values.
use Rattle.std.specs.Prelude.{◌≡◌, ℕ, Bool, false, List, [], ◌∷◌, map, Option, Some, None, is_some, filter, option_map, option_and_then, if◌then◌else◌}
use Rattle.std.specs.Option.{option_map_or}
use Rattle.std.specs.FinMap as slots
use Rattle.std.specs.Str.{bytes_eq}
use Rattle.shred_world.specs.ResourceIds.{id_of}
use Rattle.shred_world.specs.Bundles.{Holding}
use Rattle.shred_world.specs.Worlds.{Slots}
use Rattle.specs_layouts.specs.Channels.{Log, log_of, no_log}
use Rattle.specs_layouts.specs.Flagged.{Flagged, tells}
use Rattle.specs_layouts.specs.Masked.{Masked}
use Rattle.specs_layouts.specs.Parts.{HasNone}
use Rattle.specs_layouts.specs.declared.track.ComponentEvent.{ComponentEvent}
use Rattle.scene_model.specs.Parts.{Json, Name}
use Rattle.scene_world.specs.Stored.{Stored}
use Rattle.scene_world.specs.Rolls.{Roll, index_of, ids_in}
use Rattle.scene_world.specs.Standing.{seen_in}
use Rattle.scene_world.specs.Stores.{store_part}
use Rattle.scene_world.specs.Places.{Columns}
use Rattle.scene_world.specs.declared.any_store.AnyStore.{AnyStore}

-- a storage of a scene's parts, and what is stored at an index, where this is stored for a part
abbrev pub Storage : Type 0 → Type 0
Storage T = Masked (Flagged (AnyStore T))

abbrev pub storing : {T : Type 0} → (T → Stored) → Storage T → ℕ → Option Stored
storing stored storage index = option_map stored (store_part storage.inner.inner index)

-- what a storage over a layout stores at an index, where this is stored for a part
abbrev pub storing_by : {L T : Type 0} → (L → ℕ → Option T) → (T → Stored) → Masked L → ℕ → Option Stored
storing_by part_at stored storage index = option_map stored (part_at storage.inner index)

module _ {V S : Type 0} (part : V → Option S) where
  -- what a value stores at an index, by the column that it may hold
  abbrev pub column_in : (S → ℕ → Option Stored) → V → ℕ → Option Stored
  column_in stored_at v index = option_and_then (λ s. stored_at s index) (part v)

  -- the events that tell of its parts, and whether a change is told
  abbrev pub events_in : (S → Log ComponentEvent) → V → Log ComponentEvent
  events_in log v = option_map_or log (part v) no_log

  abbrev pub emits_in : (S → Bool) → V → Bool
  emits_in telling v = option_map_or telling (part v) false

-- the ids of those for whom a column stores something at their index, in their order
abbrev pub ids_having : Roll → (ℕ → Option Stored) → List ℕ
ids_having roll column = filter (λ id. is_some (option_and_then column (index_of roll id))) (ids_in roll)

-- what a column stores that stands under a number in what is held
abbrev pub column_held : {V : Type 0} → (V → ℕ → Option Stored) → ℕ → Holding V → ℕ → Option Stored
column_held stored number w index = option_and_then (λ v. stored v index) (seen_in w (id_of number 0))

-- a value that stores nothing stands under a number, and under each other id what stood there
pub record StandsEmpty {V : Type 0} (stored : V → ℕ → Option Stored) (number : ℕ) (w later : Slots V) : Type 0 where
  pub value : V
  pub none : HasNone (stored value)
  pub put : later ≡ slots.insert w (id_of number 0) (Some value)

-- a kind of parts in plain columns: its name, the number under which its parts stand, and what is read of a value
pub record PlainKind (V : Type 0) : Type 0 where
  pub name : Name
  pub number : ℕ
  pub stored : V → ℕ → Option Stored
  pub events : V → Log ComponentEvent
  pub emits : V → Bool

-- the kind whose storage a value may have, where this is stored for a part
abbrev pub plain_kind : {V T : Type 0} → Name → ℕ → (V → Option (Storage T)) → (T → Stored) → PlainKind V
plain_kind name number part stored = record {
  name = name;
  number = number;
  stored = column_in part (storing stored);
  events = events_in part (λ s. log_of s.inner.channel);
  emits = emits_in part (λ s. tells s.inner);
}

-- a global: its name, the number under which it stands, and what is read of a value
pub record PlainGlobal (V : Type 0) : Type 0 where
  pub name : Name
  pub number : ℕ
  pub value : V → Option Json

-- what the entry of a name says; each other name stands for the last one
abbrev pub of_name : {E X : Type 0} → (E → Name) → (E → X) → X → List E → Name → X
of_name named read none [] name = none
of_name named read none (only ∷ []) name = read only
of_name named read none (first ∷ next ∷ more) name = if bytes_eq name (named first) then read first else of_name named read none (next ∷ more) name

-- where the parts and globals of these kinds stand, and what is read there
abbrev pub plain_columns : {V : Type 0} → (Name → Bool) → List (PlainKind V) → List (PlainGlobal V) → Columns V
plain_columns owning kinds globals = record {
  part_names = map (λ kind. kind.name) kinds;
  owning = owning;
  global_names = map (λ global. global.name) globals;
  part_id = λ name. id_of (of_name (λ kind. kind.name) (λ kind. kind.number) 0 kinds name) 0;
  global_id = λ name. id_of (of_name (λ global. global.name) (λ global. global.number) 0 globals name) 0;
  stored = of_name (λ kind. kind.name) (λ kind. kind.stored) (λ v index. None) kinds;
  events = of_name (λ kind. kind.name) (λ kind. kind.events) (λ v. no_log) kinds;
  emits = of_name (λ kind. kind.name) (λ kind. kind.emits) (λ v. false) kinds;
  value = of_name (λ global. global.name) (λ global. global.value) (λ v. None) globals;
}

-- columns of these kinds are put in empty, one after the other
abbrev pub AreRegistered : {V : Type 0} → List (PlainKind V) → Slots V → Slots V → Type 0
AreRegistered [] w later = later ≡ w
AreRegistered {V} (kind ∷ kinds) w later = (middle : Slots V) × StandsEmpty kind.stored kind.number w middle × AreRegistered kinds middle later
