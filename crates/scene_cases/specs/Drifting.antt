-- The rules of the test: positions and velocities, and what drift may make of them.
use Rattle.std.specs.Prelude.{◌≡◌, ℕ, ◌+◌, ◌%◌, ◌^◌, ◌||◌, Bool, true, false, List, [], ◌∷◌, codes, Option, Some, None, option_map, option_and_then, is_some, if◌then◌else◌, refl}
use Rattle.std.proofs.Common.{ap, sym, ◌∙◌}
use Rattle.std.specs.Cmp.{unsigned_tied}
use Rattle.std.proofs.lemmas.Bool.{true≢false}
use Rattle.std.proofs.lemmas.Slice.Eq.{bytes_eq-Decides}
use Rattle.std.specs.Option.{option_map_or}
use Rattle.std.specs.Str.{bytes_eq}
use Rattle.serde_json.specs.Data.{null, number, unsigned, negative, float, boolean, string, array, object}
use Rattle.serde_json.specs.Find.{as_null}
use Rattle.shred_world.specs.declared.resource_id.ResourceId.{ResourceId}
use Rattle.shred_world.specs.ResourceIds.{id_of, same_id}
use Rattle.specs_entity.specs.Births.{Births}
use Rattle.specs_layouts.specs.Channels.{Log, log_of, no_log}
use Rattle.specs_layouts.specs.declared.track.ComponentEvent.{ComponentEvent}
use Rattle.specs_layouts.specs.Flagged.{Flagged, tells}
use Rattle.specs_layouts.specs.Masked.{Masked}
use Rattle.specs_layouts.specs.declared.storages.vec.VecStorage.{VecStorage}
use Rattle.specs_markers.specs.Simple.{Noting}
use Rattle.scene_model.specs.declared.command.Queue.{Queue}
use Rattle.scene_world.specs.Markers.{marker_at, marker_log, marker_tells}
use Rattle.scene_model.specs.Parts.{Json, Name, Ref, Part, is_among}
use Rattle.scene_model.specs.Rulebook.{Access, Book, Fragment, Outcome, leaves, refuses, fills, Facts, Described, known, unknown, misshapen}
use Rattle.scene_world.specs.Stored.{Stored}
use Rattle.scene_world.specs.Lent.{Place, entities, markers, allocator, parts, value, queue, id_of_place, is_known, same_place, StandApart}
use Rattle.scene_world.specs.Places.{Places, Columns, kinds_of}
use Rattle.scene_cases.specs.Drifts.{positions_in, velocities_in, position_at, velocity_at, position_id, velocity_id}
use Rattle.scene_cases.specs.declared.turns.values.Position.{Position}
use Rattle.scene_cases.specs.declared.turns.values.Velocity.{Velocity}
use Rattle.scene_cases.specs.declared.turns.values.Value.{Value}
use Rattle.scene_cases.specs.declared.turns.values.Value.TheVariants.{EntitiesValue, MarkersValue, AllocatorValue, QueueValue, PositionValue, VelocityValue}

-- the names of the two kinds, and of the kind of system
abbrev pub pos_name : Name
pos_name = codes "pos"

abbrev pub vel_name : Name
vel_name = codes "vel"

abbrev pub drift_name : Name
drift_name = codes "drift"

-- a whole number as a part, as it is and as it is stored
abbrev pub counting : ℕ → Part
counting n = record { json = number (unsigned n); refs = [] }

abbrev pub storing : ℕ → Stored
storing n = record { named = []; written = λ ids. number (unsigned n) }

-- the number that a JSON is, if it is one
abbrev pub number_in : Json → Option ℕ
number_in (number (unsigned n)) = Some n
number_in (number (negative n)) = None
number_in (number (float f)) = None
number_in null = None
number_in (boolean b) = None
number_in (string s) = None
number_in (array _) = None
number_in (object _) = None

-- whether a part is a number
abbrev pub is_counting : Option ℕ → List Ref → Bool
is_counting None refs = false
is_counting (Some n) [] = true
is_counting (Some n) (ref ∷ refs) = false

-- the sum of two numbers, in 64 bits
abbrev pub sum : Option ℕ → Option ℕ → Option Part
sum (Some one) (Some other) = Some (counting ((one + other) % 2 ^ 64))
sum one other = None

-- a part after the one beside it was added
abbrev pub moved_part : Option Part → Option Part → Option Part
moved_part None velocity = None
moved_part (Some position) None = Some position
moved_part (Some position) (Some velocity) = sum (number_in position.json) (number_in velocity.json)

-- each position gained the velocity of its entity, and all else is as it was
pub record Drifted (seen left : Fragment) : Type 0 where
  pub ids : left.ids ≡ seen.ids
  pub positions : (id : ℕ) → left.part id pos_name ≡ moved_part (seen.part id pos_name) (seen.part id vel_name)
  pub others : (id : ℕ) (kind : Name) → bytes_eq kind pos_name ≡ false → left.part id kind ≡ seen.part id kind
  pub globals : (name : Name) → left.global name ≡ seen.global name

-- that is all that drift may do, and it asks for nothing
abbrev pub Drifts : Fragment → Outcome → Type 0
Drifts seen (leaves left commands) = Drifted seen left × (commands ≡ [])
Drifts seen (refuses text) = ⊥
Drifts seen (fills commands) = ⊥

-- drift reads velocities and writes positions
abbrev pub drift_access : Access
drift_access = record { reads = vel_name ∷ []; writes = pos_name ∷ []; read_globals = []; written_globals = []; reserved = false }

-- what the rules know of drift, whose configuration is null
abbrev pub drift_facts : Facts
drift_facts = record { access = drift_access; time = 3 }

abbrev pub configured : Json → Described
configured config = if is_some (as_null config) then known drift_facts else misshapen

abbrev pub drifting_book : Book
drifting_book = record {
  part_names = pos_name ∷ vel_name ∷ [];
  owning = λ kind. false;
  global_names = [];
  read_part = λ kind json. option_map counting (number_in json);
  read_global = λ name json. None;
  admits = λ kind part. is_counting (number_in part.json) part.refs;
  system = λ kind config. if bytes_eq kind drift_name then configured config else unknown;
  meets = λ kind config. Drifts;
}

-- the numbers in a value, as they are and as they are stored
abbrev pub position_number : Value → ℕ → Option ℕ
position_number v index = option_map (λ (p : Position). p.0) (option_and_then (λ s. position_at s index) (positions_in v))

abbrev pub velocity_number : Value → ℕ → Option ℕ
velocity_number v index = option_map (λ (s : Velocity). s.0) (option_and_then (λ s. velocity_at s index) (velocities_in v))

abbrev pub position_column : Value → ℕ → Option Stored
position_column v index = option_map (λ (p : Position). storing p.0) (option_and_then (λ s. position_at s index) (positions_in v))

abbrev pub velocity_column : Value → ℕ → Option Stored
velocity_column v index = option_map (λ (s : Velocity). storing s.0) (option_and_then (λ s. velocity_at s index) (velocities_in v))

-- the events that tell of each kind, and whether a change is told
abbrev pub position_events : Value → Log ComponentEvent
position_events v = option_map_or (λ s. log_of s.inner.channel) (positions_in v) no_log

abbrev pub position_emits : Value → Bool
position_emits v = option_map_or (λ s. tells s.inner) (positions_in v) false

abbrev pub velocity_events : Value → Log ComponentEvent
velocity_events v = option_map_or (λ s. log_of s.inner.channel) (velocities_in v) no_log

abbrev pub velocity_emits : Value → Bool
velocity_emits v = option_map_or (λ s. tells s.inner) (velocities_in v) false

-- where the two kinds stand, and what is read there
abbrev pub drifting_columns : Columns Value
drifting_columns = record {
  part_names = pos_name ∷ vel_name ∷ [];
  owning = λ kind. false;
  global_names = [];
  part_id = λ kind. if bytes_eq kind pos_name then position_id else velocity_id;
  global_id = λ name. id_of 6 0;
  stored = λ kind v index. if bytes_eq kind pos_name then position_column v index else velocity_column v index;
  events = λ kind v. if bytes_eq kind pos_name then position_events v else velocity_events v;
  emits = λ kind v. if bytes_eq kind pos_name then position_emits v else velocity_emits v;
  value = λ name v. None;
}

-- what a value holds of a scene's own
abbrev pub births_in : Value → Option Births
births_in (EntitiesValue x) = Some x
births_in (MarkersValue x) = None
births_in (AllocatorValue x) = None
births_in (QueueValue x) = None
births_in (PositionValue x) = None
births_in (VelocityValue x) = None

abbrev pub markers_in : Value → Option (Masked (Flagged (VecStorage ℕ)))
markers_in (EntitiesValue x) = None
markers_in (MarkersValue x) = Some x
markers_in (AllocatorValue x) = None
markers_in (QueueValue x) = None
markers_in (PositionValue x) = None
markers_in (VelocityValue x) = None

abbrev pub noting_in : Value → Option Noting
noting_in (EntitiesValue x) = None
noting_in (MarkersValue x) = None
noting_in (AllocatorValue x) = Some x
noting_in (QueueValue x) = None
noting_in (PositionValue x) = None
noting_in (VelocityValue x) = None

abbrev pub queue_in : Value → Option (Queue ℕ)
queue_in (EntitiesValue x) = None
queue_in (MarkersValue x) = None
queue_in (AllocatorValue x) = None
queue_in (QueueValue x) = Some x
queue_in (PositionValue x) = None
queue_in (VelocityValue x) = None

-- where these stand
abbrev pub drifting_places : Places Value ℕ
drifting_places = record {
  entities_id = id_of 0 0;
  markers_id = id_of 1 0;
  allocator_id = id_of 2 0;
  queue_id = λ position. id_of 3 position;
  births = births_in;
  marker = λ v index. option_and_then (λ markers. marker_at markers index) (markers_in v);
  marker_events = λ v. option_map_or marker_log (markers_in v) no_log;
  marker_emits = λ v. option_map_or marker_tells (markers_in v) false;
  noting = noting_in;
  queue = queue_in;
  queue_value = QueueValue;
  entities_value = EntitiesValue;
  allocator_value = AllocatorValue;
}

or-right : (b : Bool) → (b || false) ≡ true → b ≡ true
or-right true e = refl
or-right false e = e

-- a kind of the two that isn't the first is the second
second : (kind : Name) → is_among kind (pos_name ∷ vel_name ∷ []) ≡ true → bytes_eq kind pos_name ≡ false → kind ≡ vel_name
second kind one_of apart = (bytes_eq-Decides kind vel_name).0 (or-right (bytes_eq kind vel_name) (sym (ap (λ b. b || (bytes_eq kind vel_name || false)) apart) ∙ one_of))

-- where each stands
stand : Place → ResourceId
stand entities = id_of 0 0
stand markers = id_of 1 0
stand allocator = id_of 2 0
stand (queue position) = id_of 3 position
stand (parts kind) = if bytes_eq kind pos_name then id_of 4 0 else id_of 5 0
stand (value name) = id_of 6 0

-- a kind stands at 4 or 5
kind-apart : (n d : ℕ) → same_id (id_of 4 0) (id_of n d) ≡ false → same_id (id_of 5 0) (id_of n d) ≡ false → (b : Bool) → same_id (if b then id_of 4 0 else id_of 5 0) (id_of n d) ≡ false
kind-apart n d four five true = four
kind-apart n d four five false = five

apart-kind : (n d : ℕ) → same_id (id_of n d) (id_of 4 0) ≡ false → same_id (id_of n d) (id_of 5 0) ≡ false → (b : Bool) → same_id (id_of n d) (if b then id_of 4 0 else id_of 5 0) ≡ false
apart-kind n d four five true = four
apart-kind n d four five false = five

kinds-apart : (kind other : Name) → is_among kind (pos_name ∷ vel_name ∷ []) ≡ true → is_among other (pos_name ∷ vel_name ∷ []) ≡ true
    → (b : Bool) → bytes_eq kind pos_name ≡ b → (c : Bool) → bytes_eq other pos_name ≡ c → same_id (if b then id_of 4 0 else id_of 5 0) (if c then id_of 4 0 else id_of 5 0) ≡ bytes_eq kind other
kinds-apart kind other one two true is true also = sym ((bytes_eq-Decides kind other).1 ((bytes_eq-Decides kind pos_name).0 is ∙ sym ((bytes_eq-Decides other pos_name).0 also)))
kinds-apart kind other one two true is false differ =
    sym (ap (λ k. bytes_eq k other) ((bytes_eq-Decides kind pos_name).0 is) ∙ ap (bytes_eq pos_name) (second other two differ))
kinds-apart kind other one two false differ true is =
    sym (ap (bytes_eq kind) ((bytes_eq-Decides other pos_name).0 is) ∙ differ)
kinds-apart kind other one two false differ false also = sym ((bytes_eq-Decides kind other).1 (second kind one differ ∙ sym (second other two also)))

-- no two of what a world of these rules holds stand under one id
pub drifting-apart : StandApart (kinds_of drifting_places counting drifting_columns)
unfolding stand
drifting-apart one other known_one known_other =
    ap (λ id. same_id id (id_of_place (kinds_of drifting_places counting drifting_columns) other)) (stands one) ∙ ap (same_id (stand one)) (stands other) ∙ by one other known_one known_other
  where
    stands : (place : Place) → id_of_place (kinds_of drifting_places counting drifting_columns) place ≡ stand place
    stands entities = refl
    stands markers = refl
    stands allocator = refl
    stands (queue position) = refl
    stands (parts kind) = refl
    stands (value name) = refl

    by : (one other : Place) → is_known (kinds_of drifting_places counting drifting_columns) one ≡ true → is_known (kinds_of drifting_places counting drifting_columns) other ≡ true → same_id (stand one) (stand other) ≡ same_place one other
    by (value name) other k l = absurd (true≢false (sym k))
    by one (value name) k l = absurd (true≢false (sym l))
    by entities entities k l = refl
    by entities markers k l = refl
    by entities allocator k l = refl
    by entities (queue q) k l = refl
    by entities (parts kind) k l = apart-kind 0 0 refl refl (bytes_eq kind pos_name)
    by markers entities k l = refl
    by markers markers k l = refl
    by markers allocator k l = refl
    by markers (queue q) k l = refl
    by markers (parts kind) k l = apart-kind 1 0 refl refl (bytes_eq kind pos_name)
    by allocator entities k l = refl
    by allocator markers k l = refl
    by allocator allocator k l = refl
    by allocator (queue q) k l = refl
    by allocator (parts kind) k l = apart-kind 2 0 refl refl (bytes_eq kind pos_name)
    by (queue p) entities k l = refl
    by (queue p) markers k l = refl
    by (queue p) allocator k l = refl
    by (queue p) (queue q) k l = unsigned_tied p q
    by (queue p) (parts kind) k l = apart-kind 3 p refl refl (bytes_eq kind pos_name)
    by (parts kind) entities k l = kind-apart 0 0 refl refl (bytes_eq kind pos_name)
    by (parts kind) markers k l = kind-apart 1 0 refl refl (bytes_eq kind pos_name)
    by (parts kind) allocator k l = kind-apart 2 0 refl refl (bytes_eq kind pos_name)
    by (parts kind) (queue q) k l = kind-apart 3 q refl refl (bytes_eq kind pos_name)
    by (parts kind) (parts other) k l = kinds-apart kind other k l (bytes_eq kind pos_name) refl (bytes_eq other pos_name) refl
