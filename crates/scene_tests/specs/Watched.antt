-- Rules with four systems over positions and velocities: drift, one that watches, one that halts the frame, and one that would write entities.
use Rattle.std.specs.Prelude.{◌≡◌, Bool, true, false, [], ◌∷◌, codes, is_some, if◌then◌else◌}
use Rattle.std.specs.Str.{bytes_eq}
use Rattle.std.specs.String.{string_bytes}
use Rattle.serde_json.specs.Find.{as_null}
use Rattle.shred_stages.specs.declared.stop.Stop.{Stop}
use Rattle.shred_stages.specs.declared.stop.Stop.TheVariants as stop
use Rattle.scene_model.specs.Parts.{Json, Name}
use Rattle.scene_model.specs.Rulebook.{Access, Book, Fragment, Outcome, leaves, refuses, fills, Described, known, unknown, misshapen}
use Rattle.scene_cases.specs.Drifting.{vel_name, drift_name, drift_access, drifting_book, Drifts}
use Rattle.scene_tests.specs.declared.whole_runs.watched.Mover.{Mover}
use Rattle.scene_tests.specs.declared.whole_runs.watched.Mover.TheVariants.{Drift, Watch, Halt, Found}

-- the names of the other kinds of systems
abbrev pub watch_name : Name
watch_name = codes "watch"

abbrev pub halt_name : Name
halt_name = codes "halt"

abbrev pub found_name : Name
found_name = codes "found"

abbrev pub mover_name : Mover → Name
mover_name Drift = drift_name
mover_name Watch = watch_name
mover_name Halt = halt_name
mover_name Found = found_name

-- two of them read velocities, and write nothing
abbrev pub watch_access : Access
watch_access = record { reads = vel_name ∷ []; writes = []; read_globals = []; written_globals = []; reserved = false }

-- who would found declares a write to entities, and nothing else
abbrev pub found_access : Access
found_access = record { reads = []; writes = []; read_globals = []; written_globals = []; reserved = true }

abbrev pub mover_access : Mover → Access
mover_access Drift = drift_access
mover_access Watch = watch_access
mover_access Halt = watch_access
mover_access Found = found_access

-- who watches leaves all as it is, and asks for nothing
abbrev pub Rests : Fragment → Outcome → Type 0
Rests seen (leaves left commands) = (left ≡ seen) × (commands ≡ [])
Rests seen (refuses text) = ⊥
Rests seen (fills commands) = ⊥

-- who halts refuses with this text
abbrev pub Halts : Fragment → Outcome → Type 0
Halts seen (leaves left commands) = ⊥
Halts seen (refuses text) = text ≡ codes "halted"
Halts seen (fills commands) = ⊥

abbrev pub mover_does : Mover → Fragment → Outcome → Type 0
mover_does Drift = Drifts
mover_does Watch = Rests
mover_does Halt = Halts
mover_does Found = Rests

-- what a system may do by whether its kind is that of drift, else of who watches, else of who halts
abbrev pub does_by : Bool → Bool → Bool → Fragment → Outcome → Type 0
does_by true watches halts = Drifts
does_by false true halts = Rests
does_by false false true = Halts
does_by false false false = Rests

-- what is said of a system that declares this, whose configuration is null
abbrev pub configured : Access → Json → Described
configured access config = if is_some (as_null config) then known (record { access = access; time = 3 }) else misshapen

-- the kinds of parts are those of drift
abbrev pub watched_book : Book
watched_book = record {
  part_names = drifting_book.part_names;
  owning = drifting_book.owning;
  global_names = drifting_book.global_names;
  read_part = drifting_book.read_part;
  read_global = drifting_book.read_global;
  admits = drifting_book.admits;
  system = λ kind config. if bytes_eq kind drift_name then configured drift_access config else if bytes_eq kind watch_name then configured watch_access config else if bytes_eq kind halt_name then configured watch_access config else if bytes_eq kind found_name then configured found_access config else unknown;
  meets = λ kind config. does_by (bytes_eq kind drift_name) (bytes_eq kind watch_name) (bytes_eq kind halt_name);
}

-- a system does what the rules say of its kind
pub law-does : (system : Mover) (f : Fragment) (o : Outcome) (config : Json) → mover_does system f o → watched_book.meets (mover_name system) config f o
law-does Drift f o config did = did
law-does Watch f o config did = did
law-does Halt f o config did = did
law-does Found f o config did = did

-- a stop says that the frame is halted, or that memory was wanting
abbrev pub IsHalt : Stop → Type 0
IsHalt (stop.Refused text) = string_bytes text ≡ codes "halted"
IsHalt stop.Memory = Unit {0}
IsHalt stop.Full = ⊥
