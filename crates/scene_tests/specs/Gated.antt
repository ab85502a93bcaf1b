-- Rules with two gates over positions and velocities: each looks at a kind of its own.
use Rattle.std.specs.Prelude.{◌≡◌, false, [], ◌∷◌, codes, if◌then◌else◌}
use Rattle.std.specs.Str.{bytes_eq}
use Rattle.std.specs.String.{string_bytes}
use Rattle.shred_stages.specs.declared.stop.Stop.{Stop}
use Rattle.shred_stages.specs.declared.stop.Stop.TheVariants as stop
use Rattle.scene_model.specs.Parts.{Json, Name}
use Rattle.scene_model.specs.Rulebook.{Access, Book, Fragment, Outcome, leaves, refuses, fills, unknown}
use Rattle.scene_cases.specs.Drifting.{pos_name, vel_name, drifting_book}
use Rattle.scene_tests.specs.Watched.{configured}
use Rattle.scene_tests.specs.declared.whole_runs.gated.Place.{Place}
use Rattle.scene_tests.specs.declared.whole_runs.gated.Place.TheVariants.{First, Second}

-- the names of the gates
abbrev pub first_name : Name
first_name = codes "first"

abbrev pub second_name : Name
second_name = codes "second"

abbrev pub place_name : Place → Name
place_name First = first_name
place_name Second = second_name

-- one looks at positions, the other at velocities
abbrev pub place_access : Place → Access
place_access First = record { reads = pos_name ∷ []; writes = []; read_globals = []; written_globals = []; reserved = false }
place_access Second = record { reads = vel_name ∷ []; writes = []; read_globals = []; written_globals = []; reserved = false }

-- a gate leaves all as it is and asks for nothing, or refuses with this text
abbrev pub Passes : Fragment → Outcome → Type 0
Passes seen (leaves left commands) = (left ≡ seen) × (commands ≡ [])
Passes seen (refuses text) = text ≡ codes "alone"
Passes seen (fills commands) = ⊥

-- the kinds of parts are those of drift
abbrev pub gated_book : Book
gated_book = record {
  part_names = drifting_book.part_names;
  owning = drifting_book.owning;
  global_names = drifting_book.global_names;
  read_part = drifting_book.read_part;
  read_global = drifting_book.read_global;
  admits = drifting_book.admits;
  system = λ kind config. if bytes_eq kind first_name then configured (place_access First) config else if bytes_eq kind second_name then configured (place_access Second) config else unknown;
  meets = λ kind config. Passes;
}

-- a gate does what the rules say of its kind
pub law-passes : (place : Place) (f : Fragment) (o : Outcome) (config : Json) → Passes f o → gated_book.meets (place_name place) config f o
law-passes First f o config did = did
law-passes Second f o config did = did

-- a stop says that nobody came, or that memory was wanting
abbrev pub IsAlone : Stop → Type 0
IsAlone (stop.Refused text) = string_bytes text ≡ codes "alone"
IsAlone stop.Memory = Unit {0}
IsAlone stop.Full = ⊥
