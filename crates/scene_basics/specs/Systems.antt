-- The systems `drift`, `pull`, `decay`, `reap` and `bud`, and with them all that the rules mean.
use Rattle.std.specs.Prelude.{negsuc, false, [], ◌∷◌, Option, Some, None, is_some, if◌then◌else◌}
use Rattle.std.specs.Str.{bytes_eq}
use Rattle.serde_json.specs.Find.{as_null}
use Rattle.scene_model.specs.Parts.{Json, Name}
use Rattle.scene_model.specs.Rulebook.{Access, Facts, Described, misshapen, unknown, known, Fragment, Outcome, Book}
use Rattle.scene_basics.specs.declared.data.BasicSystem.{BasicSystem}
use Rattle.scene_basics.specs.declared.data.BasicSystem.TheVariants.{Drift, Pull, Decay, Reap, Bud}
use Rattle.scene_basics.specs.declared.data.Ask.TheVariants.{Deaths, Births}
use Rattle.scene_basics.specs.Names.{hp_kind, pos_kind, vel_kind, g_name, drift_kind, pull_kind, decay_kind, reap_kind, bud_kind, part_kinds, owns_holder}
use Rattle.scene_basics.specs.Numbers.{read_part, read_global, admits}
use Rattle.scene_basics.specs.Gains.{Gaining, number_at, global_number}
use Rattle.scene_basics.specs.Asks.{Asking}

-- the kind of a system
abbrev pub kind_of : BasicSystem → Name
kind_of Drift = drift_kind
kind_of Pull = pull_kind
kind_of Decay = decay_kind
kind_of Reap = reap_kind
kind_of Bud = bud_kind

-- the system of a kind
abbrev pub system_named : Name → Option BasicSystem
system_named kind = if bytes_eq kind drift_kind then Some Drift else (if bytes_eq kind pull_kind then Some Pull else (if bytes_eq kind decay_kind then Some Decay else (if bytes_eq kind reap_kind then Some Reap else (if bytes_eq kind bud_kind then Some Bud else None))))

-- what a system reads and writes
abbrev pub declared_access : BasicSystem → Access
declared_access Drift = record { reads = vel_kind ∷ []; writes = pos_kind ∷ []; read_globals = []; written_globals = []; reserved = false }
declared_access Pull = record { reads = []; writes = vel_kind ∷ []; read_globals = g_name ∷ []; written_globals = []; reserved = false }
declared_access Decay = record { reads = []; writes = hp_kind ∷ []; read_globals = []; written_globals = []; reserved = false }
declared_access Reap = record { reads = hp_kind ∷ []; writes = []; read_globals = []; written_globals = []; reserved = false }
declared_access Bud = record { reads = hp_kind ∷ pos_kind ∷ []; writes = []; read_globals = []; written_globals = []; reserved = false }

-- what the rules know of a system: all have the time `Average`
abbrev pub facts_of : BasicSystem → Facts
facts_of system = record { access = declared_access system; time = 3 }

-- a system with a configuration, which is null
abbrev pub configured : Option BasicSystem → Json → Described
configured None config = unknown
configured (Some system) config = if is_some (as_null config) then known (facts_of system) else misshapen

-- `drift`: pos gains vel where both are
abbrev pub Drifts : Fragment → Outcome → Type 0
Drifts old outcome = Gaining pos_kind (λ id. number_at old vel_kind id) old outcome

-- `pull`: vel gains g
abbrev pub Pulls : Fragment → Outcome → Type 0
Pulls old outcome = Gaining vel_kind (λ id. global_number old g_name) old outcome

-- `decay`: hp loses 1
abbrev pub Decays : Fragment → Outcome → Type 0
Decays old outcome = Gaining hp_kind (λ id. Some (negsuc 0)) old outcome

-- `reap`: the death of each id whose hp is at most 0
abbrev pub Reaps : Fragment → Outcome → Type 0
Reaps old outcome = Asking Deaths old outcome

-- `bud`: for each id whose hp is at least 10 and which has a pos, the birth of an entity with hp 1 and that pos
abbrev pub Buds : Fragment → Outcome → Type 0
Buds old outcome = Asking Births old outcome

-- what a system may make of what it is lent
abbrev pub Makes : Option BasicSystem → Fragment → Outcome → Type 0
Makes None old outcome = ⊥
Makes (Some Drift) old outcome = Drifts old outcome
Makes (Some Pull) old outcome = Pulls old outcome
Makes (Some Decay) old outcome = Decays old outcome
Makes (Some Reap) old outcome = Reaps old outcome
Makes (Some Bud) old outcome = Buds old outcome

-- what the program's rules mean
abbrev pub basics : Book
basics = record {
  part_names = part_kinds;
  owning = owns_holder;
  global_names = g_name ∷ [];
  read_part = read_part;
  read_global = read_global;
  admits = admits;
  system = λ kind config. configured (system_named kind) config;
  meets = λ kind config old outcome. Makes (system_named kind) old outcome;
}
