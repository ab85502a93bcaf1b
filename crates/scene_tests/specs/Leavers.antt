-- What the rules mean whose one system takes hp out and sets the global: parts and the global are those of the program.
use Rattle.std.specs.Prelude.{◌≡◌, codes, ℕ, ℤ, pos, Bool, true, false, [], ◌∷◌, Option, Some, None, if◌then◌else◌}
use Rattle.std.specs.Str.{bytes_eq}
use Rattle.serde_json.specs.Find.{as_bool}
use Rattle.scene_model.specs.Parts.{Name}
use Rattle.scene_model.specs.Rulebook.{Facts, Described, misshapen, unknown, known, Fragment, Outcome, leaves, refuses, fills, Book}
use Rattle.scene_model.specs.Scenes.{lives}
use Rattle.scene_basics.specs.Names.{hp_kind, g_name, part_kinds, owns_holder}
use Rattle.scene_basics.specs.Numbers.{json_of, read_part, read_global, admits}

abbrev pub leave_kind : Name
leave_kind = codes "leave"

-- the value that the global is given
abbrev pub set_value : ℤ
set_value = pos 7

-- the hp of each id is gone, and parts of other kinds and of strangers stay
pub record HpGone (old new : Fragment) : Type 0 where
  pub gone : (id : ℕ) → lives id old.ids ≡ true → new.part id hp_kind ≡ None
  pub strangers : (id : ℕ) → lives id old.ids ≡ false → new.part id hp_kind ≡ old.part id hp_kind
  pub others : (id : ℕ) (other : Name) → bytes_eq other hp_kind ≡ false → new.part id other ≡ old.part id other

-- hp is gone if it was to go, and else each part stays
abbrev pub HpGoneIf : Bool → Fragment → Fragment → Type 0
HpGoneIf true old new = HpGone old new
HpGoneIf false old new = (id : ℕ) (kind : Name) → new.part id kind ≡ old.part id kind

-- the global has its new value, and others stay
pub record GlobalSet (old new : Fragment) : Type 0 where
  pub value : new.global g_name ≡ Some (json_of set_value)
  pub others : (name : Name) → bytes_eq name g_name ≡ false → new.global name ≡ old.global name

-- ids stay, hp goes or stays, and the global is set
pub record Left (hp_goes : Bool) (old new : Fragment) : Type 0 where
  pub ids : new.ids ≡ old.ids
  pub parts : HpGoneIf hp_goes old new
  pub global : GlobalSet old new

-- what `leave` may make of what it is lent: it leaves that without a command, and refuses nothing
abbrev pub Makes : Option Bool → Fragment → Outcome → Type 0
Makes None old outcome = ⊥
Makes (Some hp_goes) old (leaves new commands) = Left hp_goes old new × (commands ≡ [])
Makes (Some hp_goes) old (refuses text) = ⊥
Makes (Some hp_goes) old (fills commands) = ⊥

-- what is known of `leave`: it writes the global, and hp if that is to go
abbrev pub leaving : Bool → Facts
leaving hp_goes = record { access = record { reads = []; writes = if hp_goes then hp_kind ∷ [] else []; read_globals = []; written_globals = g_name ∷ []; reserved = false }; time = 3 }

-- `leave` with a configuration, which says whether hp is to go
abbrev pub configured : Option Bool → Described
configured None = misshapen
configured (Some hp_goes) = known (leaving hp_goes)

abbrev pub leavers : Book
leavers = record {
  part_names = part_kinds;
  owning = owns_holder;
  global_names = g_name ∷ [];
  read_part = read_part;
  read_global = read_global;
  admits = admits;
  system = λ kind config. if bytes_eq kind leave_kind then configured (as_bool config) else unknown;
  meets = λ _ config old outcome. Makes (as_bool config) old outcome;
}
