-- The names of the parts, of the global and of the systems, by their bytes.
use Rattle.std.specs.Prelude.{codes, Bool, List, [], ◌∷◌}
use Rattle.std.specs.Str.{bytes_eq}
use Rattle.scene_model.specs.Parts.{Name}

abbrev pub bond_kind : Name
bond_kind = codes "bond"

abbrev pub hp_kind : Name
hp_kind = codes "hp"

abbrev pub owner_kind : Name
owner_kind = codes "owner"

abbrev pub pos_kind : Name
pos_kind = codes "pos"

abbrev pub vel_kind : Name
vel_kind = codes "vel"

abbrev pub g_name : Name
g_name = codes "g"

abbrev pub drift_kind : Name
drift_kind = codes "drift"

abbrev pub pull_kind : Name
pull_kind = codes "pull"

abbrev pub decay_kind : Name
decay_kind = codes "decay"

abbrev pub reap_kind : Name
reap_kind = codes "reap"

abbrev pub bud_kind : Name
bud_kind = codes "bud"

-- the kinds of parts, ascending
abbrev pub part_kinds : List Name
part_kinds = bond_kind ∷ hp_kind ∷ owner_kind ∷ pos_kind ∷ vel_kind ∷ []

-- the kinds whose parts are numbers
abbrev pub number_kinds : List Name
number_kinds = hp_kind ∷ pos_kind ∷ vel_kind ∷ []

-- the kinds whose parts are references
abbrev pub reference_kinds : List Name
reference_kinds = bond_kind ∷ owner_kind ∷ []

-- whether references of a kind own their holder
abbrev pub owns_holder : Name → Bool
owns_holder kind = bytes_eq kind bond_kind

-- the text of each refusal
abbrev pub overflow : Name
overflow = codes "overflow"
