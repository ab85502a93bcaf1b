-- The names of the rules, and which parts data are, as tools/values writes them from values.list.
use Rattle.std.specs.Prelude.{Bool, false, ◌||◌, List, [], ◌∷◌, codes}
use Rattle.std.specs.Str.{bytes_eq}
use Rattle.scene_model.specs.Parts.{Name, Part}
use Rattle.scene_world.specs.Numbers.{counting, referring}
use Rattle.duel.specs.declared.data.Datum.{Datum}
use Rattle.duel.specs.declared.data.Datum.TheVariants.{Number, Target}

-- the kinds of parts, the globals and the kinds of systems
abbrev pub attack_kind : Name
attack_kind = codes "attack"

abbrev pub hp_kind : Name
hp_kind = codes "hp"

abbrev pub target_kind : Name
target_kind = codes "target"

abbrev pub turn_name : Name
turn_name = codes "turn"

abbrev pub strike_kind : Name
strike_kind = codes "strike"

abbrev pub bury_kind : Name
bury_kind = codes "bury"

abbrev pub part_kinds : List Name
part_kinds = attack_kind ∷ hp_kind ∷ target_kind ∷ []

abbrev pub all_names : List Name
all_names = turn_name ∷ []

-- whether the parts of a kind are references
abbrev pub refers : Name → Bool
refers kind = bytes_eq kind target_kind || false

-- the part that a datum is
abbrev pub part_of : Datum → Part
part_of (Number n) = counting n
part_of (Target id) = referring id
