-- Parts that are whole numbers, and parts that are references.
use Rattle.std.specs.Prelude.{ℕ, ◌^◌, nat_lt, ℤ, pos, negsuc, Bool, true, false, ◌==◌, ◌&&◌, List, [], ◌∷◌, Option, Some, None, is_some, option_map, option_and_then, if◌then◌else◌}
use Rattle.serde_json.specs.Data.{unsigned, number}
use Rattle.serde_json.specs.Find.{as_number, as_u64, as_integer, of_integer}
use Rattle.scene_model.specs.Parts.{Json, Name, Ref, living, gone, Part, is_among}
use Rattle.scene_basics.specs.declared.data.Datum.{Datum}
use Rattle.scene_basics.specs.declared.data.Datum.TheVariants.{Whole, Owner}
use Rattle.scene_basics.specs.Names.{number_kinds, reference_kinds}

-- what is written for a whole number
abbrev pub json_of : ℤ → Json
json_of whole = number (of_integer whole)

-- a whole number as a part
abbrev pub counting : ℤ → Part
counting whole = record { json = json_of whole; refs = [] }

-- a reference to an id as a part
abbrev pub referring : ℕ → Part
referring id = record { json = number (unsigned id); refs = living id ∷ [] }

-- the part that a datum is
abbrev pub part_of : Datum → Part
part_of (Whole whole) = counting whole
part_of (Owner id) = referring id

-- the whole number that a JSON is, of any size
abbrev pub whole_in : Json → Option ℤ
whole_in json = option_and_then as_integer (as_number json)

-- whether a whole number is one of 64 signed bits
abbrev pub is_signed : ℤ → Bool
is_signed (pos n) = nat_lt n (2 ^ 63)
is_signed (negsuc n) = nat_lt n (2 ^ 63)

-- a whole number, if it is one of 64 signed bits
abbrev pub if_signed : ℤ → Option ℤ
if_signed whole = if is_signed whole then Some whole else None

-- the whole number of 64 signed bits that a JSON is
abbrev pub signed_in : Json → Option ℤ
signed_in json = option_and_then if_signed (whole_in json)

-- the id that a JSON is
abbrev pub id_in : Json → Option ℕ
id_in json = option_and_then as_u64 (as_number json)

-- the whole number that a part is, which refers to nothing
abbrev pub number_in : Json → List Ref → Option ℤ
number_in json [] = whole_in json
number_in json (ref ∷ refs) = None

abbrev pub number_of : Part → Option ℤ
number_of part = number_in part.json part.refs

-- whether references are one, to this id
abbrev pub refers_once : Option ℕ → List Ref → Bool
refers_once None refs = false
refers_once (Some id) [] = false
refers_once (Some id) (gone ∷ refs) = false
refers_once (Some id) (living other ∷ []) = other == id
refers_once (Some id) (living other ∷ more ∷ refs) = false

-- whether there are no references
abbrev pub refers_never : List Ref → Bool
refers_never [] = true
refers_never (ref ∷ refs) = false

-- the part that a JSON is under a kind
abbrev pub read_part : Name → Json → Option Part
read_part kind json = if is_among kind reference_kinds then option_map referring (id_in json) else (if is_among kind number_kinds then option_map counting (signed_in json) else None)

-- the value that a JSON is for the global
abbrev pub read_global : Name → Json → Option Json
read_global name json = option_map json_of (signed_in json)

-- whether a part may stand under a kind: one reference under `bond` and `owner`, a number of 64 signed bits under the other three
abbrev pub admits : Name → Part → Bool
admits kind part = if is_among kind reference_kinds then refers_once (id_in part.json) part.refs else (is_among kind number_kinds && (is_some (signed_in part.json) && refers_never part.refs))
