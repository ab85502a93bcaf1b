-- The JSON forms of parts that may be absent, one after the other.
use Rattle.std.specs.Prelude.{ℕ, ◌-◌, Bool, true, false, ◌||◌, List, [], ◌∷◌, length, Option, Some, None, if◌then◌else◌}
use Rattle.serde_json.specs.Data.{Data, null, boolean, number, string, array, object}
use Rattle.specs_saveload.specs.Places.{at_number, whole}
use Rattle.specs_saveload.specs.declared.form.Place.{Place}

abbrev pub is_null : Data → Bool
is_null null = true
is_null (boolean b) = false
is_null (number n) = false
is_null (string s) = false
is_null (array ds) = false
is_null (object ms) = false

-- the form of a part, null where it is absent
abbrev pub part_form : {T : Type 0} → (T → Data) → Option T → List Data
part_form form None = null ∷ []
part_form form (Some part) = form part ∷ []

-- what follows a part in a list, which begins with null or with its form
abbrev pub part_rest : (Data → Bool) → List Data → Option (List Data)
part_rest is_form [] = None
part_rest is_form (d ∷ ds) = if is_null d || is_form d then Some ds else None

-- the place in a list of so many at whose end a part stands that is none; the list itself, where it has no more
abbrev pub part_place : (Data → Place) → ℕ → List Data → Place
part_place place_in total [] = whole
part_place place_in total (d ∷ ds) = at_number (total - length (d ∷ ds)) (place_in d)

-- the place in the one where nothing follows it, else that in the other, which follows
abbrev pub either_place : Option (List Data) → Place → (List Data → Place) → Place
either_place None one other = one
either_place (Some left) one other = other left
