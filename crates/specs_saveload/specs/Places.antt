-- Where a JSON that is refused has another shape.
use Rattle.std.specs.Prelude.{ℕ, suc, ◌≡◌, Bool, true, false, if◌then◌else◌, List, [], ◌∷◌, All, take, slice_get, Some, None, unwrap_or, IsSomeAnd, Result, IsErrOf}
use Rattle.serde_json.specs.Data.{Data, Items, no_items, item}
use Rattle.serde_json.specs.Find.{as_array}
use Rattle.specs_saveload.specs.Plain.{is_list}
use Rattle.specs_saveload.specs.declared.form.Key.{Key}
use Rattle.specs_saveload.specs.declared.form.Place.{Place}
use Rattle.specs_saveload.specs.declared.form.FormError.{FormError}
use Rattle.specs_saveload.specs.declared.form.FormError.TheVariants.{Shape, Memory}

-- what is said of the place, where a JSON is refused for its shape
abbrev pub IfShape : {T : Type 0} → Result T FormError → (Place → Type 0) → Type 0
IfShape result holds = (place : Place) → IsErrOf result (Shape place) → holds place

-- the JSON itself
abbrev pub whole : Place
whole = record { number = None; key = None }

-- the place in a list whose item with that number has this one
abbrev pub at_number : ℕ → Place → Place
at_number number place = record { number = Some number; key = place.key }

-- the place in an object that has this one under that key
abbrev pub at_key : Key → Place → Place
at_key key place = record { number = place.number; key = Some (unwrap_or place.key key) }

-- a refusal whose place is told from further out
abbrev pub refused_at : (Place → Place) → FormError → FormError
refused_at outer (Shape place) = Shape (outer place)
refused_at outer Memory = Memory

-- the place of the first of some items that isn't a form, of those from a number on, each with its test and its places
abbrev pub first_place : ℕ → List ((Data → Bool) × (Data → Place)) → Items → Place
first_place number [] ds = whole
first_place number (reads ∷ others) no_items = whole
first_place number (reads ∷ others) (item d ds) = if reads.0 d then first_place (suc number) others ds else at_number number (reads.1 d)

-- in a list that is as it has to be, else the JSON itself
abbrev pub place_among : (Items → Bool) → List ((Data → Bool) × (Data → Place)) → Data → Place
place_among fits all d = if is_list fits d then first_place 0 all (unwrap_or (as_array d) no_items) else whole

-- the item with that number is the first that isn't a form, and the place is one in it
pub record IsFirst (is_form : Data → Bool) (place_in : Data → Place) (ds : List Data) (number : ℕ) (place : Place) : Type 0 where
  pub before : All (λ d. is_form d ≡ true) (take number ds)
  pub there : IsSomeAnd (slice_get ds number) (λ d. (is_form d ≡ false) × (place ≡ at_number number (place_in d)))
