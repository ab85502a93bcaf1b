-- Lists of parts, with nothing behind them.
use Rattle.std.proofs.Common.{◌≡◌, ◌==◌, ℕ, true, false, List, [], ◌∷◌, ◌++◌, length, map, Option, Some, Result, Err, option_map, unwrap_or, refl, sym, ap, ◌∙◌, append-nil}
use Rattle.std.proofs.lemmas.List.{length-map}
use Rattle.serde_json.specs.Data.{Data, Items}
use Rattle.serde_json.specs.Find.{as_array}
use Rattle.serde_json.specs.View.{view, items_of}
use Rattle.serde_json.specs.declared.value.Value.{Value}
use Rattle.specs_saveload.specs.Entities.{are_parts, data_of, is_end, parts_place}
use Rattle.specs_saveload.specs.EntityLemmas.{items-back}
use Rattle.specs_saveload.specs.Parts.{either_place}
use Rattle.specs_saveload.specs.Places.{whole}
use Rattle.specs_saveload.specs.declared.form.Place.{Place}
use Rattle.specs_saveload.specs.declared.form.FormError.{FormError}
use Rattle.specs_saveload.specs.declared.form.FormError.TheVariants as refusal
use Rattle.specs_saveload.proofs.ListLemmas.{not-zero}

module _ (rest_of : List Data → Option (List Data)) where
  -- where parts are read from a list, it is told by what follows them
  pub parts-of : (ds : List Data) (left : Option (List Data)) → rest_of ds ≡ left → are_parts rest_of (items_of ds) ≡ unwrap_or (option_map is_end left) false
  parts-of ds left is =
      ap (λ es. unwrap_or (option_map is_end (rest_of es)) false) (items-back ds) ∙ ap (λ o. unwrap_or (option_map is_end o) false) is

  -- parts that were written, with nothing behind them
  pub parts-written : (ds : List Data) → rest_of (ds ++ []) ≡ Some [] → are_parts rest_of (items_of ds) ≡ true
  parts-written ds is = parts-of ds (Some []) (ap rest_of (sym (append-nil ds)) ∙ is)

-- whether values follow
pub ended : (values : List Value) → (length values == 0) ≡ is_end (map view values)
ended [] = refl
ended (v ∷ rest) = not-zero (length rest)

module _ (rest_of : List Data → Option (List Data)) (place_in : ℕ → List Data → Place) where
  abbrev among : List Data → Place
  among ds = either_place (rest_of ds) (place_in (length ds) ds) (λ left. whole)

  -- the place in a list of parts is told by what follows them
  pub place-of : (ds : List Data) (left : Option (List Data)) → rest_of ds ≡ left → (d : Data) → Some (items_of ds) ≡ as_array d → parts_place rest_of place_in d ≡ either_place left (place_in (length ds) ds) (λ left. whole)
  place-of ds left is d list =
      ap (λ (o : Option Items). unwrap_or (option_map (λ items. among (data_of items)) o) whole) (sym list)
      ∙ (ap among (items-back ds) ∙ ap (λ o. either_place o (place_in (length ds) ds) (λ left. whole)) is)

-- the place in values is that in their data
pub place-shown : (place_in : ℕ → List Data → Place) (slice values : List Value) (total : ℕ) → slice ≡ values → total ≡ length values → place_in total (map view slice) ≡ place_in (length (map view values)) (map view values)
place-shown place_in slice values total same all =
    ap (λ l. place_in total (map view l)) same ∙ ap (λ n. place_in n (map view values)) (all ∙ sym (length-map values view))

-- the refusal of a JSON for what it is itself tells no other place
pub is-whole : {A : Type 0} (error : FormError) (place : Place) → error ≡ refusal.Shape whole → ◌≡◌ {A = Result A FormError} (Err error) (Err (refusal.Shape place)) → place ≡ whole
is-whole error place is refused = cc
