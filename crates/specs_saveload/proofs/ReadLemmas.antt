-- Items read one after the other.
use Rattle.std.proofs.Common.{◌≡◌, ◌+◌, ◌<◌, ℕ, suc, Bool, true, false, cond, List, [], ◌∷◌, ◌++◌, All, length, map, take, get_or, Some, option_map, IsSomeAnd, MatchOption, Result, Err, sym, ap, ◌∙◌, subst, arith}
use Rattle.std.proofs.Math.Seq.{take-suc}
use Rattle.std.proofs.lemmas.List.{map-append, take-map}
use Rattle.std.proofs.lemmas.List.Elements.{All-append, All-cons, All-nil}
use Rattle.std.proofs.lemmas.Option.{slice_get-get_or, slice_get-map}
use Rattle.serde_json.specs.Data.{Data}
use Rattle.serde_json.specs.Find.{as_array}
use Rattle.serde_json.specs.View.{view, items_of}
use Rattle.serde_json.specs.declared.value.Value.{Value}
use Rattle.specs_saveload.specs.Entities.{data_of}
use Rattle.specs_saveload.specs.EntityLemmas.{items-back}
use Rattle.specs_saveload.specs.Places.{IsFirst, at_number, whole}
use Rattle.specs_saveload.specs.declared.form.Place.{Place}

module _ (items : List Value) (number : ℕ) (this : Value) (inside : number < length items) (is : this ≡ get_or items number this) where
  -- the items before the next number are those before this one, and this one
  items-next : map view (take (number + 1) items) ≡ map view (take number items) ++ (view this ∷ [])
  items-next =
      let next : number + 1 ≡ suc number = omega arith in
      ap (map view) (ap (λ n. take n items) next ∙ (take-suc items number this inside ∙ ap (λ v. take number items ++ v ∷ []) (sym is)))
      ∙ map-append view (take number items) (this ∷ [])

  -- what is read of one more
  pub read-next : {T : Type 0} (form : T → Data) (values after : List T) (value : T) (ok : Bool) → map form values ≡ map view (take number items) → form value ≡ view this → after ≡ cond ok (values ++ value ∷ []) values → ok ≡ true → map form after ≡ map view (take (number + 1) items)
  read-next form values after value ok read alike went fine =
      ap (map form) (went ∙ ap (λ b. cond b (values ++ value ∷ []) values) fine)
      ∙ (map-append form values (value ∷ [])
      ∙ (ap (λ l. l ++ (form value ∷ [])) read ∙ (ap (λ d. map view (take number items) ++ (d ∷ [])) alike ∙ sym items-next)))

  -- one more is a form
  pub forms-next : (is_form : Data → Bool) → All (λ d. is_form d ≡ true) (map view (take number items)) → is_form (view this) ≡ true → All (λ d. is_form d ≡ true) (map view (take (number + 1) items))
  forms-next is_form forms one =
      subst (All (λ d. is_form d ≡ true)) (sym items-next) (All-append (λ d. is_form d ≡ true) (map view (take number items)) (view this ∷ []) forms (All-cons (λ d. is_form d ≡ true) (view this) [] one (All-nil (λ d. is_form d ≡ true))))

  -- this one is the first that is no form
  pub first-refused : (is_form : Data → Bool) (place_in : Data → Place) (place : Place) → All (λ d. is_form d ≡ true) (map view (take number items)) → is_form (view this) ≡ false → place ≡ at_number number (place_in (view this)) → IsFirst is_form place_in (map view items) number place
  first-refused is_form place_in place forms wrong told =
      let here = slice_get-map view items number ∙ ap (option_map view) (slice_get-get_or items number this inside ∙ ap Some (sym is)) in
      record {
        before = subst (All (λ d. is_form d ≡ true)) (sym (take-map view number items)) forms;
        there = subst (λ found. IsSomeAnd found (λ d. (is_form d ≡ false) × (place ≡ at_number number (place_in d)))) (sym here) (wrong, told);
      }

-- what is read of one more is a value
pub fits-next : {T : Type 0} (fits : T → Type 0) (values after : List T) (value : T) (ok : Bool) → All fits values → fits value → after ≡ cond ok (values ++ value ∷ []) values → ok ≡ true → All fits after
fits-next fits values after value ok all one went fine =
    subst (All fits) (sym (went ∙ ap (λ b. cond b (values ++ value ∷ []) values) fine)) (All-append fits values (value ∷ []) all (All-cons fits value [] one (All-nil fits)))

-- a refusal is that of another call with the same error
pub same-refusal : {A B E : Type 0} (error other : E) → ◌≡◌ {A = Result A E} (Err error) (Err other) → ◌≡◌ {A = Result B E} (Err error) (Err other)
same-refusal error other is = let same : error ≡ other = cc in ap Err same

-- the first of a list's values that isn't a form is the first of the list
pub first-of-list : (is_form : Data → Bool) (place_in : Data → Place) (d : Data) (slice values : List Value) (place : Place) → Some (items_of (map view values)) ≡ as_array d → slice ≡ values → (number : ℕ) × IsFirst is_form place_in (map view slice) number place
    → MatchOption (as_array d) (place ≡ whole) (λ items. (number : ℕ) × IsFirst is_form place_in (data_of items) number place)
first-of-list is_form place_in d slice values place list same first =
    subst (λ o. MatchOption o (place ≡ whole) (λ items. (number : ℕ) × IsFirst is_form place_in (data_of items) number place)) list
    (subst (λ ds. (number : ℕ) × IsFirst is_form place_in ds number place) (ap (map view) same ∙ sym (items-back (map view values))) first)
