-- Lists of JSON values by their lengths.
use Rattle.std.proofs.Common.{◌≡◌, ℕ, suc, ◌==◌, rules, Bool, false, List, [], ◌∷◌, length, Some, refl, sym, ap}
use Rattle.serde_json.specs.Data.{Data, null, boolean, number, string, array, object, Items}
use Rattle.serde_json.specs.Find.{as_array}
use Rattle.serde_json.specs.View.{items_view}
use Rattle.serde_json.specs.declared.value.Value.{Value}
use Rattle.specs_saveload.specs.Plain.{is_list, is_none, is_one, is_two, is_three, is_four}

pub not-zero : (n : ℕ) → (suc n == 0) ≡ false
not-zero n = search rules

-- a test of a list is one of its items
pub list-test : (test : Items → Bool) (d : Data) (ds : Items) → Some ds ≡ as_array d → is_list test d ≡ test ds
list-test test null ds is = cc
list-test test (boolean b) ds is = cc
list-test test (number n) ds is = cc
list-test test (string s) ds is = cc
list-test test (array es) ds is = let same : ds ≡ es = cc in ap test (sym same)
list-test test (object ms) ds is = cc

pub not-one : (values : List Value) → (length values ≡ 1 → ⊥) → is_one (items_view values) ≡ false
not-one [] differs = refl
not-one (v ∷ []) differs = absurd (differs refl)
not-one (v ∷ w ∷ rest) differs = refl

pub not-two : (values : List Value) → (length values ≡ 2 → ⊥) → is_two (items_view values) ≡ false
not-two [] differs = refl
not-two (v ∷ []) differs = refl
not-two (v ∷ w ∷ []) differs = absurd (differs refl)
not-two (v ∷ w ∷ x ∷ rest) differs = refl

pub not-three : (values : List Value) → (length values ≡ 3 → ⊥) → is_three (items_view values) ≡ false
not-three [] differs = refl
not-three (v ∷ []) differs = refl
not-three (v ∷ w ∷ []) differs = refl
not-three (v ∷ w ∷ x ∷ []) differs = absurd (differs refl)
not-three (v ∷ w ∷ x ∷ y ∷ rest) differs = refl

pub not-four : (values : List Value) → (length values ≡ 4 → ⊥) → is_four (items_view values) ≡ false
not-four [] differs = refl
not-four (v ∷ []) differs = refl
not-four (v ∷ w ∷ []) differs = refl
not-four (v ∷ w ∷ x ∷ []) differs = refl
not-four (v ∷ w ∷ x ∷ y ∷ []) differs = absurd (differs refl)
not-four (v ∷ w ∷ x ∷ y ∷ z ∷ rest) differs = refl

pub is-none : (values : List Value) → (length values == 0) ≡ is_none (items_view values)
is-none [] = refl
is-none (v ∷ rest) = not-zero (length rest)
