-- Values with one form are the same, and those that are the same have one.
use Rattle.std.proofs.Common.{◌≡◌, ℕ, ℤ, pos, negsuc, Bool, List, Option, Some, None, refl, ap}
use Rattle.serde_json.specs.Data.{Num, unsigned, Data, null, boolean, number, string, array, Items, no_items, item}
use Rattle.serde_json.specs.Find.{of_integer}
use Rattle.specs_saveload.specs.Plain.{option_form, same_option, pair_form, triple_form, quadruple_form, OptionAll}

pub forms-alike : {T : Type 0} (form : T → Data) (one other : T) → one ≡ other → form one ≡ form other
forms-alike form one other same = ap form same

pub pairs-alike : (a b a' b' : Data) → a ≡ a' → b ≡ b' → pair_form a b ≡ pair_form a' b'
pairs-alike a b a' b' same same' = cc

pub triples-alike : (a b c a' b' c' : Data) → a ≡ a' → b ≡ b' → c ≡ c' → triple_form a b c ≡ triple_form a' b' c'
triples-alike a b c a' b' c' same same' same'' = cc

pub quadruples-alike : (a b c d a' b' c' d' : Data) → a ≡ a' → b ≡ b' → c ≡ c' → d ≡ d' → quadruple_form a b c d ≡ quadruple_form a' b' c' d'
quadruples-alike a b c d a' b' c' d' same same' same'' last = cc

pub options-alike : {T : Type 0} (form : T → Data) (same : T → T → Type 0) → ((one other : T) → same one other → form one ≡ form other) → (one other : Option T) → same_option same one other → option_form form one ≡ option_form form other
options-alike form same alike None None is = refl
options-alike form same alike None (Some other) is = absurd is
options-alike form same alike (Some one) None is = absurd is
options-alike form same alike (Some one) (Some other) is = ap (λ d. array (item d no_items)) (alike one other is)

pub numbers-apart : (one other : ℕ) → number (unsigned one) ≡ number (unsigned other) → one ≡ other
numbers-apart one other alike = cc

pub integers-apart : (one other : ℤ) → number (of_integer one) ≡ number (of_integer other) → one ≡ other
integers-apart (pos one) (pos other) alike = cc
integers-apart (pos one) (negsuc other) alike = cc
integers-apart (negsuc one) (pos other) alike = cc
integers-apart (negsuc one) (negsuc other) alike = cc

pub booleans-apart : (one other : Bool) → boolean one ≡ boolean other → one ≡ other
booleans-apart one other alike = cc

pub texts-apart : (one other : List ℕ) → string one ≡ string other → one ≡ other
texts-apart one other alike = cc

first-alike : (one other : Data) (rest rest' : Items) → array (item one rest) ≡ array (item other rest') → one ≡ other
first-alike one other rest rest' alike = cc

second-alike : (one other a b : Data) (rest rest' : Items) → array (item a (item one rest)) ≡ array (item b (item other rest')) → one ≡ other
second-alike one other a b rest rest' alike = cc

pub number-some : (n : Num) → number n ≡ null → ⊥
number-some n is = cc

pub boolean-some : (b : Bool) → boolean b ≡ null → ⊥
boolean-some b is = cc

pub text-some : (s : List ℕ) → string s ≡ null → ⊥
text-some s is = cc

pub array-some : (ds : Items) → array ds ≡ null → ⊥
array-some ds is = cc

pub option-some : {T : Type 0} (form : T → Data) (value : Option T) → option_form form value ≡ null → ⊥
option-some form None is = array-some no_items is
option-some form (Some value) is = array-some (item (form value) no_items) is

third-alike : (a b c a' b' c' : Data) (rest rest' : Items) → array (item a (item b (item c rest))) ≡ array (item a' (item b' (item c' rest'))) → c ≡ c'
third-alike a b c a' b' c' rest rest' alike = cc

fourth-alike : (a b c d a' b' c' d' : Data) → quadruple_form a b c d ≡ quadruple_form a' b' c' d' → d ≡ d'
fourth-alike a b c d a' b' c' d' alike = cc

pub options-apart : {T : Type 0} (form : T → Data) (fits : T → Type 0) (same : T → T → Type 0) → ((one other : T) → fits one → fits other → form one ≡ form other → same one other) → (one other : Option T) → OptionAll fits one → OptionAll fits other → option_form form one ≡ option_form form other → same_option same one other
options-apart form fits same apart None None fit fit' alike = tt
options-apart form fits same apart None (Some other) fit fit' alike = cc
options-apart form fits same apart (Some one) None fit fit' alike = cc
options-apart form fits same apart (Some one) (Some other) fit fit' alike = apart one other fit fit' (first-alike (form one) (form other) no_items no_items alike)

module _ {A B : Type 0} (form : A → Data) (form' : B → Data) (fits : A → Type 0) (fits' : B → Type 0) (same : A → A → Type 0) (same' : B → B → Type 0) (apart : (x y : A) → fits x → fits y → form x ≡ form y → same x y) (apart' : (x y : B) → fits' x → fits' y → form' x ≡ form' y → same' x y) where
  pub pairs-apart : (one other : A × B) → fits one.0 × fits' one.1 → fits other.0 × fits' other.1 → pair_form (form one.0) (form' one.1) ≡ pair_form (form other.0) (form' other.1) → same one.0 other.0 × same' one.1 other.1
  pairs-apart one other fit fit' alike = (
    apart one.0 other.0 fit.0 fit'.0 (first-alike (form one.0) (form other.0) _ _ alike),
    apart' one.1 other.1 fit.1 fit'.1 (second-alike (form' one.1) (form' other.1) (form one.0) (form other.0) no_items no_items alike),
  )

module _ {A B C : Type 0} (form : A → Data) (form' : B → Data) (form'' : C → Data) (fits : A → Type 0) (fits' : B → Type 0) (fits'' : C → Type 0) (same : A → A → Type 0) (same' : B → B → Type 0) (same'' : C → C → Type 0) (apart : (x y : A) → fits x → fits y → form x ≡ form y → same x y) (apart' : (x y : B) → fits' x → fits' y → form' x ≡ form' y → same' x y) (apart'' : (x y : C) → fits'' x → fits'' y → form'' x ≡ form'' y → same'' x y) where
  pub triples-apart : (one other : A × B × C) → fits one.0 × fits' one.1 × fits'' one.2 → fits other.0 × fits' other.1 × fits'' other.2 → triple_form (form one.0) (form' one.1) (form'' one.2) ≡ triple_form (form other.0) (form' other.1) (form'' other.2) → same one.0 other.0 × same' one.1 other.1 × same'' one.2 other.2
  triples-apart one other fit fit' alike = (
    apart one.0 other.0 fit.0 fit'.0 (first-alike (form one.0) (form other.0) _ _ alike),
    apart' one.1 other.1 fit.1 fit'.1 (second-alike (form' one.1) (form' other.1) (form one.0) (form other.0) _ _ alike),
    apart'' one.2 other.2 fit.2 fit'.2 (third-alike _ _ (form'' one.2) _ _ (form'' other.2) no_items no_items alike),
  )

  module _ {D : Type 0} (last : D → Data) (fitting : D → Type 0) (alike-last : D → D → Type 0) (apart-last : (x y : D) → fitting x → fitting y → last x ≡ last y → alike-last x y) where
    pub quadruples-apart : (one other : A × B × C × D) → fits one.0 × fits' one.1 × fits'' one.2 × fitting one.3 → fits other.0 × fits' other.1 × fits'' other.2 × fitting other.3 → quadruple_form (form one.0) (form' one.1) (form'' one.2) (last one.3) ≡ quadruple_form (form other.0) (form' other.1) (form'' other.2) (last other.3) → same one.0 other.0 × same' one.1 other.1 × same'' one.2 other.2 × alike-last one.3 other.3
    quadruples-apart one other fit fit' alike = (
      apart one.0 other.0 fit.0 fit'.0 (first-alike (form one.0) (form other.0) _ _ alike),
      apart' one.1 other.1 fit.1 fit'.1 (second-alike (form' one.1) (form' other.1) (form one.0) (form other.0) _ _ alike),
      apart'' one.2 other.2 fit.2 fit'.2 (third-alike _ _ (form'' one.2) _ _ (form'' other.2) _ _ alike),
      apart-last one.3 other.3 fit.3 fit'.3 (fourth-alike _ _ _ (last one.3) _ _ _ (last other.3) alike),
    )
