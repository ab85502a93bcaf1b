-- What is saved of entities with one form is the same, and what is the same has one.
use Rattle.std.proofs.Common.{◌≡◌, List, [], ◌∷◌, ◌++◌, refl, sym, ap, ◌∙◌}
use Rattle.serde_json.specs.Data.{Data, null, array, Items}
use Rattle.serde_json.specs.View.{items_of}
use Rattle.specs_saveload.specs.Entities.{data_of, entity_json}

-- the items of the list of some data
pub items-back : (ds : List Data) → data_of (items_of ds) ≡ ds
items-back [] = refl
items-back (d ∷ ds) = ap (λ es. d ∷ es) (items-back ds)

members-apart : (a b c d : Data) → entity_json a b ≡ entity_json c d → (a ≡ c) × (b ≡ d)
members-apart a b c d alike = (cc, cc)

lists-apart : (ds es : Items) → array ds ≡ array es → ds ≡ es
lists-apart ds es alike = cc

pub entities-alike : (parts parts' : List Data) (marker marker' : Data) → parts ≡ parts' → marker ≡ marker' → entity_json (array (items_of parts)) marker ≡ entity_json (array (items_of parts')) marker'
entities-alike parts parts' marker marker' same same' = cc

pub entity-some : (components marker : Data) → entity_json components marker ≡ null → ⊥
entity-some components marker is = cc

module _ {M D : Type 0} (form : M → Data) (forms : D → List Data) (fits : M → Type 0) (fits' : D → Type 0) (same : M → M → Type 0) (same' : D → D → Type 0) (apart : (one other : M) → fits one → fits other → form one ≡ form other → same one other) (apart' : (one other : D) (rest left : List Data) → fits' one → fits' other → forms one ++ rest ≡ forms other ++ left → same' one other × (rest ≡ left)) where
  pub entities-apart : (one other : M) (parts parts' : D) → fits one × fits' parts → fits other × fits' parts' → entity_json (array (items_of (forms parts))) (form one) ≡ entity_json (array (items_of (forms parts'))) (form other) → same one other × same' parts parts'
  entities-apart one other parts parts' fit fit' alike =
      let both = members-apart _ _ _ _ alike in
      let items = lists-apart (items_of (forms parts)) (items_of (forms parts')) both.0 in
      let list = sym (items-back (forms parts)) ∙ (ap data_of items ∙ items-back (forms parts')) in
      (apart one other fit.0 fit'.0 both.1, (apart' parts parts' [] [] fit.1 fit'.1 (ap (λ ds. ds ++ []) list)).0)
