-- Parts with one form are the same, and those that are the same have one.
use Rattle.std.proofs.Common.{◌≡◌, List, [], ◌∷◌, ◌++◌, Option, Some, None, refl, ap, sym, ◌∙◌, append_assoc}
use Rattle.serde_json.specs.Data.{Data, null}
use Rattle.specs_saveload.specs.Plain.{same_option, OptionAll}
use Rattle.specs_saveload.specs.Parts.{part_form}

pub both-alike : (a b a' b' : List Data) → a ≡ a' → b ≡ b' → a ++ b ≡ a' ++ b'
both-alike a b a' b' same same' = cc

pub part-alike : {T : Type 0} (form : T → Data) (same : T → T → Type 0) → ((one other : T) → same one other → form one ≡ form other) → (one other : Option T) → same_option same one other → part_form form one ≡ part_form form other
part-alike form same alike None None is = refl
part-alike form same alike None (Some other) is = absurd is
part-alike form same alike (Some one) None is = absurd is
part-alike form same alike (Some one) (Some other) is = ap (λ d. d ∷ []) (alike one other is)

heads : (one other : Data) (rest left : List Data) → one ∷ rest ≡ other ∷ left → (one ≡ other) × (rest ≡ left)
heads one other rest left is = (cc, cc)

pub part-apart : {T : Type 0} (form : T → Data) (fits : T → Type 0) (same : T → T → Type 0) → ((one other : T) → fits one → fits other → form one ≡ form other → same one other) → ((value : T) → form value ≡ null → ⊥)
    → (one other : Option T) (rest left : List Data) → OptionAll fits one → OptionAll fits other → part_form form one ++ rest ≡ part_form form other ++ left → same_option same one other × (rest ≡ left)
part-apart form fits same apart some None None rest left fit fit' alike = (tt, (heads null null rest left alike).1)
part-apart form fits same apart some None (Some other) rest left fit fit' alike = absurd (some other (sym (heads null (form other) rest left alike).0))
part-apart form fits same apart some (Some one) None rest left fit fit' alike = absurd (some one (heads (form one) null rest left alike).0)
part-apart form fits same apart some (Some one) (Some other) rest left fit fit' alike =
    let both = heads (form one) (form other) rest left alike in
    (apart one other fit fit' both.0, both.1)

module _ {P Q : Type 0} (forms : P → List Data) (forms' : Q → List Data) (fits : P → Type 0) (fits' : Q → Type 0) (same : P → P → Type 0) (same' : Q → Q → Type 0) (apart : (one other : P) (rest left : List Data) → fits one → fits other → forms one ++ rest ≡ forms other ++ left → same one other × (rest ≡ left)) (apart' : (one other : Q) (rest left : List Data) → fits' one → fits' other → forms' one ++ rest ≡ forms' other ++ left → same' one other × (rest ≡ left)) where
  pub both-apart : (one other : P × Q) (rest left : List Data) → fits one.0 × fits' one.1 → fits other.0 × fits' other.1 → (forms one.0 ++ forms' one.1) ++ rest ≡ (forms other.0 ++ forms' other.1) ++ left → (same one.0 other.0 × same' one.1 other.1) × (rest ≡ left)
  both-apart one other rest left fit fit' alike =
      let flat = sym (append_assoc (forms one.0) (forms' one.1) rest) ∙ (alike ∙ append_assoc (forms other.0) (forms' other.1) left) in
      let first = apart one.0 other.0 (forms' one.1 ++ rest) (forms' other.1 ++ left) fit.0 fit'.0 flat in
      let second = apart' one.1 other.1 rest left fit.1 fit'.1 first.1 in
      ((first.0, second.0), second.1)

module _ {P Q R : Type 0} (forms : P → List Data) (forms' : Q → List Data) (forms'' : R → List Data) (fits : P → Type 0) (fits' : Q → Type 0) (fits'' : R → Type 0) (same : P → P → Type 0) (same' : Q → Q → Type 0) (same'' : R → R → Type 0) (apart : (one other : P) (rest left : List Data) → fits one → fits other → forms one ++ rest ≡ forms other ++ left → same one other × (rest ≡ left)) (apart' : (one other : Q) (rest left : List Data) → fits' one → fits' other → forms' one ++ rest ≡ forms' other ++ left → same' one other × (rest ≡ left)) (apart'' : (one other : R) (rest left : List Data) → fits'' one → fits'' other → forms'' one ++ rest ≡ forms'' other ++ left → same'' one other × (rest ≡ left)) where
  pub three-apart : (one other : P × Q × R) (rest left : List Data) → fits one.0 × fits' one.1 × fits'' one.2 → fits other.0 × fits' other.1 × fits'' other.2 → (forms one.0 ++ (forms' one.1 ++ forms'' one.2)) ++ rest ≡ (forms other.0 ++ (forms' other.1 ++ forms'' other.2)) ++ left → (same one.0 other.0 × same' one.1 other.1 × same'' one.2 other.2) × (rest ≡ left)
  three-apart one other rest left fit fit' alike =
      let flat = sym (append_assoc (forms one.0) (forms' one.1 ++ forms'' one.2) rest) ∙ (alike ∙ append_assoc (forms other.0) (forms' other.1 ++ forms'' other.2) left) in
      let first = apart one.0 other.0 ((forms' one.1 ++ forms'' one.2) ++ rest) ((forms' other.1 ++ forms'' other.2) ++ left) fit.0 fit'.0 flat in
      let others = both-apart forms' forms'' fits' fits'' same' same'' apart' apart'' (one.1, one.2) (other.1, other.2) rest left (fit.1, fit.2) (fit'.1, fit'.2) first.1 in
      ((first.0, others.0.0, others.0.1), others.1)
