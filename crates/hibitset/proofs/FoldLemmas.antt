-- Folds of lists in parts.
use Rattle.std.proofs.Common.{◌≡◌, ℕ, suc, ◌<◌, List, [], ◌∷◌, ◌++◌, length, refl, sym, ap, ◌∙◌, subst, arith}
use Rattle.std.proofs.Common.{map, flat_map, append-nil, Result, Ok, Err, IfOk}
use Rattle.std.specs.List.{FoldsTo, AllZip, slice_index_or, concat}
use Rattle.hibitset.specs.Folds.{FoldsFromStart, FoldsInParts, GoesOn}
use Rattle.hibitset.specs.Split.{AreJoined}
use Rattle.std.proofs.lemmas.Fn.{chained_keeps}
use Rattle.std.proofs.Common.{length-append, ◌+◌, ◌%◌, ◌≤◌, append_assoc, Vec, Global}

-- one list after the other
pub FoldsTo-append : {P A : Type 0} (R : P → A → P → Type 0) (p : P) (xs ys : List A) (q r : P) → FoldsTo R p xs q → FoldsTo R q ys r → FoldsTo R p (xs ++ ys) r
FoldsTo-append R p [] ys q r first second = subst (λ s. FoldsTo R s ys r) (sym first) second
FoldsTo-append R p (x ∷ xs) ys q r first second = (first.0, first.1, FoldsTo-append R first.0 xs ys q r first.2 second)

module _ {A : Type 0} (start : A → Type 0) (step : A → ℕ → A → Type 0) (combine : A → A → A → Type 0) where
  go-on : GoesOn start step combine → (others : List (List ℕ)) (opening result : A) → FoldsTo (λ sofar part next. (own : A) × FoldsFromStart start step part own × combine sofar own next) opening others result → FoldsTo step opening (concat others) result
  go-on goes [] opening result combined = combined
  go-on goes (part ∷ others) opening result combined =
      FoldsTo-append step opening part (concat others) combined.0 result
      (goes opening combined.1.0 combined.0 part combined.1.1 combined.1.2)
      (go-on goes others combined.0 result combined.2)

  -- where combining is going on, a fold in parts is a fold
  pub fold-whole : GoesOn start step combine → (list : List ℕ) (result : A) → FoldsInParts start step combine list result → FoldsFromStart start step list result
  fold-whole goes list result parts =
      let f = parts.folded in
      (f.0, f.1, subst (λ xs. FoldsTo step f.0 xs result) parts.whole (FoldsTo-append step f.0 parts.first (concat parts.others) parts.opening result f.2 (go-on goes parts.others parts.opening result parts.combined)))

-- two lists of one length, related at each place
pub zip-places : {J R : Type 0} (E : J → R → Type 0) (js : List J) (rs : List R) → length rs ≡ length js → ((i : ℕ) (j : J) (r : R) → i < length js → E (slice_index_or js i j) (slice_index_or rs i r)) → AllZip E js rs
zip-places E [] [] same each = tt
zip-places E [] (r ∷ rs) same each = absurd (omega arith)
zip-places E (j ∷ js) [] same each = absurd (omega arith)
zip-places E (j ∷ js) (r ∷ rs) same each = (each 0 j r (omega arith), zip-places E js rs (omega arith) (λ i e s low. each (suc i) e s (omega arith)))

pub if_ok : {A E : Type 0} {P Q : A → Type 0} (r : Result A E) → IfOk r P → ((x : A) → P x → Q x) → IfOk r Q
if_ok (Ok x) h step = step x h
if_ok (Err e) h step = h

pub if_ok_both : {A E : Type 0} {P Q S : A → Type 0} (r : Result A E) → IfOk r P → IfOk r Q → ((x : A) → P x → Q x → S x) → IfOk r S
if_ok_both (Ok x) h k step = step x h k
if_ok_both (Err e) h k step = h

module _ {A B : Type 0} (start : A → Type 0) (step : A → ℕ → A → Type 0) (combine : A → A → A → Type 0) (items : B → List ℕ) where
  fold-others : (parts : List B) (folds : List A) → AllZip (λ part fold. FoldsFromStart start step (items part) fold) parts folds → (opening result : A) → FoldsTo combine opening folds result
      → FoldsTo (λ sofar part next. (own : A) × FoldsFromStart start step part own × combine sofar own next) opening (map items parts) result
  fold-others [] [] each opening result combined = combined
  fold-others [] (fold ∷ folds) each opening result combined = absurd each
  fold-others (part ∷ parts) [] each opening result combined = absurd each
  fold-others (part ∷ parts) (fold ∷ folds) each opening result combined =
      (combined.0, (fold, each.0, combined.1), fold-others parts folds each.1 combined.0 result combined.2)

  flat-concat : (parts : List B) → concat (map items parts) ≡ flat_map items parts
  flat-concat [] = refl
  flat-concat (part ∷ parts) = ap (λ xs. items part ++ xs) (flat-concat parts)

  -- the folds of some parts, combined from the first to the last
  pub folds-in-parts : (list : List ℕ) (parts : List B) (folds : List A) (result : A) → flat_map items parts ≡ list → AllZip (λ part fold. FoldsFromStart start step (items part) fold) parts folds
      → ((first : A) × (others : List A) × (folds ≡ first ∷ others) × FoldsTo combine first others result) → FoldsInParts start step combine list result
  folds-in-parts list parts folds result whole each combined =
      by parts (subst (λ fs. AllZip (λ part fold. FoldsFromStart start step (items part) fold) parts fs) combined.2 each) whole
    where
      by : (parts : List B) → AllZip (λ part fold. FoldsFromStart start step (items part) fold) parts (combined.0 ∷ combined.1) → flat_map items parts ≡ list → FoldsInParts start step combine list result
      by [] each whole = absurd each
      by (part ∷ parts) each whole = record {
        first = items part;
        others = map items parts;
        whole = ap (λ xs. items part ++ xs) (flat-concat parts) ∙ whole;
        opening = combined.0;
        folded = each.0;
        combined = fold-others parts combined.1 each.1 combined.0 result combined.3;
      }

  -- one part
  pub fold-alone : (list : List ℕ) (result : A) → FoldsFromStart start step list result → FoldsInParts start step combine list result
  fold-alone list result folded = record { first = list; others = []; whole = append-nil list; opening = result; folded = folded; combined = refl }

-- a relation of lists and values holds of a start, and is kept by a step and by combining
pub record HoldsInParts {A : Type 0} (start : A → Type 0) (step : A → ℕ → A → Type 0) (combine : A → A → A → Type 0) (J : List ℕ → A → Type 0) : Type 0 where
  pub starts : (a : A) → start a → J [] a
  pub steps : (list : List ℕ) (a b : A) (i : ℕ) → J list a → step a i b → J (list ++ i ∷ []) b
  pub combines : (list other : List ℕ) (a b c : A) → J list a → J other b → combine a b c → J (list ++ other) c

module _ {A : Type 0} (start : A → Type 0) (step : A → ℕ → A → Type 0) (combine : A → A → A → Type 0) (J : List ℕ → A → Type 0) (keeps : HoldsInParts start step combine J) where
  holds-part : (list : List ℕ) (a : A) → FoldsFromStart start step list a → J list a
  holds-part list a folded = chained_keeps step J (λ xs q x v held stepped. keeps.steps xs q v x held stepped) list folded.0 a (keeps.starts folded.0 folded.1) folded.2

  holds-others : (done : List ℕ) (others : List (List ℕ)) (opening result : A) → J done opening → FoldsTo (λ sofar part next. (own : A) × FoldsFromStart start step part own × combine sofar own next) opening others result → J (done ++ concat others) result
  holds-others done [] opening result held combined = subst (J (done ++ [])) combined (subst (λ xs. J xs opening) (sym (append-nil done)) held)
  holds-others done (part ∷ others) opening result held combined =
      let own = holds-part part combined.1.0 combined.1.1 in
      subst (λ xs. J xs result) (append_assoc done part (concat others))
      (holds-others (done ++ part) others combined.0 result (keeps.combines done part opening combined.1.0 combined.0 held own combined.1.2) combined.2)

  -- what holds of a start, and is kept by a step and by combining, holds of a fold in parts
  pub holds-in-parts : (list : List ℕ) (result : A) → FoldsInParts start step combine list result → J list result
  holds-in-parts list result parts =
      subst (λ xs. J xs result) parts.whole (holds-others parts.first parts.others parts.opening result (holds-part parts.first parts.opening parts.folded) parts.combined)

-- lists that are joined, each that of a part
pub joined-items : {B E : Type 0} (items : B → List ℕ) (parts : List B) (lists : List (Result (Vec ℕ Global) E)) (all : List ℕ) → AllZip (λ part list. IfOk list (λ l. l.items ≡ items part)) parts lists → AreJoined lists all → all ≡ flat_map items parts
joined-items items [] [] all each joined = joined
joined-items items [] (list ∷ lists) all each joined = absurd each
joined-items items (part ∷ parts) [] all each joined = absurd each
joined-items items (part ∷ parts) (Ok list ∷ lists) all each joined =
    joined.1 ∙ (λ j. each.0 j ++ joined-items items parts lists joined.0 each.1 joined.2 j)
joined-items items (part ∷ parts) (Err e ∷ lists) all each joined = absurd joined

-- a count of items that goes round at 2 ^ 64
abbrev pub Counts : List ℕ → ℕ → Type 0
Counts list n = n ≡ length list % 18446744073709551616

pub counts-one : (list : List ℕ) (a b i : ℕ) → Counts list a → b ≡ (a + 1) % 18446744073709551616 → Counts (list ++ i ∷ []) b
counts-one list a b i counted next = let long = length-append list (i ∷ []) in omega arith

pub counts-both : (list other : List ℕ) (a b c : ℕ) → Counts list a → Counts other b → c ≡ (a + b) % 18446744073709551616 → Counts (list ++ other) c
counts-both list other a b c first second both = let long = length-append list other in omega arith

pub counts-whole : (list : List ℕ) (n : ℕ) → length list ≤ 16777216 → Counts list n → n ≡ length list
counts-whole list n short counted = omega arith

pub nil-from-length : {A : Type 0} (xs : List A) → length xs ≡ 0 → xs ≡ []
nil-from-length [] none = refl
nil-from-length (x ∷ xs) none = absurd (omega arith)

-- where a relation leaves one value for each item, the values are those of a map
pub zip-map : {X Y : Type 0} (R : X → Y → Type 0) (answer : X → Y) → ((x : X) (y : Y) → R x y → y ≡ answer x) → (xs : List X) (ys : List Y) → AllZip R xs ys → ys ≡ map answer xs
zip-map R answer determined [] [] each = refl
zip-map R answer determined [] (y ∷ ys) each = absurd each
zip-map R answer determined (x ∷ xs) [] each = absurd each
zip-map R answer determined (x ∷ xs) (y ∷ ys) each = (λ j. determined x y each.0 j ∷ zip-map R answer determined xs ys each.1 j)
