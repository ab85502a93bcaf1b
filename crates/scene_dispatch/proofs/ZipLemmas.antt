-- Facts on two lists of which something holds place by place.
use Rattle.std.proofs.Common.{◌≡◌, ℕ, zero, suc, ◌+◌, Bool, List, [], ◌∷◌, ◌++◌, length, get_or, cond, Some, refl, ap, sym, ◌∙◌}
use Rattle.std.proofs.Math.ListN.{set}
use Rattle.std.specs.Prelude.{count_by, ◌||◌}
use Rattle.std.specs.List.{AllZip, fold, list_any, position, position_from, sum_by}
use Rattle.std.proofs.lemmas.Iterator.Adapters.{position_from-zero}

module _ {A B : Type 0} where
  -- so does what is weaker
  pub zip-weaker : (R S : A → B → Type 0) → ((x : A) (y : B) → R x y → S x y) → (xs : List A) (ys : List B) → AllZip R xs ys → AllZip S xs ys
  zip-weaker R S weaker [] [] zipped = tt
  zip-weaker R S weaker [] (y ∷ ys) zipped = absurd zipped
  zip-weaker R S weaker (x ∷ xs) [] zipped = absurd zipped
  zip-weaker R S weaker (x ∷ xs) (y ∷ ys) zipped = (weaker x y zipped.0, zip-weaker R S weaker xs ys zipped.1)

module _ {A B : Type 0} (R : A → B → Type 0) where
  -- of one list after another
  pub zip-append : (xs early : List A) (ys other : List B) → AllZip R xs ys → AllZip R early other → AllZip R (xs ++ early) (ys ++ other)
  zip-append [] early [] other zipped later = later
  zip-append [] early (y ∷ ys) other zipped later = absurd zipped
  zip-append (x ∷ xs) early [] other zipped later = absurd zipped
  zip-append (x ∷ xs) early (y ∷ ys) other zipped later = (zipped.0, zip-append xs early ys other zipped.1 later)

  -- of the elements at a place, where it holds of what stands for one past the end
  pub zip-get : (xs : List A) (ys : List B) (i : ℕ) (d : A) (e : B) → R d e → AllZip R xs ys → R (get_or xs i d) (get_or ys i e)
  zip-get [] [] i d e past zipped = past
  zip-get [] (y ∷ ys) i d e past zipped = absurd zipped
  zip-get (x ∷ xs) [] i d e past zipped = absurd zipped
  zip-get (x ∷ xs) (y ∷ ys) zero d e past zipped = zipped.0
  zip-get (x ∷ xs) (y ∷ ys) (suc i) d e past zipped = zip-get xs ys i d e past zipped.1

  -- of both lists with another element at a place
  pub zip-set : (xs : List A) (ys : List B) (i : ℕ) (x : A) (y : B) → R x y → AllZip R xs ys → AllZip R (set xs i x) (set ys i y)
  zip-set [] [] i u v new zipped = tt
  zip-set [] (y ∷ ys) i u v new zipped = absurd zipped
  zip-set (x ∷ xs) [] i u v new zipped = absurd zipped
  zip-set (x ∷ xs) (y ∷ ys) zero u v new zipped = (new, zipped.1)
  zip-set (x ∷ xs) (y ∷ ys) (suc i) u v new zipped = (zipped.0, zip-set xs ys i u v new zipped.1)

  -- such lists are equally long
  pub zip-length : (xs : List A) (ys : List B) → AllZip R xs ys → length xs ≡ length ys
  zip-length [] [] zipped = refl
  zip-length [] (y ∷ ys) zipped = absurd zipped
  zip-length (x ∷ xs) [] zipped = absurd zipped
  zip-length (x ∷ xs) (y ∷ ys) zipped = ap suc (zip-length xs ys zipped.1)

  -- what two folds keep holds of what they come to
  pub zip-fold : {C D : Type 0} (Q : C → D → Type 0) (step : C → A → C) (other : D → B → D)
      → ((c : C) (d : D) (x : A) (y : B) → Q c d → R x y → Q (step c x) (other d y))
      → (xs : List A) (ys : List B) (c : C) (d : D) → Q c d → AllZip R xs ys → Q (fold step c xs) (fold other d ys)
  zip-fold Q step other keeps [] [] c d start zipped = start
  zip-fold Q step other keeps [] (y ∷ ys) c d start zipped = absurd zipped
  zip-fold Q step other keeps (x ∷ xs) [] c d start zipped = absurd zipped
  zip-fold Q step other keeps (x ∷ xs) (y ∷ ys) c d start zipped = zip-fold Q step other keeps xs ys (step c x) (other d y) (keeps c d x y start zipped.0) zipped.1

  -- sums over both are the same
  pub zip-sum : (f : A → ℕ) (g : B → ℕ) → ((x : A) (y : B) → R x y → f x ≡ g y) → (xs : List A) (ys : List B) → AllZip R xs ys → sum_by f xs ≡ sum_by g ys
  zip-sum f g same xs ys zipped =
      zip-fold (λ a b. a ≡ b) (λ a x. a + f x) (λ b y. b + g y) (λ a b x y e r. ap (λ n. n + f x) e ∙ ap (λ n. b + n) (same x y r)) xs ys 0 0 refl zipped

  module _ (p : A → Bool) (q : B → Bool) (same : (x : A) (y : B) → R x y → p x ≡ q y) where
    -- a test that passes alike passes of as many
    pub zip-count : (xs : List A) (ys : List B) → AllZip R xs ys → count_by p xs ≡ count_by q ys
    zip-count = zip-sum (λ x. cond (p x) 1 0) (λ y. cond (q y) 1 0) (λ x y r. ap (λ b. cond b 1 0) (same x y r))

    -- of one, where it does in the other list
    pub zip-any : (xs : List A) (ys : List B) → AllZip R xs ys → list_any p xs ≡ list_any q ys
    zip-any [] [] zipped = refl
    zip-any [] (y ∷ ys) zipped = absurd zipped
    zip-any (x ∷ xs) [] zipped = absurd zipped
    zip-any (x ∷ xs) (y ∷ ys) zipped = ap (λ b. b || list_any p xs) (same x y zipped.0) ∙ ap (λ b. q y || b) (zip-any xs ys zipped.1)

    -- counted from a number on
    position-from : (xs : List A) (ys : List B) (k : ℕ) → AllZip R xs ys → position_from p k xs ≡ position_from q k ys
    position-from [] [] k zipped = refl
    position-from [] (y ∷ ys) k zipped = absurd zipped
    position-from (x ∷ xs) [] k zipped = absurd zipped
    position-from (x ∷ xs) (y ∷ ys) k zipped =
        ap (λ b. cond b (Some k) (position_from p (k + 1) xs)) (same x y zipped.0)
        ∙ ap (λ o. cond (q y) (Some k) o) (position-from xs ys (k + 1) zipped.1)

    -- first at the same place
    pub zip-position : (xs : List A) (ys : List B) → AllZip R xs ys → position p xs ≡ position q ys
    zip-position xs ys zipped = position_from-zero p xs ∙ position-from xs ys 0 zipped ∙ sym (position_from-zero q ys)
