-- Facts on the first place at which a test passes.
use Rattle.std.proofs.Common.{◌≡◌, ℕ, ◌<◌, ◌≤◌, ◌+◌, Bool, true, false, ◌||◌, zero, suc, List, [], ◌∷◌, length, get_or, take, refl, ap, sym, ◌∙◌, arith, take_all, cond, Some, None}
use Rattle.std.specs.List.{position, position_from, list_any}
use Rattle.std.proofs.lemmas.Iterator.Adapters.{position_from-zero}

module _ {A : Type 0} (p : A → Bool) where
  from-at : (xs : List A) (i k : ℕ) (d : A) → i < length xs → p (get_or xs i d) ≡ true → list_any p (take i xs) ≡ false → position_from p k xs ≡ Some (k + i)
  from-at [] i k d h e before = absurd (omega arith)
  from-at (x ∷ xs) zero k d h e before = rw e (ap Some (omega arith))
  from-at (x ∷ xs) (suc i) k d h e before = at (p x) before (λ q. from-at xs i (k + 1) d (omega arith) e q ∙ ap Some (omega arith))
    where
      at : (b : Bool) → (b || list_any p (take i xs)) ≡ false → (list_any p (take i xs) ≡ false → position_from p (k + 1) xs ≡ Some (k + suc i))
          → cond b (Some k) (position_from p (k + 1) xs) ≡ Some (k + suc i)
      at true q later = cc
      at false q later = later q

  from-none : (xs : List A) (k : ℕ) → list_any p xs ≡ false → position_from p k xs ≡ None
  from-none [] k e = refl
  from-none (x ∷ xs) k e = at (p x) e (from-none xs (k + 1))
    where
      at : (b : Bool) → (b || list_any p xs) ≡ false → (list_any p xs ≡ false → position_from p (k + 1) xs ≡ None) → cond b (Some k) (position_from p (k + 1) xs) ≡ None
      at true q later = cc
      at false q later = later q

  -- the place at which the test passes, where it passes at none before
  pub position-at : (xs : List A) (i : ℕ) (d : A) → i < length xs → p (get_or xs i d) ≡ true → list_any p (take i xs) ≡ false → position p xs ≡ Some i
  position-at xs i d h e before = position_from-zero p xs ∙ from-at xs i 0 d h e before ∙ ap Some (omega arith)

  -- none, where it passes nowhere
  pub position-none : (xs : List A) → list_any p xs ≡ false → position p xs ≡ None
  position-none xs e = position_from-zero p xs ∙ from-none xs 0 e

  -- the same, of the element that a loop reads
  pub position-read : (xs ys : List A) (i : ℕ) (x : A) → xs ≡ ys → x ≡ get_or xs i x → i < length xs → p x ≡ true → list_any p (take i xs) ≡ false → Some i ≡ position p ys
  position-read xs ys i x same read h e before = sym (position-at xs i x h (sym (ap p read) ∙ e) before) ∙ ap (position p) same

  pub position-read-none : (xs ys : List A) (i : ℕ) → xs ≡ ys → length xs ≤ i → list_any p (take i xs) ≡ false → None ≡ position p ys
  position-read-none xs ys i same h before = sym (position-none xs (ap (list_any p) (sym (take_all i xs h)) ∙ before)) ∙ ap (position p) same
