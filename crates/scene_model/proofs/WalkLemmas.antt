-- Lemmas on walks over lists: one step, and the end.
use Rattle.std.proofs.Common.{◌≡◌, ◌<◌, ◌+◌, ℕ, List, [], ◌∷◌, ◌++◌, refl, sym, ◌∙◌, ap, subst, length, get_or, map, take, drop, All, zero, suc, arith}
use Rattle.std.proofs.Math.ListN.{get_or-map}
use Rattle.std.proofs.lemmas.List.{at_drop_more, length-map, take-append-drop, map-append, map_more}

module _ {X Y : Type 0} (f : X → Y) (xs : List X) (k : ℕ) (e : X) (below : k < length xs) (is : e ≡ get_or xs k e) where
  -- what stands at a place of a mapped list
  pub mapped_at : get_or (map f xs) k (f e) ≡ f e
  mapped_at = get_or-map f xs k e ∙ ap f (sym is)

  mapped_below : k < length (map f xs)
  mapped_below = subst (λ n. k < n) (sym (length-map xs f)) below

  -- a function of what is left of a list
  pub left_at : {Z : Type 0} (F : List Y → Z) → F (map f (drop k xs)) ≡ F (f e ∷ map f (drop (k + 1) xs))
  left_at F = at_drop_more (λ rest. F (map f rest)) xs k e below ∙ ap (λ x. F (f x ∷ map f (drop (k + 1) xs))) (sym is)

  -- a mapped list about a place
  pub split_at : map f xs ≡ map f (take k xs) ++ f e ∷ map f (drop (k + 1) xs)
  split_at = ap (map f) (sym (take-append-drop k xs)) ∙ map-append f (take k xs) (drop k xs) ∙ ap (λ rest. map f (take k xs) ++ rest) (left_at (λ rest. rest))

  -- its front up to behind the place
  pub front_at : map f (take (k + 1) xs) ≡ map f (take k xs) ++ f e ∷ []
  front_at = map_more f xs k e below ∙ ap (λ x. map f (take k xs) ++ f x ∷ []) (sym is)

  -- what holds of all holds of each
  pub holds_at : (P : Y → Type 0) → All P (map f xs) → P (f e)
  holds_at P all = subst P mapped_at (all k (f e) mapped_below)

-- what holds of a list holds of its front
pub all_front : {X : Type 0} (P : X → Type 0) (xs ys : List X) → All P (xs ++ ys) → All P xs
all_front P [] ys h k d below = absurd (omega arith)
all_front P (x ∷ xs) ys h zero d below = h zero d (omega arith)
all_front P (x ∷ xs) ys h (suc k) d below = all_front P xs ys (λ j e within. h (suc j) e (omega arith)) k d (omega arith)

-- and of its back
pub all_back : {X : Type 0} (P : X → Type 0) (xs ys : List X) → All P (xs ++ ys) → All P ys
all_back P [] ys h = h
all_back P (x ∷ xs) ys h = all_back P xs ys (λ j e within. h (suc j) e (omega arith))

-- a list of no length has no items
pub no_items : {X : Type 0} (xs : List X) → length xs ≡ 0 → xs ≡ []
no_items [] e = refl
no_items (x ∷ xs) e = absurd (omega arith)
