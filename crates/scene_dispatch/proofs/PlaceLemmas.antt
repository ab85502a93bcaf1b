-- What stands at a place of a list, and at one of two lists behind one another.
use Rattle.std.proofs.Common.{◌≡◌, ℕ, ◌+◌, zero, suc, List, [], ◌∷◌, ◌++◌, length, map, get_or, Some, All, refl, ap, sym, ◌∙◌, subst, arith}
use Rattle.std.specs.Prelude.{slice_get, slice_set}
use Rattle.std.proofs.lemmas.Option.{slice_get_within, slice_get-get_or, get_or_from_slice_get}

-- what stands in a list stands there with others behind it
pub get-front : {X : Type 0} (xs ys : List X) (n : ℕ) (x : X) → slice_get xs n ≡ Some x → slice_get (xs ++ ys) n ≡ Some x
get-front [] ys n x is = cc
get-front (first ∷ xs) ys zero x is = is
get-front (first ∷ xs) ys (suc n) x is = get-front xs ys n x is

-- to replace it is to replace it in the list
pub set-front : {X : Type 0} (xs ys : List X) (n : ℕ) (x y : X) → slice_get xs n ≡ Some x → slice_set (xs ++ ys) n y ≡ slice_set xs n y ++ ys
set-front [] ys n x y is = cc
set-front (first ∷ xs) ys zero x y is = refl
set-front (first ∷ xs) ys (suc n) x y is = ap (λ l. first ∷ l) (set-front xs ys n x y is)

-- the first of the others stands behind all of the list
pub get-seam : {X : Type 0} (xs ys : List X) (y : X) → slice_get (xs ++ y ∷ ys) (length xs) ≡ Some y
get-seam [] ys y = refl
get-seam (first ∷ xs) ys y = get-seam xs ys y

-- and may be replaced there
pub set-seam : {X : Type 0} (xs ys : List X) (y z : X) → slice_set (xs ++ y ∷ ys) (length xs) z ≡ xs ++ z ∷ ys
set-seam [] ys y z = refl
set-seam (first ∷ xs) ys y z = ap (λ l. first ∷ l) (set-seam xs ys y z)

-- a replacement that shows the same as what it replaces is not seen
pub map-unseen : {X Y : Type 0} (f : X → Y) (xs : List X) (n : ℕ) (x y : X) → slice_get xs n ≡ Some x → f y ≡ f x → map f (slice_set xs n y) ≡ map f xs
map-unseen f [] n x y is same = refl
map-unseen f (first ∷ xs) zero x y is same = let here : first ≡ x = cc in ap (λ z. z ∷ map f xs) (same ∙ ap f (sym here))
map-unseen f (first ∷ xs) (suc n) x y is same = ap (λ l. f first ∷ l) (map-unseen f xs n x y is same)

-- what holds of all of a list holds of what stands at a place
pub all-at : {X : Type 0} (P : X → Type 0) (xs : List X) → All P xs → (n : ℕ) (x : X) → slice_get xs n ≡ Some x → P x
all-at P xs all n x is = subst P (get_or_from_slice_get xs n x x is) (all n x (slice_get_within xs n x is))

-- and the other way round
pub at-all : {X : Type 0} (P : X → Type 0) (xs : List X) → ((n : ℕ) (x : X) → slice_get xs n ≡ Some x → P x) → All P xs
at-all P xs each n d within = each n (get_or xs n d) (slice_get-get_or xs n d within)

-- what stands in a list or in the other stands in both behind one another
pub both-at : {X : Type 0} (P : X → Type 0) (xs ys : List X) → ((n : ℕ) (x : X) → slice_get xs n ≡ Some x → P x) → ((n : ℕ) (x : X) → slice_get ys n ≡ Some x → P x)
    → (n : ℕ) (x : X) → slice_get (xs ++ ys) n ≡ Some x → P x
both-at P [] ys first other n x is = other n x is
both-at P (y ∷ xs) ys first other zero x is = first zero x is
both-at P (y ∷ xs) ys first other (suc n) x is = both-at P xs ys (λ k. first (suc k)) other n x is

-- what stands in the other stands behind all of the list
pub get-behind : {X : Type 0} (xs ys : List X) (n k : ℕ) → k ≡ length xs + n → slice_get (xs ++ ys) k ≡ slice_get ys n
get-behind [] ys n k is = let same : k ≡ n = omega arith in ap (slice_get ys) same
get-behind (first ∷ xs) ys n zero is = absurd (omega arith)
get-behind (first ∷ xs) ys n (suc k) is = get-behind xs ys n k (omega arith)
