-- Places of readers that are made less, one after the other.
use Rattle.std.proofs.Common.{◌≡◌, ℕ, zero, suc, ◌-◌, ◌<◌, ◌≤◌, List, [], ◌∷◌, length, map, set, get_or, slice_index_or, refl, ap, ◌∙◌, arith}

-- a list whose first numbers went through f
abbrev pub first_through : {A : Type 0} → (A → A) → ℕ → List A → List A
first_through f zero xs = xs
first_through f (suc i) [] = []
first_through f (suc i) (x ∷ xs) = f x ∷ first_through f i xs

pub through-more : {A : Type 0} (f : A → A) (i : ℕ) (xs : List A) (d : A) → i < length xs → set (first_through f i xs) i (f (get_or (first_through f i xs) i d)) ≡ first_through f (suc i) xs
through-more f zero [] d within = refl
through-more f zero (x ∷ xs) d within = refl
through-more f (suc i) [] d within = refl
through-more f (suc i) (x ∷ xs) d within = let less : i < length xs = omega (arith, within) in ap (λ ys. f x ∷ ys) (through-more f i xs d less)

pub through-all : {A : Type 0} (f : A → A) (xs : List A) → first_through f (length xs) xs ≡ map f xs
through-all f [] = refl
through-all f (x ∷ xs) = ap (λ ys. f x ∷ ys) (through-all f xs)

-- a place that is less by as much as the list is shorter stays within it
pub kept-within : (n len : ℕ) (places : List ℕ) (reader : ℕ) → slice_index_or places reader 0 ≤ len → slice_index_or (map (λ place. place - n) places) reader 0 ≤ len - n
kept-within n len [] reader within = omega (arith)
kept-within n len (place ∷ places) zero within = omega (arith, within)
kept-within n len (place ∷ places) (suc reader) within = kept-within n len places reader within

-- less by nothing, the places are the same
pub less-none : (places : List ℕ) → map (λ place. place - 0) places ≡ places
less-none [] = refl
less-none (place ∷ places) =
    let same : place - 0 ≡ place = omega (arith) in
    ap (λ p. p ∷ map (λ place'. place' - 0) places) same ∙ ap (λ ps. place ∷ ps) (less-none places)
