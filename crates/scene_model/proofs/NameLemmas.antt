-- Lemmas on names and their places in a list.
use Rattle.std.proofs.Common.{◌≡◌, ◌<◌, ℕ, suc, ◌+◌, Bool, true, false, cond, length, List, [], ◌∷◌, map, Some, refl, ap, arith}
use Rattle.std.proofs.lemmas.Option.{none-some, same_Some}
use Rattle.std.proofs.lemmas.Slice.Eq.{bytes_eq-Decides}
use Rattle.std.specs.Str.{bytes_eq}
use Rattle.std.specs.List.{position_from, slice_index_or}
use Rattle.scene_model.specs.Parts.{place_of, name_at}

-- a place is found in a mapped list where it is found in the list
pub position_from-map : {X Y : Type 0} (f : X → Y) (p : Y → Bool) (i : ℕ) (xs : List X) → position_from p i (map f xs) ≡ position_from (λ x. p (f x)) i xs
position_from-map f p i [] = refl
position_from-map f p i (x ∷ xs) = ap (λ later. cond (p (f x)) (Some i) later) (position_from-map f p (i + 1) xs)

-- a name that is found stands at its place, counted from the start
pub found_at : (name : List ℕ) (i place : ℕ) (names : List (List ℕ)) → position_from (λ other. bytes_eq other name) i names ≡ Some place → (k : ℕ) × (place ≡ i + k) × (k < length names) × (slice_index_or names k [] ≡ name)
found_at name i place [] e = absurd (none-some place e)
found_at name i place (x ∷ xs) e = here (bytes_eq x name) (λ t. (bytes_eq-Decides x name).0 t) (λ f. found_at name (i + 1) place xs f) e
  where
    here : (b : Bool) → (b ≡ true → x ≡ name) → (position_from (λ other. bytes_eq other name) (i + 1) xs ≡ Some place → (k : ℕ) × (place ≡ (i + 1) + k) × (k < length xs) × (slice_index_or xs k [] ≡ name)) → cond b (Some i) (position_from (λ other. bytes_eq other name) (i + 1) xs) ≡ Some place → (k : ℕ) × (place ≡ i + k) × (k < length (x ∷ xs)) × (slice_index_or (x ∷ xs) k [] ≡ name)
    here true is later found = let same : i ≡ place = same_Some i place found in (0, omega arith, omega arith, is refl)
    here false is later found = let rest : (k : ℕ) × (place ≡ (i + 1) + k) × (k < length xs) × (slice_index_or xs k [] ≡ name) = later found in (suc rest.0, omega (arith, rest.1), omega (arith, rest.2), rest.3)

-- a name that is found stands at its place
pub place_of-bound : (name : List ℕ) (place : ℕ) (names : List (List ℕ)) → place_of name names ≡ Some place → place < length names
place_of-bound name place names e = let at : (k : ℕ) × (place ≡ 0 + k) × (k < length names) × (slice_index_or names k [] ≡ name) = found_at name 0 place names e in omega (arith, at.1, at.2)

pub place_of-name : (name : List ℕ) (place : ℕ) (names : List (List ℕ)) → place_of name names ≡ Some place → name_at names place ≡ name
place_of-name name place names e =
    let at : (k : ℕ) × (place ≡ 0 + k) × (k < length names) × (slice_index_or names k [] ≡ name) = found_at name 0 place names e in
    let same : place ≡ at.0 = omega (arith, at.1) in
    rw same at.3
