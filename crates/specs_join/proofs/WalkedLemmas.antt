-- A walk ascends.
use Rattle.std.proofs.Common.{◌≡◌, ℕ, zero, suc, ◌+◌, ◌<◌, ◌≤◌, List, [], ◌∷◌, Bool, true, false, cond, filter, inl, inr, sym, subst, arith}
use Rattle.std.specs.List.{range_with_len}
use Rattle.hibitset_sets.specs.Walk.{walk}
use Rattle.specs_layouts.specs.ToCome.{IsToCome}
use Rattle.specs_join.proofs.NewLemmas.{walk-is}

-- ---- those that come are greater than those that came

-- each is at least the bound, and greater than those before
abbrev Ascends : ℕ → List ℕ → Type 0
Ascends bound [] = Unit {0}
Ascends bound (first ∷ rest) = (bound ≤ first) × Ascends (first + 1) rest

lower : (bound : ℕ) (list : List ℕ) → Ascends (bound + 1) list → Ascends bound list
lower bound [] ascends = tt
lower bound (first ∷ rest) ascends = (omega (arith, ascends.0), ascends.1)

test-ascends : (a : ℕ) (rest : List ℕ) (test : Bool) → Ascends (a + 1) rest → Ascends a (cond test (a ∷ rest) rest)
test-ascends a rest true ascends = (omega arith, ascends)
test-ascends a rest false ascends = lower a rest ascends

filter-ascends : (n a : ℕ) (p : ℕ → Bool) → Ascends a (filter p (range_with_len a n))
filter-ascends zero a p = tt
filter-ascends (suc n) a p = test-ascends a (filter p (range_with_len (a + 1) n)) (p a) (filter-ascends n (a + 1) p)

at-least : (bound index : ℕ) (list : List ℕ) → Ascends bound list → IsToCome index list → bound ≤ index
at-least bound index [] ascends come = absurd come
at-least bound index (first ∷ rest) ascends (inl here) = omega (arith, ascends.0, here)
at-least bound index (first ∷ rest) ascends (inr there) = let after = at-least (first + 1) index rest ascends.1 there in omega (arith, ascends.0, after)

ascends-of : (p : ℕ → Bool) (count : ℕ) (indices : List ℕ) → indices ≡ filter p (range_with_len 0 count) → Ascends 0 indices
ascends-of p count indices same = subst (Ascends 0) (sym same) (filter-ascends count 0 p)

-- what comes after the first of a walk is greater
pub walk-later : (p : ℕ → Bool) (first : ℕ) (rest : List ℕ) → walk p ≡ first ∷ rest → (other : ℕ) → IsToCome other rest → first < other
walk-later p first rest is other come = let least = at-least (first + 1) other rest (subst (Ascends 0) is (ascends-of p 16777216 (walk p) (walk-is p))).1 come in omega (arith, least)
