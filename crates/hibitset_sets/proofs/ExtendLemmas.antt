-- One index more at the end of a list that is put into a set.
use Rattle.std.proofs.Common.{◌≡◌, ℕ, suc, List, [], ◌∷◌, ◌++◌, refl, map, subst, arith}
use Rattle.std.specs.Ordering.{nat_cmp}
use Rattle.std.specs.FinSet as set
use Rattle.std.specs.Iterator.{Yields}
use Rattle.std.specs.List.{All}
use Rattle.std.specs.declared.option.Option.{Option}
use Rattle.std.specs.declared.option.Option.TheVariants.{Some}
use Rattle.std.proofs.lemmas.List.Elements.{All-nil, All-cons}
use Rattle.std.specs.Borrow.{Bor}
use Rattle.std.specs.Slice.Iter.{iter_steps, iter_rest}
use Rattle.std.specs.declared.slice.Iter.{Iter}
use Rattle.hibitset_sets.specs.Extend.{with_all, IsIndex, IsIndexRef}

pub with_all-last : (members : set.FinSet nat_cmp) (indices : List ℕ) (i : ℕ) → with_all members (indices ++ i ∷ []) ≡ set.insert (with_all members indices) i
with_all-last members [] i = refl
with_all-last members (x ∷ indices) i = with_all-last (set.insert members x) indices i

pub with_refs-last : (members : set.FinSet nat_cmp) (indices : List (Bor ℕ)) (i : Bor ℕ) → with_all members (map (λ i. i.now) (indices ++ i ∷ [])) ≡ set.insert (with_all members (map (λ i. i.now) indices)) i.now
with_refs-last members [] i = refl
with_refs-last members (x ∷ indices) i = with_refs-last (set.insert members x.now) indices i

pub ruleset with_last = (with_all-last, with_refs-last)

-- where each step from a state with I gives an item with P and keeps I, each item has P
pub All_yielded : {S A : Type 0} (steps : S → Option A → S → Type 0) (I : S → Type 0) (P : A → Type 0) → ((s : S) (x : A) (u : S) → I s → steps s (Some x) u → P x × I u) → (s : S) (xs : List A) (t : S) → I s → Yields steps s xs t → All P xs
All_yielded steps I P f s [] t i y = All-nil P
All_yielded steps I P f s (x ∷ xs) t i y = let h = f s x y.0 i y.1 in All-cons P x xs h.0 (All_yielded steps I P f y.0 xs t h.1 y.2)

first-rest : (x : ℕ) (rest : List ℕ) → All IsIndex (x ∷ rest) → IsIndex x × All IsIndex rest
first-rest x rest all = (all 0 0 (omega arith), λ k d low. all (suc k) d (omega arith))

-- a walk over a slice of indices that a set can have gives references to such
pub refs-yielded : (s : Iter ℕ) → All IsIndex (iter_rest s) → (xs : List (Bor ℕ)) (t : Iter ℕ) → Yields iter_steps s xs t → All IsIndexRef xs
refs-yielded s all xs t y =
    All_yielded iter_steps (λ s. All IsIndex (iter_rest s)) IsIndexRef (λ s x u i p. first-rest x.now (iter_rest u) (subst (All IsIndex) p i)) s xs t all y
