-- Parts that are taken out along a walk: those left are to come.
use Rattle.std.proofs.Common.{◌≡◌, ℕ, zero, suc, ◌+◌, ◌<◌, ◌≤◌, List, ◌∷◌, Bool, true, false, cond, filter, Option, is_some, IsSome, inl, inr, sym, ap, subst, ◌∙◌, arith}
use Rattle.std.specs.List.{range_with_len}
use Rattle.std.proofs.lemmas.Bool.{cases_eq}
use Rattle.hibitset_sets.specs.Walk.{walk}
use Rattle.specs_layouts.specs.ToCome.{IsToCome}

kept : (index first : ℕ) (rest : List ℕ) (b : Bool) → IsToCome index rest → IsToCome index (cond b (first ∷ rest) rest)
kept index first rest true come = inr come
kept index first rest false come = come

filter-come : (n a : ℕ) (p : ℕ → Bool) (index : ℕ) → a ≤ index → index < a + n → p index ≡ true → IsToCome index (filter p (range_with_len a n))
filter-come zero a p index low high is = absurd (omega arith)
filter-come (suc n) a p index low high is =
    let rest = filter p (range_with_len (a + 1) n) in
    elim (cases_eq a index) [
      | inl here ↦ subst (IsToCome index) (sym (ap (λ b. cond b (a ∷ rest) rest) (ap p here ∙ is))) (inl here)
      | inr there ↦ kept index a rest (p a) (filter-come n (a + 1) p index (omega arith) (omega arith) is)
    ]

-- each member comes
pub walk-come : (p : ℕ → Bool) (index : ℕ) → index < 16777216 → p index ≡ true → IsToCome index (walk p)
unfolding walk
walk-come p index within is = filter-come 16777216 0 p index (omega arith) (omega arith) is

-- where a mask tells which indices have a part, these are to come as its walk begins
pub all-come : {T : Type 0} (parts : ℕ → Option T) (p : ℕ → Bool) (left : List ℕ) → ((index : ℕ) → p index ≡ is_some (parts index)) → ((index : ℕ) → IsSome (parts index) → index < 16777216) → left ≡ walk p → (index : ℕ) → IsSome (parts index) → IsToCome index left
all-come parts p left mask range whole index there =
    subst (IsToCome index) (sym whole) (walk-come p index (range index there) (mask index ∙ there))
