-- What a walk is, from its members: its first item, and where it is empty.
use Rattle.std.proofs.Common.{◌≡◌, ◌≢◌, ℕ, zero, suc, ◌+◌, ◌<◌, ◌≤◌, List, [], ◌∷◌, Bool, true, false, cond, filter, inl, inr, refl, sym, ap, ◌∙◌, arith}
use Rattle.std.specs.List.{range_with_len}
use Rattle.std.proofs.Common.{Option, Some, None, MatchOption, is_some, IsTrue, not}
use Rattle.std.proofs.lemmas.Bool.{cases_eq, true≢false, not-false}
use Rattle.hibitset_sets.specs.Walk.{walk}

pub filter-same : (n a : ℕ) (p q : ℕ → Bool) → ((i : ℕ) → a ≤ i → i < a + n → p i ≡ q i) → filter p (range_with_len a n) ≡ filter q (range_with_len a n)
filter-same zero a p q same = refl
filter-same (suc n) a p q same =
    let rest = filter-same n (a + 1) p q (λ i low high. same i (omega arith) (omega arith)) in
    ap (λ b. cond b (a ∷ filter p (range_with_len (a + 1) n)) (filter p (range_with_len (a + 1) n))) (same a (omega arith) (omega arith))
    ∙ ap (λ xs. cond (q a) (a ∷ xs) xs) rest

pub filter-first : (n a : ℕ) (p q : ℕ → Bool) (first : ℕ) → a ≤ first → first < a + n → p first ≡ true → ((i : ℕ) → a ≤ i → i < first → p i ≡ false) → q first ≡ false → ((i : ℕ) → a ≤ i → i < a + n → i ≢ first → p i ≡ q i) → filter p (range_with_len a n) ≡ first ∷ filter q (range_with_len a n)
filter-first zero a p q first low high is before gone same = absurd (omega arith)
filter-first (suc n) a p q first low high is before gone same =
    elim (cases_eq a first) [
      | inl here ↦
          let at_p : p a ≡ true = ap p here ∙ is in
          let at_q : q a ≡ false = ap q here ∙ gone in
          ap (λ b. cond b (a ∷ filter p (range_with_len (a + 1) n)) (filter p (range_with_len (a + 1) n))) at_p
          ∙ ap (λ x. x ∷ filter p (range_with_len (a + 1) n)) here
          ∙ ap (λ xs. first ∷ xs) (filter-same n (a + 1) p q (λ i lo hi. same i (omega arith) (omega arith) (omega arith)))
          ∙ ap (λ b. first ∷ cond b (a ∷ filter q (range_with_len (a + 1) n)) (filter q (range_with_len (a + 1) n))) (sym at_q)
      | inr there ↦
          let at_p : p a ≡ false = before a (omega arith) (omega arith) in
          let at_q : q a ≡ false = sym (same a (omega arith) (omega arith) there) ∙ at_p in
          ap (λ b. cond b (a ∷ filter p (range_with_len (a + 1) n)) (filter p (range_with_len (a + 1) n))) at_p
          ∙ filter-first n (a + 1) p q first (omega arith) (omega arith) is (λ i lo hi. before i (omega arith) hi) gone (λ i lo hi other. same i (omega arith) (omega arith) other)
          ∙ ap (λ b. first ∷ cond b (a ∷ filter q (range_with_len (a + 1) n)) (filter q (range_with_len (a + 1) n))) (sym at_q)
    ]

pub filter-none : (n a : ℕ) (p : ℕ → Bool) → ((i : ℕ) → a ≤ i → i < a + n → p i ≡ false) → filter p (range_with_len a n) ≡ []
filter-none zero a p none = refl
filter-none (suc n) a p none =
    ap (λ b. cond b (a ∷ filter p (range_with_len (a + 1) n)) (filter p (range_with_len (a + 1) n))) (none a (omega arith) (omega arith))
    ∙ filter-none n (a + 1) p (λ i low high. none i (omega arith) (omega arith))

-- sets with the same members have the same walk
pub walk-same : (p q : ℕ → Bool) → ((i : ℕ) → i < 16777216 → p i ≡ q i) → walk p ≡ walk q
unfolding walk
walk-same p q same = filter-same 16777216 0 p q (λ i low high. same i (omega arith))

-- the least member comes first, and then those of the set without it
pub walk-first : (p q : ℕ → Bool) (first : ℕ) → first < 16777216 → p first ≡ true → ((i : ℕ) → i < first → p i ≡ false) → q first ≡ false → ((i : ℕ) → i < 16777216 → i ≢ first → p i ≡ q i) → walk p ≡ first ∷ walk q
unfolding walk
walk-first p q first within is before gone same =
    filter-first 16777216 0 p q first (omega arith) (omega arith) is (λ i low high. before i high) gone (λ i low high other. same i (omega arith) other)

pub walk-none : (p : ℕ → Bool) → ((i : ℕ) → i < 16777216 → p i ≡ false) → walk p ≡ []
unfolding walk
walk-none p none = filter-none 16777216 0 p (λ i low high. none i (omega arith))

nonempty : (x : ℕ) (xs : List ℕ) → x ∷ xs ≡ [] → ⊥
nonempty x xs h = cc

filter-head : (a : ℕ) (p : ℕ → Bool) (rest : List ℕ) (b : Bool) → p a ≡ b → cond (p a) (a ∷ rest) rest ≡ [] → (p a ≡ false) × (rest ≡ [])
filter-head a p rest true is none = absurd (nonempty a rest (sym (ap (λ b. cond b (a ∷ rest) rest) is) ∙ none))
filter-head a p rest false is none = (is, sym (ap (λ b. cond b (a ∷ rest) rest) is) ∙ none)

-- of an empty walk there are no members
filter-nothing : (n a : ℕ) (p : ℕ → Bool) → filter p (range_with_len a n) ≡ [] → (i : ℕ) → a ≤ i → i < a + n → p i ≡ false
filter-nothing zero a p none i low high = absurd (omega arith)
filter-nothing (suc n) a p none i low high =
    let here = filter-head a p (filter p (range_with_len (a + 1) n)) (p a) refl none in
    elim (cases_eq a i) [
      | inl at ↦ sym (ap p at) ∙ here.0
      | inr other ↦ filter-nothing n (a + 1) p here.1 i (omega arith) (omega arith)
    ]

pub nothing-from-walk : (p : ℕ → Bool) → walk p ≡ [] → (i : ℕ) → i < 16777216 → p i ≡ false
unfolding walk
nothing-from-walk p none i within = filter-nothing 16777216 0 p none i (omega arith) (omega arith)

-- what the first call of `next` tells of the members
pub nothing-from-next : (p : ℕ → Bool) (next : Option ℕ) (b : Bool) (left after : List ℕ) → left ≡ walk p → MatchOption next ((left ≡ []) × (after ≡ [])) (λ x. left ≡ x ∷ after) → is_some next ≡ not b → (IsTrue b → (i : ℕ) → i < 16777216 → p i ≡ false) × (((i : ℕ) → i < 16777216 → p i ≡ false) → IsTrue b)
nothing-from-next p None b left after is gave answer = (λ _. nothing-from-walk p (sym is ∙ gave.0), λ _. not-false b (sym answer))
nothing-from-next p (Some x) b left after is gave answer =
    (λ yes. absurd (true≢false (answer ∙ ap not yes)), λ none. absurd (nonempty x after (sym gave ∙ is ∙ walk-none p none)))
