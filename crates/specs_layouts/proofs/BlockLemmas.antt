-- Blocks of events: the indices that they name, and their events one after the other.
use Rattle.std.proofs.Common.{◌≡◌, ◌≢◌, ◌⊎◌, inl, inr, ℕ, zero, suc, ◌+◌, ◌*◌, ◌/◌, ◌%◌, ◌^◌, ◌<◌, ◌≤◌, Bool, true, false, cond, eqb, ltb, ◌&&◌, ◌||◌, bit_or, List, [], ◌∷◌, ◌++◌, length, map, filter, take, drop, get_or, refl, ap, sym, ◌∙◌, arith}
use Rattle.std.specs.List.{list_any, range_with_len}
use Rattle.std.proofs.lemmas.Bool.{cases_eq, cases_lt, eq-eqb, ne_eqb, lt-ltb, ltb-true, or_left}
use Rattle.std.proofs.lemmas.List.{append-nil, take-append-drop}
use Rattle.std.proofs.lemmas.Grind.{flat_map-append}
use Rattle.std.proofs.Math.Seq.{drop-cons, take-suc}
use Rattle.hibitset_sets.specs.Assign.{AddsWord}
use Rattle.hibitset_sets.specs.Bits.{has_bit}
use Rattle.hibitset_sets.specs.BitLemmas.{has_bit-set_same, has_bit-set_other}
use Rattle.hibitset_sets.specs.Walk.{word_indices}
use Rattle.specs_layouts.specs.Blocks.{is_named, same_events, block_events, all_events}
use Rattle.specs_layouts.specs.declared.blocks.Block.{Block}

-- ---- the indices of a word

any-out : (n a : ℕ) (p : ℕ → Bool) (i : ℕ) → (i < a) ⊎ (a + n ≤ i) → list_any (λ j. eqb j i) (filter p (range_with_len a n)) ≡ false
any-out zero a p i out = refl
any-out (suc n) a p i out =
    let apart : a ≢ i = elim out [ inl below ↦ omega (arith, below) | inr above ↦ omega (arith, above) ] in
    let rest = any-out n (a + 1) p i (elim out [ inl below ↦ inl (omega (arith, below)) | inr above ↦ inr (omega (arith, above)) ]) in
    elim (p a) as (λ b. list_any (λ j. eqb j i) (cond b (a ∷ filter p (range_with_len (a + 1) n)) (filter p (range_with_len (a + 1) n))) ≡ false) [
      | true ↦ ap (λ b. b || list_any (λ j. eqb j i) (filter p (range_with_len (a + 1) n))) (ne_eqb a i apart) ∙ rest
      | false ↦ rest
    ]

any-in : (n a : ℕ) (p : ℕ → Bool) (i : ℕ) → a ≤ i → i < a + n → list_any (λ j. eqb j i) (filter p (range_with_len a n)) ≡ p i
any-in zero a p i low high = absurd (omega (arith, low, high))
any-in (suc n) a p i low high = elim (cases_eq a i) [
  | inl here ↦
      let out = any-out n (a + 1) p i (inl (omega (arith, here))) in
      by here (p a) refl out ∙ ap p here
  | inr apart ↦
      let rest = any-in n (a + 1) p i (omega (arith, low, apart)) (omega (arith, high)) in
      elim (p a) as (λ b. list_any (λ j. eqb j i) (cond b (a ∷ filter p (range_with_len (a + 1) n)) (filter p (range_with_len (a + 1) n))) ≡ p i) [
        | true ↦ ap (λ b. b || list_any (λ j. eqb j i) (filter p (range_with_len (a + 1) n))) (ne_eqb a i apart) ∙ rest
        | false ↦ rest
      ]
]
  where
    by : a ≡ i → (b : Bool) → p a ≡ b → list_any (λ j. eqb j i) (filter p (range_with_len (a + 1) n)) ≡ false → list_any (λ j. eqb j i) (cond b (a ∷ filter p (range_with_len (a + 1) n)) (filter p (range_with_len (a + 1) n))) ≡ b
    by here true is out = or_left _ _ (eq-eqb a i here)
    by here false is out = out

pub word-any : (place bits i : ℕ) → list_any (λ j. eqb j i) (word_indices place bits) ≡ (eqb (i / 64) place && has_bit bits (i % 64))
unfolding word_indices
word-any place bits i = elim (cases_eq (i / 64) place) [
  | inl here ↦
      any-in 64 (64 * place) (λ index. has_bit bits (index % 64)) i (omega (arith, here)) (omega (arith, here))
      ∙ ap (λ b. b && has_bit bits (i % 64)) (sym (eq-eqb _ _ here))
  | inr apart ↦
      any-out 64 (64 * place) (λ index. has_bit bits (index % 64)) i (out apart)
      ∙ ap (λ b. b && has_bit bits (i % 64)) (sym (ne_eqb _ _ apart))
]
  where
    out : i / 64 ≢ place → (i < 64 * place) ⊎ (64 * place + 64 ≤ i)
    out apart = elim (cases_lt i (64 * place)) [
      | inl below ↦ inl below
      | inr above ↦ inr (omega (arith, above, apart))
    ]

-- ---- the indices that events name

or-none : (a b : Bool) → b ≡ false → a ≡ (a || b)
or-none true b none = refl
or-none false b none = sym none

below-none : (below : Bool) (a b : Bool) → (below ≡ true → a ≡ false) → (below ≡ true → b ≡ false) → (below && (a || b)) ≡ false
below-none false a b one other = refl
below-none true a b one other = ap (λ c. c || b) (one refl) ∙ other refl

module _ {E : Type 0} (index_of : E → ℕ) (same_at : E → ℕ → E) where
  module _ (index_at : (event : E) (index : ℕ) → index_of (same_at event index) ≡ index) (event : E) (more : ℕ) (i : ℕ) where
    any-same : (indices : List ℕ) → list_any (λ e. eqb (index_of e) i) (map (same_at event) indices) ≡ list_any (λ j. eqb j i) indices
    any-same [] = refl
    any-same (index ∷ indices) = (λ j. eqb (index_at event index j) i || any-same indices j)

    -- those of an event and of the same at further indices of its word
    pub named-same : is_named index_of (same_events index_of same_at event more) i ≡ (eqb (index_of event) i || (eqb (i / 64) (index_of event / 64) && has_bit more (i % 64)))
    named-same = ap (λ b. eqb (index_of event) i || b) (any-same (word_indices (index_of event / 64) more) ∙ word-any (index_of event / 64) more i)

    -- none of them is below 2 ^ 24 where the event's isn't
    pub named-past : 16777216 ≤ index_of event → (old : Bool) → old ≡ (old || (ltb i 16777216 && is_named index_of (same_events index_of same_at event more) i))
    named-past past old =
        let own : ltb i 16777216 ≡ true → eqb (index_of event) i ≡ false = λ low. ne_eqb _ _ (λ here. let below = ltb-true i 16777216 low in omega (arith, past, here, below)) in
        let others : ltb i 16777216 ≡ true → (eqb (i / 64) (index_of event / 64) && has_bit more (i % 64)) ≡ false =
        λ low. ap (λ b. b && has_bit more (i % 64)) (ne_eqb _ _ (λ here. let below = ltb-true i 16777216 low in omega (arith, past, here, below))) in
        or-none old _ (ap (λ b. ltb i 16777216 && b) named-same ∙ below-none (ltb i 16777216) _ _ own others)

    -- else they come in with the word
    pub named-added : (index : ℕ) → index ≡ index_of event → index < 16777216 → (old new : ℕ → Bool) → AddsWord old (index / 64) (bit_or more (2 ^ (index % 64))) new
        → new i ≡ (old i || (ltb i 16777216 && is_named index_of (same_events index_of same_at event more) i))
    named-added index is low old new adds = adds i ∙ ap (λ b. old i || b) (elim (cases_eq (i / 64) (index / 64)) [
      | inl here ↦
          let below : i < 16777216 = omega (arith, low, here) in
          ap (λ b. b && has_bit (bit_or more (2 ^ (index % 64))) (i % 64)) (eq-eqb _ _ here)
          ∙ at-word here (cases_eq (i % 64) (index % 64))
          ∙ ap (λ b. eqb index i || (b && has_bit more (i % 64))) (sym (eq-eqb _ _ here))
          ∙ ap (λ n. eqb n i || (eqb (i / 64) (n / 64) && has_bit more (i % 64))) is
          ∙ sym named-same
          ∙ ap (λ b. b && is_named index_of (same_events index_of same_at event more) i) (sym (lt-ltb _ _ below))
      | inr apart ↦
          ap (λ b. b && has_bit (bit_or more (2 ^ (index % 64))) (i % 64)) (ne_eqb _ _ apart)
          ∙ sym (ap (λ b. ltb i 16777216 && b) named-same ∙ below-none (ltb i 16777216) _ _
          (λ _. ne_eqb _ _ (λ here. apart (ap (λ n. n / 64) (sym here) ∙ ap (λ n. n / 64) (sym is))))
          (λ _. ap (λ b. b && has_bit more (i % 64)) (ne_eqb _ _ (λ here. apart (here ∙ ap (λ n. n / 64) (sym is))))))
    ])
      where
        at-word : i / 64 ≡ index / 64 → (i % 64 ≡ index % 64) ⊎ (i % 64 ≢ index % 64) → has_bit (bit_or more (2 ^ (index % 64))) (i % 64) ≡ (eqb index i || has_bit more (i % 64))
        at-word here (inl same) =
            ap (has_bit (bit_or more (2 ^ (index % 64)))) same ∙ has_bit-set_same more (index % 64) (omega arith)
            ∙ sym (or_left _ _ (eq-eqb index i (omega (arith, here, same))))
        at-word here (inr other) =
            has_bit-set_other more (index % 64) (i % 64) other
            ∙ ap (λ b. b || has_bit more (i % 64)) (sym (ne_eqb index i (λ e. other (ap (λ n. n % 64) (sym e)))))

  -- ---- events one after the other

  pub all-append : (one two : List (Block E)) → all_events index_of same_at (one ++ two) ≡ all_events index_of same_at one ++ all_events index_of same_at two
  all-append one two = flat_map-append (block_events index_of same_at) one two

  pub all-cut : (blocks : List (Block E)) (k : ℕ) → all_events index_of same_at blocks ≡ all_events index_of same_at (take k blocks) ++ all_events index_of same_at (drop k blocks)
  all-cut blocks k = ap (all_events index_of same_at) (sym (take-append-drop k blocks)) ∙ all-append (take k blocks) (drop k blocks)
