-- Assignments word by word: the words before a place are done, those from it on are left.
use Rattle.std.proofs.Common.{◌≡◌, ℕ, zero, suc, ◌+◌, ◌/◌, ◌%◌, ◌<◌, ◌≤◌, Bool, true, false, cond, eqb, inl, inr, sym, ap, ◌∙◌, arith, ◌∷◌}
use Rattle.std.specs.List.{All, list_any, range_with_len}
use Rattle.std.proofs.lemmas.List.Elements.{filter_passes}
use Rattle.std.proofs.Common.{filter}
use Rattle.std.proofs.lemmas.Bool.{cases_eq, eq-eqb, ne_eqb, or_left, or_right}
use Rattle.hibitset_sets.specs.Bits.{has_bit}
use Rattle.hibitset_sets.specs.Walk.{walk}
use Rattle.hibitset_sets.specs.Words.{word_of, is_marked}
use Rattle.hibitset_sets.specs.WordLemmas.{words_agree-word_of}
use Rattle.hibitset_sets.specs.Assign.{PutsWord}

-- below the place the members are done, from it on they are as they were
pub record IsAssigned (op : Bool → Bool → Bool) (old other : ℕ → Bool) (place : ℕ) (new : ℕ → Bool) : Type 0 where
  pub done : (i : ℕ) → i / 64 < place → new i ≡ op (old i) (other i)
  pub left : (i : ℕ) → place ≤ i / 64 → new i ≡ old i

-- one word more
pub assigned-more : (op : Bool → Bool → Bool) (old other : ℕ → Bool) (place word : ℕ) (before after : ℕ → Bool) → IsAssigned op old other place before → PutsWord before place word after → ((i : ℕ) → i / 64 ≡ place → has_bit word (i % 64) ≡ op (before i) (other i)) → IsAssigned op old other (place + 1) after
assigned-more op old other place word before after assigned puts bits =
    record {
      done = λ i low.
          puts i ∙ elim (cases_eq (i / 64) place) [
            | inl here ↦ ap (λ b. cond b (has_bit word (i % 64)) (before i)) (eq-eqb _ _ here) ∙ bits i here ∙ ap (λ b. op b (other i)) (assigned.left i (omega arith))
            | inr there ↦ ap (λ b. cond b (has_bit word (i % 64)) (before i)) (ne_eqb _ _ there) ∙ assigned.done i (omega arith)
          ];
      left = λ i high. puts i ∙ ap (λ b. cond b (has_bit word (i % 64)) (before i)) (ne_eqb _ _ (λ e. omega arith)) ∙ assigned.left i (omega arith);
    }

-- ---- members and their walk

walked : (n a : ℕ) (p : ℕ → Bool) (i : ℕ) → a ≤ i → i < a + n → p i ≡ true → list_any (eqb i) (filter p (range_with_len a n)) ≡ true
walked zero a p i low high member = absurd (omega arith)
walked (suc n) a p i low high member =
    elim (cases_eq i a) [
      | inl here ↦ ap (λ b. list_any (eqb i) (cond b (a ∷ filter p (range_with_len (a + 1) n)) (filter p (range_with_len (a + 1) n)))) (ap p (sym here) ∙ member) ∙ or_left _ _ (eq-eqb i a here)
      | inr there ↦
          let rest = walked n (a + 1) p i (omega arith) (omega arith) member in
          elim (p a) as (λ b. list_any (eqb i) (cond b (a ∷ filter p (range_with_len (a + 1) n)) (filter p (range_with_len (a + 1) n))) ≡ true) [ true ↦ or_right _ _ rest | false ↦ rest ]
    ]

-- a member below 2 ^ 24 is on the walk
pub any-walk : (p : ℕ → Bool) (i : ℕ) → i < 16777216 → p i ≡ true → list_any (eqb i) (walk p) ≡ true
unfolding walk
any-walk p i within member = walked 16777216 0 p i (omega arith) (omega arith) member

-- a walk comes to members alone
pub members-walked : (p : ℕ → Bool) → All (λ i. p i ≡ true) (walk p)
unfolding walk
members-walked p = filter_passes p (range_with_len 0 16777216)

-- ---- the bits of one word of layer 0

pub own-bit : (members : ℕ → Bool) (place own i : ℕ) → own ≡ word_of members 0 place → i / 64 ≡ place → has_bit own (i % 64) ≡ members i
own-bit members place own i is here = ap (λ w. has_bit w (i % 64)) (is ∙ ap (word_of members 0) (sym here)) ∙ words_agree-word_of members i

pub other-bit : (members : ℕ → Bool) (words : ℕ → ℕ → ℕ) → ((i : ℕ) → i < 16777216 → is_marked words 0 i ≡ members i) → (place other i : ℕ) → other ≡ words 0 place → i / 64 ≡ place → i < 16777216 → has_bit other (i % 64) ≡ members i
other-bit members words agree place other i is here within = ap (λ w. has_bit w (i % 64)) (is ∙ ap (words 0) (sym here)) ∙ agree i within
