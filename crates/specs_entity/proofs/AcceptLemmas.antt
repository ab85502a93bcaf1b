-- Deletions that are accepted bit by bit, and word by word.
use Rattle.std.proofs.Common.{◌≡◌, ◌≢◌, ◌⊎◌, ℕ, ◌+◌, ◌*◌, ◌/◌, ◌%◌, ◌<◌, ◌==◌, ◌&&◌, ◌||◌, nat_lt, Bool, true, false, Option, Some, None, unwrap_or, List, [], ◌∷◌, get_or, refl, sym, ap, ◌∙◌, arith, inl, inr, ⊎_elim, eq-eqb, ne_eqb}
use Rattle.std.proofs.lemmas.Bool.{true≢false, or_cases, or_left, or_right, and_parts}
use Rattle.std.specs.FinSet as fin
use Rattle.std.specs.Cmp.{nat_cmp_total}
use mathlib.Core.Logic.{dite}
use native.Mathlib.Decide.{ℕ_discrete}
use Rattle.hibitset_sets.specs.Bits.{has_bit}
use Rattle.hibitset_sets.specs.BitLemmas.{has_bit-zero}
use Rattle.hibitset_sets.proofs.CallerLemmas.{contains-with}
use Rattle.specs_entity.specs.Life.{Life, first_life}
use Rattle.specs_entity.specs.Births.{Births, living, living_of, persistent_at, entity_at, IsAlive, deleted}
use Rattle.specs_entity.specs.Accepting.{IsSameBut, accepted_in}
use Rattle.specs_entity.specs.PhaseViews.{all_accepted}
use Rattle.specs_entity.proofs.BirthLemmas.{births-same}

and-false : (test : Bool) → (test && false) ≡ false
and-false true = refl
and-false false = refl

-- two tests that imply each other are the same
pub same-test : (one other : Bool) → (one ≡ true → other ≡ true) → (other ≡ true → one ≡ true) → one ≡ other
same-test true other to from = sym (to refl)
same-test false true to from = from refl
same-test false false to from = refl

-- the test on a bit below a place in a word
abbrev below : ℕ → ℕ → ℕ → Bool
below word bit index = nat_lt (index % 64) bit && has_bit word (index % 64)

below-skips : (word bit index : ℕ) → has_bit word bit ≡ false → below word bit index ≡ below word (bit + 1) index
below-skips word bit index off = dite (ℕ_discrete (index % 64) bit)
    (λ same. let none_here : has_bit word (index % 64) ≡ false = ap (has_bit word) same ∙ off in
    ap (λ test. nat_lt (index % 64) bit && test) none_here ∙ and-false (nat_lt (index % 64) bit) ∙ sym (ap (λ test. nat_lt (index % 64) (bit + 1) && test) none_here ∙ and-false (nat_lt (index % 64) (bit + 1))))
    (λ differ. let equal : nat_lt (index % 64) bit ≡ nat_lt (index % 64) (bit + 1) = grind (arith, differ) in ap (λ test. test && has_bit word (index % 64)) equal)

below-other : (word bit index : ℕ) → index % 64 ≢ bit → below word bit index ≡ below word (bit + 1) index
below-other word bit index differ = let equal : nat_lt (index % 64) bit ≡ nat_lt (index % 64) (bit + 1) = grind (arith, differ) in ap (λ test. test && has_bit word (index % 64)) equal

below-here : (word bit index : ℕ) → index % 64 ≡ bit → has_bit word bit ≡ true → below word (bit + 1) index ≡ true
below-here word bit index same on = let past : nat_lt (index % 64) (bit + 1) ≡ true = grind (arith, same) in ap (λ test. test && has_bit word (index % 64)) past ∙ (ap (has_bit word) same ∙ on)

pub accepted-skips : (word place bit : ℕ) (births : Births) → has_bit word bit ≡ false → (index : ℕ) → accepted_in word place bit births index ≡ accepted_in word place (bit + 1) births index
accepted-skips word place bit births off index = ap (λ test. ((index / 64 == place) && test) || fin.contains births.deletions index) (below-skips word bit index off)

pub accepted-adds : (word place bit id : ℕ) (births : Births) → bit < 64 → has_bit word bit ≡ true → id ≡ place * 64 + bit → (index : ℕ) → ((index == id) || accepted_in word place bit births index) ≡ accepted_in word place (bit + 1) births index
accepted-adds word place bit id births low on is index = dite (ℕ_discrete index id)
    (λ same. let whole : index / 64 ≡ place = omega (arith, same, is, low) in let rest : index % 64 ≡ bit = omega (arith, same, is, low) in
    ap (λ test. test || accepted_in word place bit births index) (eq-eqb index id same)
    ∙ sym (ap (λ test. (test && below word (bit + 1) index) || fin.contains births.deletions index) (eq-eqb (index / 64) place whole) ∙ ap (λ test. (true && test) || fin.contains births.deletions index) (below-here word bit index rest on)))
    (λ differ. ap (λ test. test || accepted_in word place bit births index) (ne_eqb index id differ) ∙ dite (ℕ_discrete (index / 64) place)
    (λ whole. ap (λ test. ((index / 64 == place) && test) || fin.contains births.deletions index) (below-other word bit index (λ rest. differ (omega (arith, whole, rest, is, low)))))
    (λ away. ap (λ test. (test && below word bit index) || fin.contains births.deletions index) (ne_eqb (index / 64) place away) ∙ sym (ap (λ test. (test && below word (bit + 1) index) || fin.contains births.deletions index) (ne_eqb (index / 64) place away))))

-- with all bits of a word
pub accepted-whole : (word place : ℕ) (births : Births) (index : ℕ) → accepted_in word place 64 births index ≡ (((index / 64 == place) && has_bit word (index % 64)) || fin.contains births.deletions index)
accepted-whole word place births index = let low : nat_lt (index % 64) 64 ≡ true = grind arith in ap (λ test. ((index / 64 == place) && (test && has_bit word (index % 64))) || fin.contains births.deletions index) low

-- who lives at an index is alive
pub alive-entity : (births : Births) (index : ℕ) → (living births index ≡ None → ⊥) → IsAlive births (entity_at births index)
alive-entity births index some_there = by (living births index) refl
  where
    by : (found : Option Life) → living births index ≡ found → IsAlive births (entity_at births index)
    by None is = absurd (some_there is)
    by (Some life) is = is ∙ ap Some (sym (ap (λ (l : Option Life). unwrap_or l (unwrap_or (persistent_at births index) first_life)) is))

pub living-same : (before after : Births) → IsSameBut before after → (index : ℕ) → living after index ≡ living before index
living-same before after same index = λ j. living_of (fin.contains (same.fresh j) index) (get_or (same.persistent j) index None)

-- whether a number stands in a list
abbrev pub is_in : List ℕ → ℕ → Bool
is_in [] index = false
is_in (number ∷ numbers) index = (index == number) || is_in numbers index

turn : (a b c : Bool) → (a || (b || c)) ≡ ((b || a) || c)
turn true true c = refl
turn true false c = refl
turn false true c = refl
turn false false c = refl

-- accepting a list of deletions changes the deletions alone
pub accepted-list : (births : Births) (indices : List ℕ) → IsSameBut births (all_accepted births indices) × ((index : ℕ) → fin.contains (all_accepted births indices).deletions index ≡ (is_in indices index || fin.contains births.deletions index))
accepted-list births [] = (record { persistent = refl; fresh = refl; cache = refl; indices = refl; generations = refl }, λ index. refl)
accepted-list births (number ∷ numbers) =
    let rest = accepted-list (deleted births number) numbers in (
      record { persistent = rest.0.persistent; fresh = rest.0.fresh; cache = rest.0.cache; indices = rest.0.indices; generations = rest.0.generations },
      λ index. rest.1 index ∙ (ap (λ test. is_in numbers index || test) (contains-with births.deletions number index) ∙ turn (is_in numbers index) (index == number) (fin.contains births.deletions index)),
    )

-- births that differ from the same ones in the same deletions are the same
pub births-equal : (before one other : Births) → IsSameBut before one → IsSameBut before other → ((index : ℕ) → fin.contains one.deletions index ≡ fin.contains other.deletions index) → one ≡ other
births-equal before one other first second same = births-same one other (first.persistent ∙ sym second.persistent) (first.fresh ∙ sym second.fresh) (fin.same_set nat_cmp_total fin.nat_cmp-IsAntisymmetric one.deletions other.deletions same) (first.cache ∙ sym second.cache) (first.indices ∙ sym second.indices)
    (first.generations ∙ sym second.generations)

pub same-but-through : (one two three : Births) → IsSameBut one two → IsSameBut two three → IsSameBut one three
same-but-through one two three first second = record {
  persistent = second.persistent ∙ first.persistent;
  fresh = second.fresh ∙ first.fresh;
  cache = second.cache ∙ first.cache;
  indices = second.indices ∙ first.indices;
  generations = second.generations ∙ first.generations;
}

-- one word more
pub word-next : (words : ℕ → ℕ) (place word : ℕ) (was : Bool) (index : ℕ) → words place ≡ word
    → (((index / 64 == place) && has_bit word (index % 64)) || ((nat_lt (index / 64) place && has_bit (words (index / 64)) (index % 64)) || was)) ≡ ((nat_lt (index / 64) (place + 1) && has_bit (words (index / 64)) (index % 64)) || was)
word-next words place word was index is = dite (ℕ_discrete (index / 64) place)
    (λ same.
    let here : (index / 64 == place) ≡ true = eq-eqb (index / 64) place same in
    let not_yet : nat_lt (index / 64) place ≡ false = grind (arith, same) in
    let now_in : nat_lt (index / 64) (place + 1) ≡ true = grind (arith, same) in
    let same_bit : has_bit word (index % 64) ≡ has_bit (words (index / 64)) (index % 64) = ap (λ w. has_bit w (index % 64)) (sym (ap words same ∙ is)) in
    ap (λ test. (test && has_bit word (index % 64)) || ((nat_lt (index / 64) place && has_bit (words (index / 64)) (index % 64)) || was)) here
    ∙ (ap (λ test. has_bit word (index % 64) || ((test && has_bit (words (index / 64)) (index % 64)) || was)) not_yet
    ∙ (ap (λ test. test || was) same_bit ∙ sym (ap (λ test. (test && has_bit (words (index / 64)) (index % 64)) || was) now_in))))
    (λ differ.
    let there : (index / 64 == place) ≡ false = ne_eqb (index / 64) place differ in
    let equal : nat_lt (index / 64) place ≡ nat_lt (index / 64) (place + 1) = grind (arith, differ) in
    ap (λ test. (test && has_bit word (index % 64)) || ((nat_lt (index / 64) place && has_bit (words (index / 64)) (index % 64)) || was)) there
    ∙ ap (λ test. (test && has_bit (words (index / 64)) (index % 64)) || was) equal)

-- a word that is zero adds none
pub no-bits : (word place index : ℕ) (was : Bool) → word ≡ 0 → was ≡ (((index / 64 == place) && has_bit word (index % 64)) || was)
no-bits word place index was zero_word = sym (ap (λ test. ((index / 64 == place) && test) || was) (ap (λ w. has_bit w (index % 64)) zero_word ∙ has_bit-zero (index % 64)) ∙ ap (λ test. test || was) (and-false (index / 64 == place)))

-- the bits of all words and the old deletions are the listed and the old
pub all-words : (first : ℕ) (words : ℕ → ℕ) (listed : List ℕ) (old : ℕ → Bool) → ((index : ℕ) → index < 64 * first → has_bit (words (index / 64)) (index % 64) ≡ true → (is_in listed index ≡ true) ⊎ (old index ≡ true))
    → ((index : ℕ) → is_in listed index ≡ true → (index < 64 * first) × (has_bit (words (index / 64)) (index % 64) ≡ true)) → (index : ℕ) → ((nat_lt (index / 64) first && has_bit (words (index / 64)) (index % 64)) || old index) ≡ (is_in listed index || old index)
all-words first words listed old to from index = same-test _ _
    (λ is. ⊎_elim
    (λ set_bit. let parts = and_parts (nat_lt (index / 64) first) _ set_bit in let low : index / 64 < first = grind (arith, parts.0) in
    ⊎_elim (or_left (is_in listed index) (old index)) (or_right (is_in listed index) (old index)) (to index (omega (arith, low)) parts.1))
    (or_right (is_in listed index) (old index)) (or_cases (nat_lt (index / 64) first && has_bit (words (index / 64)) (index % 64)) (old index) is))
    (λ is. ⊎_elim
    (λ named. let there = from index named in let low : nat_lt (index / 64) first ≡ true = grind (arith, there.0) in
    or_left (nat_lt (index / 64) first && has_bit (words (index / 64)) (index % 64)) (old index) (ap (λ test. test && has_bit (words (index / 64)) (index % 64)) low ∙ there.1))
    (or_right (nat_lt (index / 64) first && has_bit (words (index / 64)) (index % 64)) (old index)) (or_cases (is_in listed index) (old index) is))
