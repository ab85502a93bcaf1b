-- What cutting a word does to the walk under it.
use Rattle.std.proofs.Common.{◌≡◌, ◌≢◌, ℕ, zero, suc, ◌+◌, ◌*◌, ◌/◌, ◌%◌, ◌<◌, ◌≤◌, List, [], ◌∷◌, ◌++◌, Bool, true, false, ◌&&◌, ◌||◌, cond, filter, eqb, inl, inr, refl, sym, ap, ◌∙◌, subst, arith, slice_index}
use Rattle.std.specs.List.{range_with_len, All}
use Rattle.std.proofs.lemmas.Bool.{cases_eq, cases_lt, true≢false, eq-eqb, eqb-true, ne_eqb, and_parts, and_from, and_left, and_right}
use Rattle.hibitset_sets.specs.Bits.{has_bit}
use Rattle.hibitset_sets.specs.Words.{is_marked, StandsOver}
use Rattle.hibitset_sets.specs.Walk.{walk, is_left, is_pending, IsPlacedAt, IsPlaced}
use Rattle.hibitset_sets.proofs.CallerLemmas.{left-empty, ones-set, ones-clear, walk-same, filter-same, filter-none}
use Rattle.hibitset_sets.specs.Average.{IsAverage, ones_below}
use Rattle.hibitset_sets.specs.BitLemmas.{has_bit-and, has_bit-not, nonzero_of_has_bit}
use Rattle.hibitset.specs.Standing.{IsFirstBit, IsBelow, IsFrom, IsFound, IsCutOf}
use Rattle.std.proofs.Common.{mul_comm, bit_and, not, ◌-◌, ◌^◌, length, Option, Some, None, MatchOption}
use Rattle.std.proofs.lemmas.List.{get_or_past}
use Rattle.hibitset.specs.Producer.{IsAlone, IsCut}
use Rattle.std.specs.Int.{bit_not, w64}
use Rattle.std.proofs.lemmas.Nat.Bits.{bit_at_ones, bit_at_ones_above, bit_at_above}
use Rattle.hibitset.specs.Cut.{number_in, first_under, IsOnlyBit, IsCutAt, is_under}
use Rattle.hibitset_sets.specs.BitSetEq.{both_ways}

-- ---- a walk cut at an index

cond-append : (b : Bool) (a : ℕ) (xs ys : List ℕ) → cond b (a ∷ xs) xs ++ ys ≡ cond b (a ∷ (xs ++ ys)) (xs ++ ys)
cond-append true a xs ys = refl
cond-append false a xs ys = refl

-- the indices below a number and those from it on, of one test
pub record IsCutBy (cut : ℕ) (all low high : ℕ → Bool) : Type 0 where
  pub low_below : (i : ℕ) → i < 16777216 → i < cut → low i ≡ all i
  pub low_from : (i : ℕ) → i < 16777216 → cut ≤ i → low i ≡ false
  pub high_below : (i : ℕ) → i < 16777216 → i < cut → high i ≡ false
  pub high_from : (i : ℕ) → i < 16777216 → cut ≤ i → high i ≡ all i

filter-cut : (n a cut : ℕ) (all low high : ℕ → Bool) → a + n ≤ 16777216 → IsCutBy cut all low high → filter low (range_with_len a n) ++ filter high (range_with_len a n) ≡ filter all (range_with_len a n)
filter-cut zero a cut all low high within by = refl
filter-cut (suc n) a cut all low high within by =
    elim (cases_lt a cut) [
      | inl below ↦
          ap (λ b. cond b (a ∷ filter low (range_with_len (a + 1) n)) (filter low (range_with_len (a + 1) n)) ++ filter high (range_with_len a (suc n))) (by.low_below a (omega arith) below)
          ∙ ap (λ b. cond (all a) (a ∷ filter low (range_with_len (a + 1) n)) (filter low (range_with_len (a + 1) n)) ++ cond b (a ∷ filter high (range_with_len (a + 1) n)) (filter high (range_with_len (a + 1) n))) (by.high_below a (omega arith) below)
          ∙ cond-append (all a) a (filter low (range_with_len (a + 1) n)) (filter high (range_with_len (a + 1) n))
          ∙ ap (λ xs. cond (all a) (a ∷ xs) xs) (filter-cut n (a + 1) cut all low high (omega arith) by)
      | inr from ↦
          ap (λ xs. xs ++ filter high (range_with_len a (suc n))) (filter-none (suc n) a low (λ i lo hi. by.low_from i (omega arith) (omega arith)))
          ∙ filter-same (suc n) a high all (λ i lo hi. by.high_from i (omega arith) (omega arith))
    ]

-- the walk of what is cut is a walk and then the other
pub walk-cut : (cut : ℕ) (all low high : ℕ → Bool) → IsCutBy cut all low high → walk low ++ walk high ≡ walk all
unfolding walk
walk-cut cut all low high by = filter-cut 16777216 0 cut all low high (omega arith) by

-- ---- numbers in a layer

-- an index is below the first under a number exactly where its number is below that
pub below-first : (layer number index : ℕ) → number_in layer index < number → index < first_under layer number
below-first zero number index below = below
below-first (suc layer) number index below = below-first layer (64 * number) index (let b : number_in layer index / 64 < number = below in omega arith)

pub from-first : (layer number index : ℕ) → number ≤ number_in layer index → first_under layer number ≤ index
from-first zero number index from = from
from-first (suc layer) number index from = from-first layer (64 * number) index (let b : number ≤ number_in layer index / 64 = from in omega arith)

module _ (members : ℕ → Bool) (words : ℕ → ℕ → ℕ) (over : StandsOver words) (agree : (i : ℕ) → i < 16777216 → is_marked words 0 i ≡ members i) where
  -- a member is marked in each layer
  pub marked : (layer i : ℕ) → i < 16777216 → members i ≡ true → is_marked words layer (number_in layer i) ≡ true
  marked zero i within member = agree i within ∙ member
  marked (suc layer) i within member = over layer (number_in layer i) (marked layer i within member)

  -- where one bit alone is set, the members under the word are those under the word below that bit
  pub only-bit : (layer first word place i : ℕ) → first % 64 ≡ 0 → IsOnlyBit word place → i < 16777216
      → (members i && is_under (suc layer) first word i) ≡ (members i && is_under layer (64 * (first + place)) (words layer (first + place)) i)
  only-bit layer first word place i aligned only within =
      let w = only.within in
      both_ways _ _
      (λ yes.
      let both = and_parts _ _ yes in
      let under = and_parts _ _ both.1 in
      let place_is : number_in layer i / 64 % 64 ≡ place = only.alone (number_in layer i / 64 % 64) (omega arith) under.1 in
      let word_is : number_in layer i / 64 / 64 ≡ first / 64 = eqb-true _ _ under.0 in
      let number : number_in layer i / 64 ≡ first + place = omega arith in
      and_from _ _ both.0 (and_from _ _ (eq-eqb _ _ (let e : number_in layer i / 64 ≡ 64 * (first + place) / 64 = omega arith in e)) (subst (λ n. has_bit (words layer n) (number_in layer i % 64) ≡ true) number (marked layer i within both.0))))
      (λ yes.
      let both = and_parts _ _ yes in
      let under = and_parts _ _ both.1 in
      let word_is : number_in layer i / 64 ≡ 64 * (first + place) / 64 = eqb-true _ _ under.0 in
      let number : number_in layer i / 64 ≡ first + place = omega arith in
      and_from _ _ both.0 (and_from _ _ (eq-eqb _ _ (let e : number_in layer i / 64 / 64 ≡ first / 64 = omega arith in e)) (subst (λ n. has_bit word n ≡ true) (let e : place ≡ number_in layer i / 64 % 64 = omega arith in e) only.set)))

-- ---- bits of a word, below a place and from it on

under-same : (layer first word word' i : ℕ) → (number_in layer i / 64 ≡ first / 64 → has_bit word (number_in layer i % 64) ≡ has_bit word' (number_in layer i % 64)) → is_under layer first word i ≡ is_under layer first word' i
under-same layer first word word' i same =
    elim (cases_eq (number_in layer i / 64) (first / 64)) [
      | inl here ↦ ap (λ b. eqb (number_in layer i / 64) (first / 64) && b) (same here)
      | inr there ↦ and_left _ _ (ne_eqb _ _ there) ∙ sym (and_left _ _ (ne_eqb _ _ there))
    ]

under-none : (layer first word i : ℕ) → (number_in layer i / 64 ≡ first / 64 → has_bit word (number_in layer i % 64) ≡ false) → is_under layer first word i ≡ false
under-none layer first word i none =
    elim (cases_eq (number_in layer i / 64) (first / 64)) [
      | inl here ↦ and_right _ _ (none here)
      | inr there ↦ and_left _ _ (ne_eqb _ _ there)
    ]

-- an index below the first under a number has a number below it
number-below : (layer number index : ℕ) → index < first_under layer number → number_in layer index < number
number-below layer number index below =
    elim (cases_lt (number_in layer index) number) [
      | inl low ↦ low
      | inr from ↦ absurd (let c = from-first layer number index from in omega arith)
    ]

number-from : (layer number index : ℕ) → first_under layer number ≤ index → number ≤ number_in layer index
number-from layer number index from =
    elim (cases_lt (number_in layer index) number) [
      | inl low ↦ absurd (let c = below-first layer number index low in omega arith)
      | inr high ↦ high
    ]

-- the members under a word, cut at a place of it
pub under-cut : (members : ℕ → Bool) (layer first word low high place : ℕ) → first % 64 ≡ 0 → place < 64 → IsBelow word place low → IsFrom word place high
    → IsCutBy (first_under layer (first + place)) (λ i. members i && is_under layer first word i) (λ i. members i && is_under layer first low i) (λ i. members i && is_under layer first high i)
under-cut members layer first word low high place aligned within below from = record {
  low_below = λ i limit lower. ap (λ b. members i && b) (under-same layer first low word i (λ here. let n = number-below layer (first + place) i lower in below.kept (number_in layer i % 64) (omega arith) (omega arith)));
  low_from = λ i limit upper. and_right _ _ (under-none layer first low i (λ here. let n = number-from layer (first + place) i upper in below.gone (number_in layer i % 64) (omega arith) (omega arith)));
  high_below = λ i limit lower. and_right _ _ (under-none layer first high i (λ here. let n = number-below layer (first + place) i lower in from.gone (number_in layer i % 64) (omega arith) (omega arith)));
  high_from = λ i limit upper. ap (λ b. members i && b) (under-same layer first high word i (λ here. let n = number-from layer (first + place) i upper in from.kept (number_in layer i % 64) (omega arith) (omega arith)));
}

has_bit-ones_low : (place i : ℕ) → i < place → has_bit (2 ^ place - 1) i ≡ true
unfolding has_bit
has_bit-ones_low place i low = ap (λ x. eqb x 1) (bit_at_ones place i low)

has_bit-ones_high : (place i : ℕ) → place ≤ i → has_bit (2 ^ place - 1) i ≡ false
unfolding has_bit
has_bit-ones_high place i high = ap (λ x. eqb x 1) (bit_at_ones_above place i high)

and_true : (a : Bool) → (a && true) ≡ a
and_true true = refl
and_true false = refl

pub below-is : (word place : ℕ) → IsBelow word place (bit_and word (2 ^ place - 1))
below-is word place = record {
  kept = λ i within low. has_bit-and word (2 ^ place - 1) i ∙ ap (λ b. has_bit word i && b) (has_bit-ones_low place i low) ∙ and_true (has_bit word i);
  gone = λ i within high. has_bit-and word (2 ^ place - 1) i ∙ and_right _ _ (has_bit-ones_high place i high);
}

pub from-is : (word place : ℕ) → 2 ^ place ≤ 2 ^ 64 → IsFrom word place (bit_and word (bit_not w64 (2 ^ place - 1)))
from-is word place small =
    let fits : 2 ^ place - 1 < 2 ^ 64 = omega arith in
    record {
      gone = λ i within low. has_bit-and word (bit_not w64 (2 ^ place - 1)) i ∙ and_right _ _ (has_bit-not (2 ^ place - 1) i fits within ∙ ap not (has_bit-ones_low place i low));
      kept = λ i within high. has_bit-and word (bit_not w64 (2 ^ place - 1)) i ∙ ap (λ b. has_bit word i && b) (has_bit-not (2 ^ place - 1) i fits within ∙ ap not (has_bit-ones_high place i high)) ∙ and_true (has_bit word i);
    }

-- ---- where a word is cut

pub cut-here : (words : ℕ → ℕ → ℕ) (lowest layer first word place : ℕ) → 0 < layer → lowest ≤ layer → IsAverage word place → IsCutAt words lowest layer first word (first_under layer (first + place))
cut-here words lowest zero first word place above low average = absurd (omega arith)
cut-here words lowest (suc layer) first word place above low average = (low, inl (place, average, refl))

pub cut-under : (words : ℕ → ℕ → ℕ) (lowest layer below first word place index : ℕ) → layer ≡ suc below → lowest ≤ layer → IsOnlyBit word place → IsCutAt words lowest below (64 * (first + place)) (words below (first + place)) index → IsCutAt words lowest layer first word index
cut-under words lowest layer below first word place index is low only cut =
    subst (λ l. IsCutAt words lowest l first word index) (sym is) (let low' : lowest ≤ suc below = omega arith in (low', inr (place, only, cut)))

pub no-cut-low : (words : ℕ → ℕ → ℕ) (lowest layer first word index : ℕ) → layer < lowest → IsCutAt words lowest layer first word index → ⊥
no-cut-low words lowest zero first word index low cut = cut
no-cut-low words lowest (suc layer) first word index low cut = let l = cut.0 in absurd (omega arith)

pub no-cut-zero : (words : ℕ → ℕ → ℕ) (lowest layer first word index : ℕ) → word ≡ 0 → IsCutAt words lowest layer first word index → ⊥
no-cut-zero words lowest zero first word index none cut = cut
no-cut-zero words lowest (suc layer) first word index none cut =
    elim cut.1 [
      | inl here ↦ let n = nonzero_of_has_bit word here.0 here.1.set in absurd (omega arith)
      | inr under ↦ let n = nonzero_of_has_bit word under.0 under.1.set in absurd (omega arith)
    ]

ones-grow : (more k word : ℕ) → ones_below word k ≤ ones_below word (k + more)
ones-grow zero k word = let e = ap (ones_below word) (let e : k + 0 ≡ k = omega arith in e) in omega arith
ones-grow (suc more) k word =
    let rest = ones-grow more k word in
    let next = ap (ones_below word) (let e : k + suc more ≡ k + more + 1 = omega arith in e) in
    elim (has_bit word (k + more)) as (λ b. has_bit word (k + more) ≡ b → ones_below word k ≤ ones_below word (k + suc more)) [
      | true ↦ λ set. let one = ones-set (k + more) word set in omega arith
      | false ↦ λ clear. let one = ones-clear (k + more) word clear in omega arith
    ] refl

pub ones-mono : (k n word : ℕ) → k ≤ n → ones_below word k ≤ ones_below word n
ones-mono k n word le =
    let grown = ones-grow (n - k) k word in
    let at = ap (ones_below word) (let e : k + (n - k) ≡ n = omega arith in e) in
    omega arith

-- a middle bit says that there are two
pub average-two : (word place : ℕ) → place < 64 → IsAverage word place → 2 ≤ ones_below word 64
average-two word place within average =
    let next = ones-set place word average.set in
    let all = ones-mono (place + 1) 64 word (omega arith) in
    let half = average.half in
    omega arith

two-bits : (word low high : ℕ) → low < high → high < 64 → has_bit word low ≡ true → has_bit word high ≡ true → 2 ≤ ones_below word 64
two-bits word low high apart within low_set high_set =
    let one = ones-set low word low_set in
    let between = ones-mono (low + 1) high word (omega arith) in
    let two = ones-set high word high_set in
    let all = ones-mono (high + 1) 64 word (omega arith) in
    omega arith

-- the only bit of a word with fewer than two
pub only-from-few : (word place : ℕ) → place < 64 → has_bit word place ≡ true → ones_below word 64 < 2 → IsOnlyBit word place
only-from-few word place within set few = record {
  within = within;
  set = set;
  alone = λ i i_within i_set.
      elim (cases_eq i place) [
        | inl here ↦ here
        | inr there ↦
            elim (cases_lt i place) [
              | inl low ↦ absurd (let two = two-bits word i place low within i_set set in omega arith)
              | inr high ↦ absurd (let two = two-bits word place i (omega arith) i_within set i_set in omega arith)
            ]
      ];
}

-- the places of a word's bits are below 64
pub bit-within : (word place : ℕ) → word < 2 ^ 64 → has_bit word place ≡ true → place < 64
unfolding has_bit
bit-within word place fits set =
    elim (cases_lt place 64) [
      | inl low ↦ low
      | inr high ↦ absurd (true≢false (sym set ∙ ap (λ x. eqb x 1) (bit_at_above word 64 place fits high)))
    ]

pub no-cut-under : (words : ℕ → ℕ → ℕ) (lowest layer below first word place index : ℕ) → layer ≡ suc below → word < 2 ^ 64 → ones_below word 64 < 2 → IsOnlyBit word place → (IsCutAt words lowest below (64 * (first + place)) (words below (first + place)) index → ⊥) → IsCutAt words lowest layer first word index → ⊥
no-cut-under words lowest layer below first word place index is fits few only none cut =
    let cut' : IsCutAt words lowest (suc below) first word index = subst (λ l. IsCutAt words lowest l first word index) is cut in
    elim cut'.1 [
      | inl here ↦ let two = average-two word here.0 (bit-within word here.0 fits here.1.set) here.1 in absurd (omega arith)
      | inr under ↦
          let same : under.0 ≡ place = only.alone under.0 under.1.within under.1.set in
          none (subst (λ p. IsCutAt words lowest below (64 * (first + p)) (words below (first + p)) index) same under.2)
    ]

-- ---- masks of which one layer alone has bits left

number_three : (i : ℕ) → number_in 3 i ≡ i / 262144
number_three i = (let e : i / 64 / 64 / 64 ≡ i / 262144 = omega arith in e)

number_two : (i : ℕ) → number_in 2 i ≡ i / 4096
number_two i = (let e : i / 64 / 64 ≡ i / 4096 = omega arith in e)

-- what is left of a layer is under its word
left-under : (masks prefix : List ℕ) (layer number index : ℕ) → number_in layer index ≡ number → is_left masks prefix layer number ≡ is_under layer (slice_index prefix layer) (slice_index masks layer) index
unfolding is_left
left-under masks prefix layer number index is = ap (λ n. eqb (n / 64) (slice_index prefix layer / 64) && has_bit (slice_index masks layer) (n % 64)) (sym is)

module _ (members : ℕ → Bool) (masks prefix : List ℕ) where
  pending-third : ((k : ℕ) → k ≢ 3 → slice_index masks k ≡ 0) → (i : ℕ) → is_pending members masks prefix i ≡ (members i && is_under 3 (slice_index prefix 3) (slice_index masks 3) i)
  unfolding is_pending
  pending-third empty i =
      elim (members i) as (λ m. (is_left masks prefix 0 i || (m && (is_left masks prefix 1 (i / 64) || (is_left masks prefix 2 (i / 4096) || is_left masks prefix 3 (i / 262144))))) ≡ (m && is_under 3 (slice_index prefix 3) (slice_index masks 3) i)) [
        | true ↦ (λ j. left-empty masks prefix 0 i (empty 0 (omega arith)) j || (true && (left-empty masks prefix 1 (i / 64) (empty 1 (omega arith)) j || (left-empty masks prefix 2 (i / 4096) (empty 2 (omega arith)) j || left-under masks prefix 3 (i / 262144) i (number_three i) j))))
        | false ↦ (λ j. left-empty masks prefix 0 i (empty 0 (omega arith)) j || false)
      ]

  pending-second : ((k : ℕ) → k ≢ 2 → slice_index masks k ≡ 0) → (i : ℕ) → is_pending members masks prefix i ≡ (members i && is_under 2 (slice_index prefix 2) (slice_index masks 2) i)
  unfolding is_pending
  pending-second empty i =
      elim (members i) as (λ m. (is_left masks prefix 0 i || (m && (is_left masks prefix 1 (i / 64) || (is_left masks prefix 2 (i / 4096) || is_left masks prefix 3 (i / 262144))))) ≡ (m && is_under 2 (slice_index prefix 2) (slice_index masks 2) i)) [
        | true ↦ (λ j. left-empty masks prefix 0 i (empty 0 (omega arith)) j || (true && (left-empty masks prefix 1 (i / 64) (empty 1 (omega arith)) j || (left-under masks prefix 2 (i / 4096) i (number_two i) j || left-empty masks prefix 3 (i / 262144) (empty 3 (omega arith)) j)))) ∙ or_none _
        | false ↦ (λ j. left-empty masks prefix 0 i (empty 0 (omega arith)) j || false)
      ]
    where
      or_none : (b : Bool) → (b || false) ≡ b
      or_none true = refl
      or_none false = refl

  pending-first : ((k : ℕ) → k ≢ 1 → slice_index masks k ≡ 0) → (i : ℕ) → is_pending members masks prefix i ≡ (members i && is_under 1 (slice_index prefix 1) (slice_index masks 1) i)
  unfolding is_pending
  pending-first empty i =
      elim (members i) as (λ m. (is_left masks prefix 0 i || (m && (is_left masks prefix 1 (i / 64) || (is_left masks prefix 2 (i / 4096) || is_left masks prefix 3 (i / 262144))))) ≡ (m && is_under 1 (slice_index prefix 1) (slice_index masks 1) i)) [
        | true ↦ (λ j. left-empty masks prefix 0 i (empty 0 (omega arith)) j || (true && (left-under masks prefix 1 (i / 64) i refl j || (left-empty masks prefix 2 (i / 4096) (empty 2 (omega arith)) j || left-empty masks prefix 3 (i / 262144) (empty 3 (omega arith)) j)))) ∙ or_none _
        | false ↦ (λ j. left-empty masks prefix 0 i (empty 0 (omega arith)) j || false)
      ]
    where
      or_none : (b : Bool) → (b || false) ≡ b
      or_none true = refl
      or_none false = refl

  -- of masks of which one layer alone has bits left, the members under its word are to come
  pub pending-alone : (layer : ℕ) → 0 < layer → layer < 4 → ((k : ℕ) → k ≢ layer → slice_index masks k ≡ 0) → (i : ℕ) → is_pending members masks prefix i ≡ (members i && is_under layer (slice_index prefix layer) (slice_index masks layer) i)
  pending-alone zero above within empty i = absurd (omega arith)
  pending-alone (suc zero) above within empty i = pending-first empty i
  pending-alone (suc (suc zero)) above within empty i = pending-second empty i
  pending-alone (suc (suc (suc zero))) above within empty i = pending-third empty i
  pending-alone (suc (suc (suc (suc layer)))) above within empty i = absurd (omega arith)

-- the same with the word and its first bit at hand
pub walk-alone : (members : ℕ → Bool) (masks prefix : List ℕ) (layer first word : ℕ) → 0 < layer → layer < 4 → ((k : ℕ) → k ≢ layer → slice_index masks k ≡ 0) → slice_index masks layer ≡ word → slice_index prefix layer ≡ first → walk (is_pending members masks prefix) ≡ walk (λ i. members i && is_under layer first word i)
walk-alone members masks prefix layer first word above within empty is_word is_first =
    walk-same _ _ (λ i _. pending-alone members masks prefix layer above within empty i ∙ (λ j. members i && is_under layer (is_first j) (is_word j) i))

-- masks of which layer 2 or layer 1 alone has bits left
pub placed-second : (word first : ℕ) → first % 64 ≡ 0 → first < 4096 → IsPlaced (0 ∷ 0 ∷ word ∷ 0 ∷ []) (0 ∷ 0 ∷ first ∷ [])
placed-second word first aligned limit zero above low high some = absurd (some refl)
placed-second word first aligned limit (suc zero) above low high some = absurd (some refl)
placed-second word first aligned limit (suc (suc zero)) above low high some =
    let At : ℕ → Type 0 = IsPlacedAt (0 ∷ 0 ∷ word ∷ 0 ∷ []) (0 ∷ 0 ∷ first ∷ []) in
    subst At (let e : 2 ≡ above = omega arith in e) (record {
      aligned = aligned;
      agrees = omega arith;
      later = λ number left. absurd (true≢false (sym left ∙ left-empty (0 ∷ 0 ∷ word ∷ 0 ∷ []) (0 ∷ 0 ∷ first ∷ []) 3 number refl));
    })
placed-second word first aligned limit (suc (suc (suc layer))) above low high some = absurd (omega arith)

pub placed-first : (word first second : ℕ) → first % 64 ≡ 0 → first < 262144 → second ≡ first / 4096 * 64 → IsPlaced (0 ∷ word ∷ 0 ∷ 0 ∷ []) (0 ∷ first ∷ second ∷ [])
placed-first word first second aligned limit is zero above low high some = absurd (some refl)
placed-first word first second aligned limit is (suc zero) above low high some =
    let At : ℕ → Type 0 = IsPlacedAt (0 ∷ word ∷ 0 ∷ 0 ∷ []) (0 ∷ first ∷ second ∷ []) in
    elim (cases_eq 1 above) [
      | inl oneth ↦ subst At oneth (record {
        aligned = aligned;
        agrees = omega arith;
        later = λ number left. absurd (true≢false (sym left ∙ left-empty (0 ∷ word ∷ 0 ∷ 0 ∷ []) (0 ∷ first ∷ second ∷ []) 2 number refl));
      })
      | inr other ↦ subst At (let e : 2 ≡ above = omega arith in e) (record {
        aligned = omega arith;
        agrees = omega arith;
        later = λ number left. absurd (true≢false (sym left ∙ left-empty (0 ∷ word ∷ 0 ∷ 0 ∷ []) (0 ∷ first ∷ second ∷ []) 3 number refl));
      })
    ]
placed-first word first second aligned limit is (suc (suc zero)) above low high some = absurd (some refl)
placed-first word first second aligned limit is (suc (suc (suc zero))) above low high some = absurd (omega arith)
placed-first word first second aligned limit is (suc (suc (suc (suc layer)))) above low high some = absurd (omega arith)

-- the first bit of a word of a layer, by layers
pub first-third : (layer first : ℕ) → IsFirstBit layer first → layer ≡ 3 → first ≡ 0
first-third layer first stands is =
    let limit : first_under 3 first < 16777216 = subst (λ l. first_under l first < 16777216) is stands.limit in
    let aligned = stands.aligned in
    omega arith

pub first-second : (layer first : ℕ) → IsFirstBit layer first → layer ≡ 2 → first < 4096
first-second layer first stands is =
    let limit : first_under 2 first < 16777216 = subst (λ l. first_under l first < 16777216) is stands.limit in
    omega arith

pub first-oneth : (layer first : ℕ) → IsFirstBit layer first → layer ≡ 1 → first < 262144
first-oneth layer first stands is =
    let limit : first_under 1 first < 16777216 = subst (λ l. first_under l first < 16777216) is stands.limit in
    omega arith

first-grows : (layer first : ℕ) → first ≤ first_under layer first
first-grows zero first = omega arith
first-grows (suc layer) first = let rest = first-grows layer (64 * first) in omega arith

pub first-small : (layer first : ℕ) → IsFirstBit layer first → first < 16777216
first-small layer first stands = let grows = first-grows layer first in let limit = stands.limit in omega arith

-- ---- the masks that `standing` makes

pub empty-third : (word k : ℕ) → k ≢ 3 → slice_index (0 ∷ 0 ∷ 0 ∷ word ∷ []) k ≡ 0
empty-third word zero other = refl
empty-third word (suc zero) other = refl
empty-third word (suc (suc zero)) other = refl
empty-third word (suc (suc (suc zero))) other = absurd (other refl)
empty-third word (suc (suc (suc (suc k)))) other = refl

pub empty-second : (word k : ℕ) → k ≢ 2 → slice_index (0 ∷ 0 ∷ word ∷ 0 ∷ []) k ≡ 0
empty-second word zero other = refl
empty-second word (suc zero) other = refl
empty-second word (suc (suc zero)) other = absurd (other refl)
empty-second word (suc (suc (suc zero))) other = refl
empty-second word (suc (suc (suc (suc k)))) other = refl

pub empty-first : (word k : ℕ) → k ≢ 1 → slice_index (0 ∷ word ∷ 0 ∷ 0 ∷ []) k ≡ 0
empty-first word zero other = refl
empty-first word (suc zero) other = absurd (other refl)
empty-first word (suc (suc zero)) other = refl
empty-first word (suc (suc (suc zero))) other = refl
empty-first word (suc (suc (suc (suc k)))) other = refl

pub alone-third : (members : ℕ → Bool) (layer first word : ℕ) → IsFirstBit layer first → layer ≡ 3 → walk (is_pending members (0 ∷ 0 ∷ 0 ∷ word ∷ []) (0 ∷ 0 ∷ 0 ∷ [])) ≡ walk (λ i. members i && is_under layer first word i)
alone-third members layer first word stands is =
    walk-alone members (0 ∷ 0 ∷ 0 ∷ word ∷ []) (0 ∷ 0 ∷ 0 ∷ []) 3 first word (omega arith) (omega arith) (empty-third word) refl (sym (first-third layer first stands is))
    ∙ (λ j. walk (λ i. members i && is_under (sym is j) first word i))

pub alone-second : (members : ℕ → Bool) (layer first word : ℕ) → layer ≡ 2 → walk (is_pending members (0 ∷ 0 ∷ word ∷ 0 ∷ []) (0 ∷ 0 ∷ first ∷ [])) ≡ walk (λ i. members i && is_under layer first word i)
alone-second members layer first word is =
    walk-alone members (0 ∷ 0 ∷ word ∷ 0 ∷ []) (0 ∷ 0 ∷ first ∷ []) 2 first word (omega arith) (omega arith) (empty-second word) refl refl
    ∙ (λ j. walk (λ i. members i && is_under (sym is j) first word i))

pub alone-first : (members : ℕ → Bool) (layer first second word : ℕ) → layer ≡ 1 → walk (is_pending members (0 ∷ word ∷ 0 ∷ 0 ∷ []) (0 ∷ first ∷ second ∷ [])) ≡ walk (λ i. members i && is_under layer first word i)
alone-first members layer first second word is =
    walk-alone members (0 ∷ word ∷ 0 ∷ 0 ∷ []) (0 ∷ first ∷ second ∷ []) 1 first word (omega arith) (omega arith) (empty-first word) refl refl
    ∙ (λ j. walk (λ i. members i && is_under (sym is j) first word i))

-- ---- one step down

pub first-under : (layer below first place : ℕ) → layer ≡ suc below → IsFirstBit layer first → place < 64 → IsFirstBit below ((first + place) * 64)
first-under layer below first place is stands within =
    let w = stands.within in
    let a = stands.aligned in
    let limit : first_under (suc below) first < 16777216 = subst (λ l. first_under l first < 16777216) is stands.limit in
    let aligned : (first + place) * 64 % 64 ≡ 0 = omega arith in
    record { within = omega arith; aligned = aligned; limit = step below first place (omega arith) a within limit }
  where
    step : (below first place : ℕ) → below < 3 → first % 64 ≡ 0 → place < 64 → first_under (suc below) first < 16777216 → first_under below ((first + place) * 64) < 16777216
    step zero first place low a within limit = (let l : 64 * first < 16777216 = limit in omega arith)
    step (suc zero) first place low a within limit = (let l : 64 * (64 * first) < 16777216 = limit in omega arith)
    step (suc (suc zero)) first place low a within limit = (let l : 64 * (64 * (64 * first)) < 16777216 = limit in omega arith)
    step (suc (suc (suc below))) first place low a within limit = absurd (omega arith)

-- ---- the masks of a producer

pub alone-same : (masks : List ℕ) (layer other : ℕ) → IsAlone masks layer → IsAlone masks other → other ≡ layer
alone-same masks layer other one two =
    elim (cases_eq other layer) [
      | inl here ↦ here
      | inr there ↦ absurd (two.some (one.empty other there))
    ]

pub first-bit : (masks prefix : List ℕ) (layer : ℕ) → length prefix ≡ 3 → IsPlaced masks prefix → IsAlone masks layer → IsFirstBit layer (slice_index prefix layer)
first-bit masks prefix layer three placed alone = by layer alone
  where
    none : slice_index prefix 3 ≡ 0
    none = get_or_past prefix 3 0 (omega arith)

    by : (layer : ℕ) → IsAlone masks layer → IsFirstBit layer (slice_index prefix layer)
    by zero alone = absurd (let a = alone.above in omega arith)
    by (suc zero) alone =
        let p = placed 1 1 (omega arith) (omega arith) alone.some in
        let q = placed 1 2 (omega arith) (omega arith) alone.some in
        let a = p.aligned in
        let g = p.agrees in
        let h = q.agrees in
        let n = none in
        record { within = omega arith; aligned = a; limit = (let l : 64 * slice_index prefix 1 < 16777216 = omega arith in l) }
    by (suc (suc zero)) alone =
        let p = placed 2 2 (omega arith) (omega arith) alone.some in
        let a = p.aligned in
        let g = p.agrees in
        let n = none in
        record { within = omega arith; aligned = a; limit = (let l : 64 * (64 * slice_index prefix 2) < 16777216 = omega arith in l) }
    by (suc (suc (suc zero))) alone =
        let n = none in
        record { within = omega arith; aligned = omega arith; limit = (let l : 64 * (64 * (64 * slice_index prefix 3)) < 16777216 = omega arith in l) }
    by (suc (suc (suc (suc layer)))) alone = absurd (let w = alone.within in omega arith)

-- the cut of a word with one bit is that of the word under it
module _ (members : ℕ → Bool) (words : ℕ → ℕ → ℕ) (over : StandsOver words) (agree : (i : ℕ) → i < 16777216 → is_marked words 0 i ≡ members i)
    (lowest layer below first word place next : ℕ) (is : layer ≡ suc below) (low : lowest ≤ layer) (fits : word < 2 ^ 64) (few : ones_below word 64 < 2)
    (aligned : first % 64 ≡ 0) (only : IsOnlyBit word place) (next_is : next ≡ words below (first + place)) where
  to-next : (index : ℕ) → IsCutAt words lowest below (64 * (first + place)) (words below (first + place)) index → IsCutAt words lowest below ((first + place) * 64) next index
  to-next index cut =
      subst (λ n. IsCutAt words lowest below n next index) (mul_comm 64 (first + place))
      (subst (λ w. IsCutAt words lowest below (64 * (first + place)) w index) (sym next_is) cut)

  from-next : (index : ℕ) → IsCutAt words lowest below ((first + place) * 64) next index → IsCutAt words lowest below (64 * (first + place)) (words below (first + place)) index
  from-next index cut =
      subst (λ w. IsCutAt words lowest below (64 * (first + place)) w index) next_is
      (subst (λ n. IsCutAt words lowest below n next index) (mul_comm (first + place) 64) cut)

  same-under : (i : ℕ) → i < 16777216 → (members i && is_under layer first word i) ≡ (members i && is_under below ((first + place) * 64) next i)
  same-under i within =
      (λ j. members i && is_under (is j) first word i)
      ∙ only-bit members words over agree below first word place i aligned only within
      ∙ (λ j. members i && is_under below (mul_comm 64 (first + place) j) (sym next_is j) i)

  pub found-below : {A : Type 0} (r : Option A) (layer' first' word' place' : A → ℕ)
      → MatchOption r ((index : ℕ) → IsCutAt words lowest below ((first + place) * 64) next index → ⊥) (λ c. IsFound members words lowest below ((first + place) * 64) next (layer' c) (first' c) (word' c) (place' c))
      → MatchOption r ((index : ℕ) → IsCutAt words lowest layer first word index → ⊥) (λ c. IsFound members words lowest layer first word (layer' c) (first' c) (word' c) (place' c))
  found-below None layer' first' word' place' none = λ index cut. no-cut-under words lowest layer below first word place index is fits few only (λ under. none index (to-next index under)) cut
  found-below (Some c) layer' first' word' place' found = record {
    above = found.above;
    stands = found.stands;
    average = found.average;
    within = found.within;
    cut = cut-under words lowest layer below first word place _ is low only (from-next _ found.cut);
    same = λ i within. same-under i within ∙ found.same i within;
  }

-- a producer whose masks one layer has, and where its word is cut
module _ (members : ℕ → Bool) (words : ℕ → ℕ → ℕ) (masks prefix : List ℕ) (layers layer first : ℕ) (alone : IsAlone masks layer) (is_first : first ≡ slice_index prefix layer) where
  pub cut-in : {A : Type 0} (r : Option A) (layer' first' word' place' : A → ℕ)
      → MatchOption r ((index : ℕ) → IsCutAt words (4 - layers) layer first (slice_index masks layer) index → ⊥) (λ c. IsFound members words (4 - layers) layer first (slice_index masks layer) (layer' c) (first' c) (word' c) (place' c))
      → MatchOption r ((index : ℕ) → IsCut words masks prefix layers index → ⊥) (λ c. IsCutOf members words masks prefix layers (layer' c) (first' c) (word' c) (place' c))
  cut-in None layer' first' word' place' none = λ index cut.
      let same = alone-same masks layer cut.0 alone cut.1 in
      let at_layer : IsCutAt words (4 - layers) layer (slice_index prefix layer) (slice_index masks layer) index =
      subst (λ l. IsCutAt words (4 - layers) l (slice_index prefix l) (slice_index masks l) index) same cut.2 in
      none index (subst (λ f. IsCutAt words (4 - layers) layer f (slice_index masks layer) index) (sym is_first) at_layer)
  cut-in (Some c) layer' first' word' place' found = record {
    above = found.above;
    stands = found.stands;
    average = found.average;
    within = found.within;
    cut = (layer, alone, subst (λ f. IsCutAt words (4 - layers) layer f (slice_index masks layer) (first_under (layer' c) (first' c + place' c))) is_first found.cut);
    same = λ i within. pending-alone members masks prefix layer alone.above alone.within alone.empty i ∙ (λ j. members i && is_under layer (sym is_first j) (slice_index masks layer) i) ∙ found.same i within;
  }

-- the walk of masks that are cut is a walk and then the other
pub split-walk : (members : ℕ → Bool) (words : ℕ → ℕ → ℕ) (masks prefix : List ℕ) (layers layer first word place low high : ℕ) → IsCutOf members words masks prefix layers layer first word place → IsBelow word place low → IsFrom word place high
    → walk (λ i. members i && is_under layer first low i) ++ walk (λ i. members i && is_under layer first high i) ≡ walk (is_pending members masks prefix)
split-walk members words masks prefix layers layer first word place low high of below from =
    walk-cut _ (λ i. members i && is_under layer first word i) _ _ (under-cut members layer first word low high place of.stands.aligned of.within below from)
    ∙ sym (walk-same _ _ of.same)

-- ---- the items of a walk

All-head : (Q : ℕ → Type 0) (x : ℕ) (xs : List ℕ) → Q x → All Q xs → All Q (x ∷ xs)
All-head Q x xs here rest zero d low = here
All-head Q x xs here rest (suc k) d low = rest k d (omega arith)

All-filter : (n a : ℕ) (p : ℕ → Bool) (Q : ℕ → Type 0) → ((i : ℕ) → i < a + n → p i ≡ true → Q i) → All Q (filter p (range_with_len a n))
All-filter zero a p Q each = λ k d low. absurd (omega arith)
All-filter (suc n) a p Q each =
    let rest = All-filter n (a + 1) p Q (λ i low. each i (omega arith)) in
    elim (p a) as (λ b. p a ≡ b → All Q (cond b (a ∷ filter p (range_with_len (a + 1) n)) (filter p (range_with_len (a + 1) n)))) [
      | true ↦ λ yes. All-head Q a (filter p (range_with_len (a + 1) n)) (each a (omega arith) yes) rest
      | false ↦ λ not_there. rest
    ] refl

-- what holds of each member holds of each item
pub All-walk : (p : ℕ → Bool) (Q : ℕ → Type 0) → ((i : ℕ) → i < 16777216 → p i ≡ true → Q i) → All Q (walk p)
unfolding walk
All-walk p Q each = All-filter 16777216 0 p Q (λ i low. each i (omega arith))

pub items-below : (members : ℕ → Bool) (layer first word low place : ℕ) → first % 64 ≡ 0 → place < 64 → IsBelow word place low → All (λ i. i < first_under layer (first + place)) (walk (λ i. members i && is_under layer first low i))
items-below members layer first word low place aligned within below =
    All-walk (λ i. members i && is_under layer first low i) (λ i. i < first_under layer (first + place)) (λ i limit yes.
    let under = and_parts (eqb (number_in layer i / 64) (first / 64)) (has_bit low (number_in layer i % 64)) (and_parts (members i) (is_under layer first low i) yes).1 in
    let same : number_in layer i / 64 ≡ first / 64 = eqb-true _ _ under.0 in
    elim (cases_lt (number_in layer i % 64) place) [
      | inl lower ↦ below-first layer (first + place) i (omega arith)
      | inr upper ↦ absurd (true≢false (sym under.1 ∙ below.gone (number_in layer i % 64) (omega arith) upper))
    ])

pub items-from : (members : ℕ → Bool) (layer first word high place : ℕ) → first % 64 ≡ 0 → place < 64 → IsFrom word place high → All (λ i. first_under layer (first + place) ≤ i) (walk (λ i. members i && is_under layer first high i))
items-from members layer first word high place aligned within from =
    All-walk (λ i. members i && is_under layer first high i) (λ i. first_under layer (first + place) ≤ i) (λ i limit yes.
    let under = and_parts (eqb (number_in layer i / 64) (first / 64)) (has_bit high (number_in layer i % 64)) (and_parts (members i) (is_under layer first high i) yes).1 in
    let same : number_in layer i / 64 ≡ first / 64 = eqb-true _ _ under.0 in
    elim (cases_lt (number_in layer i % 64) place) [
      | inl lower ↦ absurd (true≢false (sym under.1 ∙ from.gone (number_in layer i % 64) (omega arith) lower))
      | inr upper ↦ from-first layer (first + place) i (omega arith)
    ])

-- the cut is that of the same set, masks and prefixes under other names
pub cut-moved : {A : Type 0} (members : A → ℕ → Bool) (words : A → ℕ → ℕ → ℕ) (set set' : A) (masks masks' prefix prefix' : List ℕ) (layers layer first word place : ℕ) → set ≡ set' → masks ≡ masks' → prefix ≡ prefix'
    → IsCutOf (members set) (words set) masks prefix layers layer first word place → IsCutOf (members set') (words set') masks' prefix' layers layer first word place
cut-moved members words set set' masks masks' prefix prefix' layers layer first word place e m p of =
    subst (λ s. IsCutOf (members s) (words s) masks' prefix' layers layer first word place) e
    (subst (λ m. IsCutOf (members set) (words set) m prefix' layers layer first word place) m
    (subst (λ p. IsCutOf (members set) (words set) masks p layers layer first word place) p of))

pub no-cut-moved : {A : Type 0} (words : A → ℕ → ℕ → ℕ) (set set' : A) (masks masks' prefix prefix' : List ℕ) (layers index : ℕ) → set ≡ set' → masks ≡ masks' → prefix ≡ prefix' → IsCut (words set') masks' prefix' layers index → IsCut (words set) masks prefix layers index
no-cut-moved words set set' masks masks' prefix prefix' layers index e m p cut =
    subst (λ s. IsCut (words s) masks prefix layers index) (sym e)
    (subst (λ m. IsCut (words set') m prefix layers index) (sym m)
    (subst (λ p. IsCut (words set') masks' p layers index) (sym p) cut))

length-filter : (n a : ℕ) (p : ℕ → Bool) → length (filter p (range_with_len a n)) ≤ n
length-filter zero a p = omega arith
length-filter (suc n) a p =
    let rest = length-filter n (a + 1) p in
    elim (p a) as (λ b. length (cond b (a ∷ filter p (range_with_len (a + 1) n)) (filter p (range_with_len (a + 1) n))) ≤ suc n) [ true ↦ omega arith | false ↦ omega arith ]

pub length-walk : (p : ℕ → Bool) → length (walk p) ≤ 16777216
unfolding walk
length-walk p = length-filter 16777216 0 p
