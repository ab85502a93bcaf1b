-- Where a walk that begins is cut.
use Rattle.std.proofs.Common.{◌≡◌, ◌≢◌, ℕ, zero, suc, ◌+◌, ◌*◌, ◌/◌, ◌%◌, ◌^◌, ◌<◌, ◌≤◌, List, [], ◌∷◌, ◌++◌, Bool, true, false, eqb, inl, inr, refl, sym, ap, ◌∙◌, subst, arith, length, slice_index}
use Rattle.std.specs.List.{All, list_any}
use Rattle.std.proofs.Common.{append-nil, Option, Some, None, MatchOption}
use Rattle.std.proofs.lemmas.Bool.{and_from, eq-eqb}
use Rattle.hibitset_sets.specs.Walk.{is_pending}
use Rattle.hibitset.proofs.CutLemmas.{pending-alone, empty-third, no-cut-zero}
use Rattle.std.specs.Int.{trailing_zeros, w64}
use Rattle.std.proofs.lemmas.Bool.{cases_eq, cases_lt, true≢false, eqb-true, or_cases}
use Rattle.std.proofs.lemmas.List.{get_or_past}
use Rattle.hibitset_sets.specs.Bits.{has_bit}
use Rattle.hibitset_sets.specs.Words.{is_marked, StandsOver, word_of}
use Rattle.hibitset_sets.specs.WordLemmas.{layer_bits-above, is_marked-word_of}
use Rattle.std.proofs.Common.{not}
use Rattle.hibitset_sets.specs.Walk.{walk}
use Rattle.hibitset_sets.specs.Average.{IsAverage, ones_below}
use Rattle.hibitset_sets.specs.BitLemmas.{lowest_bit}
use Rattle.hibitset_sets.proofs.CallerLemmas.{ones-set, ones-clear, ones-none, any-walk}
use Rattle.hibitset.specs.Cut.{number_in, first_under, IsCutAt, IsExact, Differ}
use Rattle.hibitset.specs.Producer.{IsCut, items_of, items_of_other}
use Rattle.hibitset.specs.declared.producer.BitProducer.{BitProducer}
use Rattle.hibitset.proofs.CutLemmas.{below-first, from-first, marked, only-from-few, bit-within, ones-mono}

-- ---- bits of a word

-- the bit of a word with that many bits below it
nth-bit : (n word nth : ℕ) → nth < ones_below word n → (place : ℕ) × (place < n) × (has_bit word place ≡ true) × (ones_below word place ≡ nth)
nth-bit zero word nth low = absurd (let none = ones-none word in omega arith)
nth-bit (suc n) word nth low =
    let next = ap (ones_below word) (let e : suc n ≡ n + 1 = omega arith in e) in
    elim (cases_lt nth (ones_below word n)) [
      | inl before ↦
          let found = nth-bit n word nth before in
          let within = found.1 in
          (found.0, omega arith, found.2, found.3)
      | inr here ↦
          elim (has_bit word n) as (λ b. has_bit word n ≡ b → (place : ℕ) × (place < suc n) × (has_bit word place ≡ true) × (ones_below word place ≡ nth)) [
            | true ↦ λ set. (n, omega arith, set, (let one = ones-set n word set in omega arith))
            | false ↦ λ clear. absurd (let one = ones-clear n word clear in omega arith)
          ] refl
    ]

-- two bits have a middle one
average-exists : (word : ℕ) → 2 ≤ ones_below word 64 → (place : ℕ) × IsAverage word place
average-exists word two =
    let found = nth-bit 64 word ((ones_below word 64 + 1) / 2) (omega arith) in
    (found.0, record { set = found.2; half = found.3 })

-- ---- numbers

number-of-word : (layer i : ℕ) → number_in (suc layer) i ≡ number_in layer (i / 64)
number-of-word zero i = refl
number-of-word (suc layer) i = ap (λ n. n / 64) (number-of-word layer i)

first_under-mono : (layer low high : ℕ) → low ≤ high → first_under layer low ≤ first_under layer high
first_under-mono zero low high le = le
first_under-mono (suc layer) low high le = first_under-mono layer (64 * low) (64 * high) (omega arith)

-- two members, one before an index and one from it on, in different words
pub record AreApart (members : ℕ → Bool) (index low high : ℕ) : Type 0 where
  pub low_within : low < 16777216
  pub high_within : high < 16777216
  pub low_member : members low ≡ true
  pub high_member : members high ≡ true
  pub below : low < index
  pub from : index ≤ high
  pub words : low / 64 ≡ high / 64 → ⊥

module _ (members : ℕ → Bool) (words : ℕ → ℕ → ℕ) (over : StandsOver words) (agree : (i : ℕ) → i < 16777216 → is_marked words 0 i ≡ members i) (fit : (layer i : ℕ) → words layer i < 2 ^ 64) where
  -- under a bit that is set there is a member
  some-under : IsExact words → (layer number : ℕ) → is_marked words layer number ≡ true → first_under layer (number + 1) ≤ 16777216 → (i : ℕ) × (number_in layer i ≡ number) × (i < 16777216) × (members i ≡ true)
  some-under exact zero number set limit = (number, refl, omega arith, sym (agree number (omega arith)) ∙ set)
  some-under exact (suc layer) number set limit =
      let word = words layer number in
      let lowest = lowest_bit word (exact layer number set) (fit layer number) in
      let place = trailing_zeros w64 word in
      let within = lowest.0 in
      let bit : is_marked words layer (64 * number + place) ≡ true =
      subst (λ w. has_bit (words layer w) ((64 * number + place) % 64) ≡ true) (let e : number ≡ (64 * number + place) / 64 = omega arith in e)
      (subst (λ p. has_bit (words layer number) p ≡ true) (let e : place ≡ (64 * number + place) % 64 = omega arith in e) lowest.1) in
      let mono = first_under-mono layer (64 * number + place + 1) (64 * (number + 1)) (omega arith) in
      let small : first_under layer (64 * (number + 1)) ≤ 16777216 = limit in
      let found = some-under exact layer (64 * number + place) bit (omega arith) in
      let is = found.1 in
      (found.0, (let e : number_in layer found.0 / 64 ≡ number = omega arith in e), found.2, found.3)

  -- the bit of a word of a layer is that of its number
  marked-bit : (layer first word place : ℕ) → first % 64 ≡ 0 → word ≡ words layer (first / 64) → place < 64 → has_bit word place ≡ true → is_marked words layer (first + place) ≡ true
  marked-bit layer first word place aligned full within set =
      subst (λ w. has_bit (words layer w) ((first + place) % 64) ≡ true) (let e : first / 64 ≡ (first + place) / 64 = omega arith in e)
      (subst (λ p. has_bit (words layer (first / 64)) p ≡ true) (let e : place ≡ (first + place) % 64 = omega arith in e)
      (subst (λ w. has_bit w place ≡ true) full set))

  -- a cut stands between two members that are in different words
  pub cut-between : IsExact words → (lowest layer first word index : ℕ) → first % 64 ≡ 0 → word ≡ words layer (first / 64) → first_under layer (first + 64) ≤ 16777216 → IsCutAt words lowest layer first word index → (low high : ℕ) × AreApart members index low high
  cut-between exact lowest zero first word index aligned full limit cut = absurd cut
  cut-between exact lowest (suc layer) first word index aligned full limit cut =
      elim cut.1 [
        | inl here ↦
            let place = here.0 in
            let average = here.1 in
            let fits : word < 2 ^ 64 = subst (λ w. w < 2 ^ 64) (sym full) (fit (suc layer) (first / 64)) in
            let within = bit-within word place fits average.set in
            let half = average.half in
            let grown = ones-set place word average.set in
            let all = ones-mono (place + 1) 64 word (omega arith) in
            let lower = nth-bit place word 0 (omega arith) in
            let before = lower.1 in
            let high_mono = first_under-mono (suc layer) (first + place + 1) (first + 64) (omega arith) in
            let low_mono = first_under-mono (suc layer) (first + lower.0 + 1) (first + 64) (omega arith) in
            let high = some-under exact (suc layer) (first + place) (marked-bit (suc layer) first word place aligned full within average.set) (omega arith) in
            let low = some-under exact (suc layer) (first + lower.0) (marked-bit (suc layer) first word lower.0 aligned full (omega arith) lower.2) (omega arith) in
            let high_is = high.1 in
            let low_is = low.1 in
            let is = here.2 in
            let low_below = below-first (suc layer) (first + place) low.0 (omega arith) in
            let high_from = from-first (suc layer) (first + place) high.0 (omega arith) in (
              low.0,
              high.0,
              record {
                low_within = low.2;
                high_within = high.2;
                low_member = low.3;
                high_member = high.3;
                below = omega arith;
                from = omega arith;
                words = λ same. (let e = number-of-word layer low.0 ∙ ap (number_in layer) same ∙ sym (number-of-word layer high.0) in omega arith);
              },
            )
        | inr under ↦
            let place = under.0 in
            let within = under.1.within in
            let mono = first_under-mono (suc layer) (first + place + 1) (first + 64) (omega arith) in
            let same : first_under layer (64 * (first + place) + 64) ≡ first_under (suc layer) (first + place + 1) = ap (first_under layer) (let e : 64 * (first + place) + 64 ≡ 64 * (first + place + 1) = omega arith in e) in
            cut-between exact lowest layer (64 * (first + place)) (words layer (first + place)) index (omega arith) (ap (words layer) (let e : first + place ≡ 64 * (first + place) / 64 = omega arith in e)) (omega arith) under.2
      ]

  -- where two members under a word are in different words, the word is cut
  pub cut-exists : (layer first word i j : ℕ) → first % 64 ≡ 0 → word ≡ words layer (first / 64) → i < 16777216 → j < 16777216 → members i ≡ true → members j ≡ true → number_in layer i / 64 ≡ first / 64 → number_in layer j / 64 ≡ first / 64 → (i / 64 ≡ j / 64 → ⊥) → (index : ℕ) × IsCutAt words 1 layer first word index
  cut-exists zero first word i j aligned full i_within j_within i_member j_member i_under j_under apart = absurd (apart (i_under ∙ sym j_under))
  cut-exists (suc layer) first word i j aligned full i_within j_within i_member j_member i_under j_under apart =
      let bit_of : (k : ℕ) → k < 16777216 → members k ≡ true → number_in (suc layer) k / 64 ≡ first / 64 → has_bit word (number_in (suc layer) k % 64) ≡ true =
      λ k within member under. subst (λ w. has_bit w (number_in (suc layer) k % 64) ≡ true) (ap (words (suc layer)) under ∙ sym full) (marked members words over agree (suc layer) k within member) in
      elim (cases_lt (ones_below word 64) 2) [
        | inl few ↦
            let place = number_in (suc layer) i % 64 in
            let only = only-from-few word place (omega arith) (bit_of i i_within i_member i_under) few in
            let same = only.alone (number_in (suc layer) j % 64) (omega arith) (bit_of j j_within j_member j_under) in
            let i_number : number_in layer i / 64 ≡ first + place = omega arith in
            let j_number : number_in layer j / 64 ≡ first + place = omega arith in
            let found = cut-exists layer (64 * (first + place)) (words layer (first + place)) i j (omega arith) (ap (words layer) (let e : first + place ≡ 64 * (first + place) / 64 = omega arith in e)) i_within j_within i_member j_member (let e : number_in layer i / 64 ≡ 64 * (first + place) / 64 = omega arith in e) (let e : number_in layer j / 64 ≡ 64 * (first + place) / 64 = omega arith in e) apart in
            (found.0, (omega arith, inr (place, only, found.1)))
        | inr many ↦
            let middle = average-exists word many in
            (first_under (suc layer) (first + middle.0), (omega arith, inl (middle.0, middle.1, refl)))
      ]

-- what holds of all items holds of one
all-any : (Q : ℕ → Type 0) (xs : List ℕ) (i : ℕ) → All Q xs → list_any (eqb i) xs ≡ true → Q i
all-any Q [] i each any = absurd (true≢false (sym any))
all-any Q (x ∷ xs) i each any =
    elim (or_cases (eqb i x) (list_any (eqb i) xs) any) [
      | inl here ↦ subst Q (sym (eqb-true i x here)) (each 0 x (omega arith))
      | inr there ↦ all-any Q xs i (λ k d low. each (suc k) d (omega arith)) there
    ]

-- a walk that begins: its masks are those of layer 3 alone
module _ (members : ℕ → Bool) (words : ℕ → ℕ → ℕ) (over : StandsOver words) (agree : (i : ℕ) → i < 16777216 → is_marked words 0 i ≡ members i) (fit : (layer i : ℕ) → words layer i < 2 ^ 64)
    (masks prefix : List ℕ) (three : length prefix ≡ 3) (begins : masks ≡ 0 ∷ 0 ∷ 0 ∷ words 3 0 ∷ []) where
  first-none : slice_index prefix 3 ≡ 0
  first-none = get_or_past prefix 3 0 (omega arith)

  masks-empty : (k : ℕ) → k ≢ 3 → slice_index masks k ≡ 0
  masks-empty k other = ap (λ ms. slice_index ms k) begins ∙ empty-third (words 3 0) k other

  masks-third : slice_index masks 3 ≡ words 3 0
  masks-third = ap (λ ms. slice_index ms 3) begins

  cut-third : (index : ℕ) → IsCut words masks prefix 3 index → IsCutAt words 1 3 0 (words 3 0) index
  cut-third index cut =
      elim (cases_eq cut.0 3) [
        | inl here ↦
            subst (λ w. IsCutAt words 1 3 0 w index) masks-third
            (subst (λ f. IsCutAt words 1 3 f (slice_index masks 3) index) first-none
            (subst (λ l. IsCutAt words 1 l (slice_index prefix l) (slice_index masks l) index) here cut.2))
        | inr there ↦ absurd (cut.1.some (masks-empty cut.0 there))
      ]

  third-cut : (index : ℕ) → IsCutAt words 1 3 0 (words 3 0) index → IsCut words masks prefix 3 index
  third-cut index cut = (
    3,
    record {
      above = omega arith;
      within = omega arith;
      some = λ zeroed. no-cut-zero words 1 3 0 (words 3 0) index (sym masks-third ∙ zeroed) cut;
      empty = masks-empty;
    },
    subst (λ w. IsCutAt words 1 3 (slice_index prefix 3) w index) (sym masks-third) (subst (λ f. IsCutAt words 1 3 f (words 3 0) index) (sym first-none) cut),
  )

  differ-cut : Differ members → (index : ℕ) × IsCut words masks prefix 3 index
  differ-cut differ =
      let i = differ.0 in
      let j = differ.1 in
      let i_within = differ.2 in
      let j_within = differ.3 in
      let found = cut-exists members words over agree fit 3 0 (words 3 0) i j refl refl i_within j_within differ.4 differ.5 (let e : i / 64 / 64 / 64 / 64 ≡ 0 / 64 = omega arith in e) (let e : j / 64 / 64 / 64 / 64 ≡ 0 / 64 = omega arith in e) differ.6 in
      (found.0, third-cut found.0 found.1)

  apart : IsExact words → (index : ℕ) → IsCut words masks prefix 3 index → (low high : ℕ) × AreApart members index low high
  apart exact index cut = cut-between members words over agree fit exact 1 3 0 (words 3 0) index refl refl (let e : 64 * (64 * (64 * (0 + 64))) ≤ 16777216 = omega arith in e) (cut-third index cut)

  -- a member is on the walk
  on-walk : (i : ℕ) → i < 16777216 → members i ≡ true → list_any (eqb i) (walk (is_pending members masks prefix)) ≡ true
  on-walk i within member =
      let top : number_in 3 i / 64 ≡ 0 = (let e : i / 64 / 64 / 64 / 64 ≡ 0 = omega arith in e) in
      let bit : has_bit (slice_index masks 3) (number_in 3 i % 64) ≡ true =
      subst (λ w. has_bit w (number_in 3 i % 64) ≡ true) (ap (words 3) top ∙ sym masks-third) (marked members words over agree 3 i within member) in
      let first_is : slice_index prefix 3 / 64 ≡ 0 = ap (λ f. f / 64) first-none in
      any-walk (is_pending members masks prefix) i within
      (pending-alone members masks prefix 3 (omega arith) (omega arith) masks-empty i ∙ and_from _ _ member (and_from _ _ (eq-eqb _ _ (top ∙ sym first_is)) bit))

  -- such a walk is split exactly where two members are in different words, and neither part is empty
  pub fresh-split : IsExact words → {B : Type 0} (other : Option B) (first : List ℕ) (second : B → List ℕ) (items : List ℕ)
      → MatchOption other (items ≡ []) (λ o. items ≡ second o) → first ++ items ≡ walk (is_pending members masks prefix)
      → MatchOption other ((index : ℕ) → IsCut words masks prefix 3 index → ⊥) (λ o. (index : ℕ) × IsCut words masks prefix 3 index × All (λ i. i < index) first × All (λ i. index ≤ i) (second o))
      → MatchOption other (Differ members → ⊥) (λ o. Differ members × (first ≢ []) × (second o ≢ []))
  fresh-split exact None first second items is keeps none = λ differ. let cut = differ-cut differ in none cut.0 cut.1
  fresh-split exact (Some o) first second items is keeps cut =
      let index = cut.0 in
      let found = apart exact index cut.1 in
      let low = found.0 in
      let high = found.1 in
      let by = found.2 in
      let whole : first ++ second o ≡ walk (is_pending members masks prefix) = ap (λ xs. first ++ xs) (sym is) ∙ keeps in (
        (low, high, by.low_within, by.high_within, by.low_member, by.high_member, by.words),
        (λ empty. let at = all-any (λ i. index ≤ i) (second o) low cut.3 (subst (λ xs. list_any (eqb low) (xs ++ second o) ≡ true) empty (subst (λ xs. list_any (eqb low) xs ≡ true) (sym whole) (on-walk low by.low_within by.low_member))) in let before = by.below in absurd (omega arith)),
        (λ empty. let at = all-any (λ i. i < index) first high cut.2 (subst (λ xs. list_any (eqb high) xs ≡ true) (append-nil first) (subst (λ xs. list_any (eqb high) (first ++ xs) ≡ true) empty (subst (λ xs. list_any (eqb high) xs ≡ true) (sym whole) (on-walk high by.high_within by.high_member)))) in let after = by.from in absurd (omega arith)),
      )

-- the items of a second part that may be there
pub other-items : {T : Type 0} (members : T → ℕ → Bool) (other : Option (BitProducer T)) → MatchOption other (items_of_other members other ≡ []) (λ o. items_of_other members other ≡ items_of members o)
other-items members None = refl
other-items members (Some o) = refl

some-test : (w : ℕ) → not (eqb w 0) ≡ true → 0 < w
some-test zero test = absurd (true≢false (sym test))
some-test (suc w) test = omega arith

-- words that are defined from members have exact summaries
pub exact-word_of : (members : ℕ → Bool) → IsExact (word_of members)
exact-word_of members layer number set =
    some-test _ (sym (layer_bits-above members layer number) ∙ sym (is_marked-word_of members (suc layer) number) ∙ set)
