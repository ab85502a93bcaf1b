-- The bits of lists of words, and what an edit of one bit does to a layer and its summary.
use Rattle.std.proofs.Common.{◌≡◌, ◌≢◌, ℕ, zero, suc, ◌+◌, ◌*◌, ◌/◌, ◌%◌, ◌^◌, ◌<◌, ◌≤◌, List, [], ◌∷◌, length, Bool, true, false, not, ◌&&◌, ◌||◌, cond, eqb, inl, inr, refl, sym, ap, ◌∙◌, subst, arith, slice_index, slice_set, filter, bit_and, bit_or, length-set, nat_eq}
use Rattle.std.specs.List.{range_with_len, list_any}
use Rattle.std.specs.Ordering.{nat_cmp, eq_by_cmp}
use Rattle.std.specs.Cmp.{nat_cmp_total, unsigned_tied}
use Rattle.std.specs.FinSet as set
use Rattle.std.specs.Int.{bit_at, bit_not, trailing_zeros, w64}
use Rattle.std.proofs.lemmas.Nat.{or_lt, and_le_l, one_shl, pow_below, pow_pos}
use Rattle.std.proofs.lemmas.Nat.Bits.{and_pow, bit_at-lt}
use Rattle.std.proofs.lemmas.List.{get_or_past, get_or-set_other, get_or-set_same}
use Rattle.std.proofs.lemmas.Bool.{cases_eq, cases_lt, true≢false, eq-eqb, ne_eqb, or_left, or_from, and_parts, and_from, not-true, false_from_ne_true, true_from_ne_false}
use Rattle.hibitset_sets.specs.Bits.{has_bit}
use Rattle.hibitset_sets.specs.Layout.{IsSummary, IsLayered, members_of, set_of}
use Rattle.hibitset_sets.specs.BitSet.{SetWithRoom}
use Rattle.hibitset_sets.specs.Edits.{bit_of, with_bit, without_bit}
use Rattle.hibitset_sets.specs.Words.{layer_bits, word_of}
use Rattle.hibitset_sets.specs.BitLemmas.{has_bit-zero, has_bit-set_same, has_bit-set_other, has_bit-cleared_same, has_bit-cleared_other, has_bit-and, has_bit-not, lowest_bit, nonzero_of_has_bit, same_from_has_bit}
use Rattle.hibitset_sets.specs.WordLemmas.{word_at-lt, has_bit-word_at, not_zero_test, layer_bits-above, layer_bits-members}

-- ---- members

any-before : (n a : ℕ) (p : ℕ → Bool) (q : ℕ) → q < a → list_any (λ y. nat_eq y q) (filter p (range_with_len a n)) ≡ false
any-before zero a p q before = refl
any-before (suc n) a p q before =
    elim (p a) as (λ b. list_any (λ y. nat_eq y q) (cond b (a ∷ filter p (range_with_len (a + 1) n)) (filter p (range_with_len (a + 1) n))) ≡ false) [
      | true ↦ or_from _ _ (ne_eqb a q (λ e. omega arith)) (any-before n (a + 1) p q (omega arith))
      | false ↦ any-before n (a + 1) p q (omega arith)
    ]

any-filter : (n a : ℕ) (p : ℕ → Bool) (q : ℕ) → a ≤ q → q < a + n → list_any (λ y. nat_eq y q) (filter p (range_with_len a n)) ≡ p q
any-filter zero a p q low high = absurd (omega arith)
any-filter (suc n) a p q low high =
    elim (cases_eq a q) [
      | inl here ↦
          elim (p a) as (λ b. p a ≡ b → list_any (λ y. nat_eq y q) (cond b (a ∷ filter p (range_with_len (a + 1) n)) (filter p (range_with_len (a + 1) n))) ≡ p q) [
            | true ↦ λ e. or_left _ _ (eq-eqb a q here) ∙ sym e ∙ ap p here
            | false ↦ λ e. any-before n (a + 1) p q (omega arith) ∙ sym e ∙ ap p here
          ] refl
      | inr there ↦
          let rest = any-filter n (a + 1) p q (omega arith) (omega arith) in
          elim (p a) as (λ b. list_any (λ y. nat_eq y q) (cond b (a ∷ filter p (range_with_len (a + 1) n)) (filter p (range_with_len (a + 1) n))) ≡ p q) [
            | true ↦ ap (λ b. b || list_any (λ y. nat_eq y q) (filter p (range_with_len (a + 1) n))) (ne_eqb a q there) ∙ rest
            | false ↦ rest
          ]
    ]

any-after : (n a : ℕ) (p : ℕ → Bool) (q : ℕ) → a + n ≤ q → list_any (λ y. nat_eq y q) (filter p (range_with_len a n)) ≡ false
any-after zero a p q after = refl
any-after (suc n) a p q after =
    elim (p a) as (λ b. list_any (λ y. nat_eq y q) (cond b (a ∷ filter p (range_with_len (a + 1) n)) (filter p (range_with_len (a + 1) n))) ≡ false) [
      | true ↦ or_from _ _ (ne_eqb a q (λ e. omega arith)) (any-after n (a + 1) p q (omega arith))
      | false ↦ any-after n (a + 1) p q (omega arith)
    ]

-- past the words there are no bits
pub bit_of-past : (words : List ℕ) (number : ℕ) → 64 * length words ≤ number → bit_of words number ≡ false
bit_of-past words number past = ap (λ w. has_bit w (number % 64)) (get_or_past words (number / 64) 0 (omega arith)) ∙ has_bit-zero (number % 64)

-- the members are the indices whose bits are set
pub contains-members_of : (words : List ℕ) (q : ℕ) → set.contains (members_of words) q ≡ bit_of words q
unfolding members_of
contains-members_of words q =
    set.contains-from_list_nat (filter (bit_of words) (range_with_len 0 (64 * length words))) q
    ∙ elim (cases_lt q (64 * length words)) [
      | inl within ↦ any-filter (64 * length words) 0 (bit_of words) q (omega arith) (omega arith)
      | inr past ↦ any-after (64 * length words) 0 (bit_of words) q (omega arith) ∙ sym (bit_of-past words q past)
    ]

-- ---- words

-- words whose bits are those of the layer are the layer's words
pub same-words : (members : ℕ → Bool) (layer : ℕ) (words : List ℕ) → ((w : ℕ) → slice_index words w < 2 ^ 64) → ((i : ℕ) → layer_bits members layer i ≡ bit_of words i) → (w : ℕ) → word_of members layer w ≡ slice_index words w
unfolding word_of
same-words members layer words fits bits w =
    same_from_has_bit _ _ (word_at-lt (layer_bits members layer) w) (fits w)
    (λ i within.
    has_bit-word_at (layer_bits members layer) w i within ∙ bits (64 * w + i)
    ∙ (let at : (64 * w + i) / 64 ≡ w = omega arith in let place : (64 * w + i) % 64 ≡ i = omega arith in λ j. has_bit (slice_index words (at j)) (place j)))

-- a summary has the bits of the layer above
pub summary-bits : (members : ℕ → Bool) (layer : ℕ) (below above : List ℕ) → IsSummary below above → ((i : ℕ) → layer_bits members layer i ≡ bit_of below i) → (i : ℕ) → layer_bits members (suc layer) i ≡ bit_of above i
summary-bits members layer below above summary bits i =
    layer_bits-above members layer i ∙ ap (λ w. not (eqb w 0)) (same-words members layer below summary.fits bits i) ∙ sym (summary.bits i)

module _ {layer0 layer1 layer2 : List ℕ} {layer3 : ℕ} (layered : IsLayered layer0 layer1 layer2 layer3) where
  members : ℕ → Bool
  members = set.contains (members_of layer0)

  bits0 : (i : ℕ) → layer_bits (set.contains (members_of layer0)) 0 i ≡ bit_of layer0 i
  bits0 i = layer_bits-members _ i ∙ contains-members_of layer0 i

  bits1 : (i : ℕ) → layer_bits (set.contains (members_of layer0)) 1 i ≡ bit_of layer1 i
  bits1 = summary-bits _ 0 layer0 layer1 layered.first bits0

  bits2 : (i : ℕ) → layer_bits (set.contains (members_of layer0)) 2 i ≡ bit_of layer2 i
  bits2 = summary-bits _ 1 layer1 layer2 layered.second bits1

  bits3 : (i : ℕ) → layer_bits (set.contains (members_of layer0)) 3 i ≡ bit_of (layer3 ∷ []) i
  bits3 = summary-bits _ 2 layer2 (layer3 ∷ []) layered.third bits2

  pub words0 : (w : ℕ) → slice_index layer0 w ≡ word_of (set.contains (members_of layer0)) 0 w
  words0 w = sym (same-words _ 0 layer0 layered.first.fits bits0 w)

  pub words1 : (w : ℕ) → slice_index layer1 w ≡ word_of (set.contains (members_of layer0)) 1 w
  words1 w = sym (same-words _ 1 layer1 layered.second.fits bits1 w)

  pub words2 : (w : ℕ) → slice_index layer2 w ≡ word_of (set.contains (members_of layer0)) 2 w
  words2 w = sym (same-words _ 2 layer2 layered.third.fits bits2 w)

  fits3 : (w : ℕ) → slice_index (layer3 ∷ []) w < 2 ^ 64
  fits3 zero = layered.fits
  fits3 (suc w) = omega arith

  pub words3 : layer3 ≡ word_of (set.contains (members_of layer0)) 3 0
  words3 = sym (same-words _ 3 (layer3 ∷ []) fits3 bits3 0)

-- ---- words that stay

-- the same bits and the same words, whatever the length
pub IsSummary-same : (below above below' above' : List ℕ) → IsSummary below above → ((w : ℕ) → slice_index below' w ≡ slice_index below w) → ((w : ℕ) → slice_index above' w ≡ slice_index above w) → length below' ≤ 64 * length above' → IsSummary below' above'
IsSummary-same below above below' above' summary same same' long =
    record {
      fits = λ w. let f = summary.fits w in let e = same w in omega arith;
      long = long;
      bits = λ w. ap (λ x. has_bit x (w % 64)) (same' (w / 64)) ∙ summary.bits w ∙ ap (λ x. not (eqb x 0)) (sym (same w));
    }

pub layered-same : (l0 l1 l2 l0' l1' l2' : List ℕ) (l3 : ℕ) → IsLayered l0 l1 l2 l3 → ((w : ℕ) → slice_index l0' w ≡ slice_index l0 w) → ((w : ℕ) → slice_index l1' w ≡ slice_index l1 w) → ((w : ℕ) → slice_index l2' w ≡ slice_index l2 w) → length l0' ≤ 64 * length l1' → length l1' ≤ 64 * length l2' → length l2' ≤ 64 → IsLayered l0' l1' l2' l3
layered-same l0 l1 l2 l0' l1' l2' l3 layered same0 same1 same2 long0 long1 long2 =
    record {
      first = IsSummary-same l0 l1 l0' l1' layered.first same0 same1 long0;
      second = IsSummary-same l1 l2 l1' l2' layered.second same1 same2 long1;
      third = IsSummary-same l2 (l3 ∷ []) l2' (l3 ∷ []) layered.third same2 (λ w. refl) long2;
      fits = layered.fits;
    }

pub members_of-same : (words words' : List ℕ) → ((i : ℕ) → bit_of words' i ≡ bit_of words i) → members_of words' ≡ members_of words
members_of-same words words' same =
    set.same_set nat_cmp_total set.nat_cmp-IsAntisymmetric _ _ (λ q. contains-members_of words' q ∙ same q ∙ sym (contains-members_of words q))

empty-bits : (w : ℕ) → bit_of (0 ∷ []) w ≡ false
empty-bits w = elim (cases_eq (w / 64) 0) [
  | inl zeroth ↦ ap (λ n. has_bit (slice_index (0 ∷ []) n) (w % 64)) zeroth ∙ has_bit-zero (w % 64)
  | inr other ↦ ap (λ x. has_bit x (w % 64)) (get_or_past (0 ∷ []) (w / 64) 0 (let l : 1 ≤ w / 64 = omega arith in l)) ∙ has_bit-zero (w % 64)
]

pub layered-empty : IsLayered [] [] [] 0
layered-empty =
    record {
      first = record { fits = λ w. omega arith; long = omega arith; bits = λ w. has_bit-zero (w % 64) };
      second = record { fits = λ w. omega arith; long = omega arith; bits = λ w. has_bit-zero (w % 64) };
      third = record { fits = λ w. omega arith; long = omega arith; bits = λ w. empty-bits w };
      fits = omega arith;
    }

pub members_of-empty : members_of [] ≡ set.empty
members_of-empty = set.same_set nat_cmp_total set.nat_cmp-IsAntisymmetric _ _ (λ q. contains-members_of [] q ∙ has_bit-zero (q % 64) ∙ sym (set.contains-empty nat_cmp q))

-- ---- one bit more, one bit less

cleared_same : (word k : ℕ) → k < 64 → has_bit (bit_and word (bit_not w64 (2 ^ k))) k ≡ false
cleared_same word k within = subst (λ m. has_bit (bit_and word (bit_not w64 m)) k ≡ false) (one_shl k 64 within) (has_bit-cleared_same word k within)

cleared_other : (word k : ℕ) → k < 64 → (i : ℕ) → i < 64 → i ≢ k → has_bit (bit_and word (bit_not w64 (2 ^ k))) i ≡ has_bit word i
cleared_other word k within i i_within other = subst (λ m. has_bit (bit_and word (bit_not w64 m)) i ≡ has_bit word i) (one_shl k 64 within) (has_bit-cleared_other word k within i i_within other)

bit-cases : (b k : ℕ) → b < 2 → not (eqb (b * 2 ^ k) 0) ≡ eqb b 1
bit-cases b k low =
    elim (cases_eq b 0) [
      | inl none ↦ ap (λ b. not (eqb (b * 2 ^ k) 0)) none ∙ (let z : 0 * 2 ^ k ≡ 0 = omega arith in ap (λ x. not (eqb x 0)) z) ∙ ap (λ b. eqb b 1) (sym none)
      | inr some ↦
          let one : b ≡ 1 = omega arith in
          let pos = pow_pos k in
          not_zero_test (b * 2 ^ k) (let e : b * 2 ^ k ≡ 2 ^ k = ap (λ b. b * 2 ^ k) one ∙ (let f : 1 * 2 ^ k ≡ 2 ^ k = omega arith in f) in omega arith) ∙ sym (ap (λ b. eqb b 1) one)
    ]

-- the test of one bit
pub bit-test : (word k : ℕ) → not (eqb (bit_and word (2 ^ k)) 0) ≡ has_bit word k
unfolding has_bit
bit-test word k = ap (λ x. not (eqb x 0)) (and_pow word k) ∙ bit-cases (bit_at word k) k (bit_at-lt word k)

module _ (words : List ℕ) (number : ℕ) (within : number / 64 < length words) where
  with-at : slice_index (with_bit words number) (number / 64) ≡ bit_or (slice_index words (number / 64)) (2 ^ (number % 64))
  with-at = get_or-set_same words (number / 64) (bit_or (slice_index words (number / 64)) (2 ^ (number % 64))) 0 within

  without-at : slice_index (without_bit words number) (number / 64) ≡ bit_and (slice_index words (number / 64)) (bit_not w64 (2 ^ (number % 64)))
  without-at = get_or-set_same words (number / 64) (bit_and (slice_index words (number / 64)) (bit_not w64 (2 ^ (number % 64)))) 0 within

  with-other : (w : ℕ) → w ≢ number / 64 → slice_index (with_bit words number) w ≡ slice_index words w
  with-other w other = get_or-set_other words (number / 64) w (bit_or (slice_index words (number / 64)) (2 ^ (number % 64))) 0 other

  without-other : (w : ℕ) → w ≢ number / 64 → slice_index (without_bit words number) w ≡ slice_index words w
  without-other w other = get_or-set_other words (number / 64) w (bit_and (slice_index words (number / 64)) (bit_not w64 (2 ^ (number % 64)))) 0 other

  -- the bit is set, and all others stay
  pub bit_of-with : (i : ℕ) → bit_of (with_bit words number) i ≡ (eqb i number || bit_of words i)
  bit_of-with i =
      elim (cases_eq i number) [
        | inl here ↦
            (λ j. has_bit (slice_index (with_bit words number) (here j / 64)) (here j % 64))
            ∙ ap (λ w. has_bit w (number % 64)) with-at
            ∙ has_bit-set_same (slice_index words (number / 64)) (number % 64) (omega arith)
            ∙ sym (or_left _ _ (eq-eqb i number here))
        | inr there ↦
            elim (cases_eq (i / 64) (number / 64)) [
              | inl same ↦
                  (λ j. has_bit (slice_index (with_bit words number) (same j)) (i % 64))
                  ∙ ap (λ w. has_bit w (i % 64)) with-at
                  ∙ has_bit-set_other (slice_index words (number / 64)) (number % 64) (i % 64) (omega arith)
                  ∙ (λ j. has_bit (slice_index words (sym same j)) (i % 64))
                  ∙ ap (λ b. b || bit_of words i) (sym (ne_eqb i number there))
              | inr apart ↦
                  ap (λ w. has_bit w (i % 64)) (with-other (i / 64) apart)
                  ∙ ap (λ b. b || bit_of words i) (sym (ne_eqb i number there))
            ]
      ]

  -- the bit is cleared, and all others stay
  pub bit_of-without : (i : ℕ) → bit_of (without_bit words number) i ≡ (not (eqb i number) && bit_of words i)
  bit_of-without i =
      elim (cases_eq i number) [
        | inl here ↦
            (λ j. has_bit (slice_index (without_bit words number) (here j / 64)) (here j % 64))
            ∙ ap (λ w. has_bit w (number % 64)) without-at
            ∙ cleared_same (slice_index words (number / 64)) (number % 64) (omega arith)
            ∙ ap (λ b. not b && bit_of words i) (sym (eq-eqb i number here))
        | inr there ↦
            elim (cases_eq (i / 64) (number / 64)) [
              | inl same ↦
                  (λ j. has_bit (slice_index (without_bit words number) (same j)) (i % 64))
                  ∙ ap (λ w. has_bit w (i % 64)) without-at
                  ∙ cleared_other (slice_index words (number / 64)) (number % 64) (omega arith) (i % 64) (omega arith) (omega arith)
                  ∙ (λ j. has_bit (slice_index words (sym same j)) (i % 64))
                  ∙ ap (λ b. not b && bit_of words i) (sym (ne_eqb i number there))
              | inr apart ↦
                  ap (λ w. has_bit w (i % 64)) (without-other (i / 64) apart)
                  ∙ ap (λ b. not b && bit_of words i) (sym (ne_eqb i number there))
            ]
      ]

  with-fits : ((w : ℕ) → slice_index words w < 2 ^ 64) → (w : ℕ) → slice_index (with_bit words number) w < 2 ^ 64
  with-fits fits w =
      elim (cases_eq w (number / 64)) [
        | inl here ↦
            let at : slice_index (with_bit words number) w ≡ bit_or (slice_index words (number / 64)) (2 ^ (number % 64)) = ap (slice_index (with_bit words number)) here ∙ with-at in
            let lt = or_lt 64 (slice_index words (number / 64)) (2 ^ (number % 64)) (fits (number / 64)) (pow_below (number % 64) 64 (omega arith)) in
            omega arith
        | inr there ↦ let at = with-other w there in let f = fits w in omega arith
      ]

  without-fits : ((w : ℕ) → slice_index words w < 2 ^ 64) → (w : ℕ) → slice_index (without_bit words number) w < 2 ^ 64
  without-fits fits w =
      elim (cases_eq w (number / 64)) [
        | inl here ↦
            let at : slice_index (without_bit words number) w ≡ bit_and (slice_index words (number / 64)) (bit_not w64 (2 ^ (number % 64))) = ap (slice_index (without_bit words number)) here ∙ without-at in
            let le = and_le_l (slice_index words (number / 64)) (bit_not w64 (2 ^ (number % 64))) in
            let f = fits (number / 64) in
            omega arith
        | inr there ↦ let at = without-other w there in let f = fits w in omega arith
      ]

-- a bit more, with its summary
pub IsSummary-with : (below above : List ℕ) (number : ℕ) → number / 64 < length below → IsSummary below above → IsSummary (with_bit below number) (with_bit above (number / 64))
IsSummary-with below above number within summary =
    let long = summary.long in
    record {
      fits = with-fits below number within summary.fits;
      long = (let l = length-set below (number / 64) (bit_or (slice_index below (number / 64)) (2 ^ (number % 64))) in let m = length-set above (number / 64 / 64) (bit_or (slice_index above (number / 64 / 64)) (2 ^ (number / 64 % 64))) in omega arith);
      bits = λ w.
          bit_of-with above (number / 64) (omega arith) w
          ∙ elim (cases_eq w (number / 64)) [
            | inl here ↦
                or_left _ _ (eq-eqb w (number / 64) here)
                ∙ sym (not_zero_test _ (nonzero_of_has_bit _ (number % 64)
                (ap (λ x. has_bit x (number % 64)) (ap (slice_index (with_bit below number)) here ∙ with-at below number within) ∙ has_bit-set_same (slice_index below (number / 64)) (number % 64) (omega arith))))
            | inr there ↦
                ap (λ b. b || bit_of above w) (ne_eqb w (number / 64) there)
                ∙ summary.bits w
                ∙ ap (λ x. not (eqb x 0)) (sym (with-other below number within w there))
          ];
    }

-- a bit less, where its word is zero then: the summary goes too
pub IsSummary-without : (below above : List ℕ) (number : ℕ) → number / 64 < length below → IsSummary below above → slice_index (without_bit below number) (number / 64) ≡ 0 → IsSummary (without_bit below number) (without_bit above (number / 64))
IsSummary-without below above number within summary zeroed =
    let long = summary.long in
    record {
      fits = without-fits below number within summary.fits;
      long = (let l = length-set below (number / 64) (bit_and (slice_index below (number / 64)) (bit_not w64 (2 ^ (number % 64)))) in let m = length-set above (number / 64 / 64) (bit_and (slice_index above (number / 64 / 64)) (bit_not w64 (2 ^ (number / 64 % 64)))) in omega arith);
      bits = λ w.
          bit_of-without above (number / 64) (omega arith) w
          ∙ elim (cases_eq w (number / 64)) [
            | inl here ↦
                ap (λ b. not b && bit_of above w) (eq-eqb w (number / 64) here)
                ∙ sym (ap (λ x. not (eqb x 0)) (ap (slice_index (without_bit below number)) here ∙ zeroed))
            | inr there ↦
                ap (λ b. not b && bit_of above w) (ne_eqb w (number / 64) there)
                ∙ summary.bits w
                ∙ ap (λ x. not (eqb x 0)) (sym (without-other below number within w there))
          ];
    }

-- a bit less, where its word isn't zero then: the summary stays
pub IsSummary-kept : (below above : List ℕ) (number : ℕ) → number / 64 < length below → IsSummary below above → slice_index (without_bit below number) (number / 64) ≢ 0 → slice_index below (number / 64) ≢ 0 → IsSummary (without_bit below number) above
IsSummary-kept below above number within summary left was =
    let long = summary.long in
    record {
      fits = without-fits below number within summary.fits;
      long = (let l = length-set below (number / 64) (bit_and (slice_index below (number / 64)) (bit_not w64 (2 ^ (number % 64)))) in omega arith);
      bits = λ w.
          summary.bits w
          ∙ elim (cases_eq w (number / 64)) [
            | inl here ↦
                ap (λ x. not (eqb x 0)) (ap (slice_index below) here) ∙ not_zero_test _ (omega arith)
                ∙ sym (ap (λ x. not (eqb x 0)) (ap (slice_index (without_bit below number)) here) ∙ not_zero_test _ (omega arith))
            | inr there ↦ ap (λ x. not (eqb x 0)) (sym (without-other below number within w there))
          ];
    }

-- a bit more in a word that isn't zero: the summary stays
pub IsSummary-fuller : (below above : List ℕ) (number : ℕ) → number / 64 < length below → IsSummary below above → slice_index below (number / 64) ≢ 0 → IsSummary (with_bit below number) above
IsSummary-fuller below above number within summary was =
    let long = summary.long in
    record {
      fits = with-fits below number within summary.fits;
      long = (let l = length-set below (number / 64) (bit_or (slice_index below (number / 64)) (2 ^ (number % 64))) in omega arith);
      bits = λ w.
          summary.bits w
          ∙ elim (cases_eq w (number / 64)) [
            | inl here ↦
                ap (λ x. not (eqb x 0)) (ap (slice_index below) here) ∙ not_zero_test _ (omega arith)
                ∙ sym (not_zero_test _ (nonzero_of_has_bit _ (number % 64)
                (ap (λ x. has_bit x (number % 64)) (ap (slice_index (with_bit below number)) here ∙ with-at below number within) ∙ has_bit-set_same (slice_index below (number / 64)) (number % 64) (omega arith))))
            | inr there ↦ ap (λ x. not (eqb x 0)) (sym (with-other below number within w there))
          ];
    }

-- ---- all layers

with-top : (l3 n : ℕ) → n < 64 → with_bit (l3 ∷ []) n ≡ bit_or l3 (2 ^ n) ∷ []
with-top l3 n low =
    let word : n / 64 ≡ 0 = omega arith in
    let place : n % 64 ≡ n = omega arith in
    (λ j. slice_set (l3 ∷ []) (word j) (bit_or (slice_index (l3 ∷ []) (word j)) (2 ^ place j)))

without-top : (l3 n : ℕ) → n < 64 → without_bit (l3 ∷ []) n ≡ bit_and l3 (bit_not w64 (2 ^ n)) ∷ []
without-top l3 n low =
    let word : n / 64 ≡ 0 = omega arith in
    let place : n % 64 ≡ n = omega arith in
    (λ j. slice_set (l3 ∷ []) (word j) (bit_and (slice_index (l3 ∷ []) (word j)) (bit_not w64 (2 ^ place j))))

-- the number of a bit, its word's, and so on upwards
pub record IsIn (l0 l1 l2 : List ℕ) (id : ℕ) : Type 0 where
  pub in0 : id / 64 < length l0
  pub in1 : id / 64 / 64 < length l1
  pub in2 : id / 64 / 64 / 64 < length l2
  pub in3 : id / 64 / 64 / 64 < 64

pub in-layers : {l0 l1 l2 : List ℕ} {l3 : ℕ} → IsLayered l0 l1 l2 l3 → (id : ℕ) → id / 64 < length l0 → IsIn l0 l1 l2 id
in-layers layered id within =
    let a = layered.first.long in
    let b = layered.second.long in
    let d = layered.third.long in
    record { in0 = within; in1 = omega arith; in2 = omega arith; in3 = omega arith }

-- a bit more, in all layers
pub layered-with : {l0 l1 l2 : List ℕ} {l3 : ℕ} → IsLayered l0 l1 l2 l3 → (id : ℕ) → id / 64 < length l0 → IsLayered (with_bit l0 id) (with_bit l1 (id / 64)) (with_bit l2 (id / 64 / 64)) (bit_or l3 (2 ^ (id / 64 / 64 / 64)))
layered-with {l0} {l1} {l2} {l3} layered id within =
    let is_in = in-layers layered id within in
    let top = with-top l3 (id / 64 / 64 / 64) is_in.in3 in
    record {
      first = IsSummary-with l0 l1 id is_in.in0 layered.first;
      second = IsSummary-with l1 l2 (id / 64) is_in.in1 layered.second;
      third = subst (IsSummary (with_bit l2 (id / 64 / 64))) top (IsSummary-with l2 (l3 ∷ []) (id / 64 / 64) is_in.in2 layered.third);
      fits = or_lt 64 l3 (2 ^ (id / 64 / 64 / 64)) layered.fits (pow_below (id / 64 / 64 / 64) 64 is_in.in3);
    }

-- where the word isn't zero, one bit more changes layer 0 alone
pub layered-fuller : {l0 l1 l2 : List ℕ} {l3 : ℕ} → IsLayered l0 l1 l2 l3 → (id : ℕ) → id / 64 < length l0 → slice_index l0 (id / 64) ≢ 0 → IsLayered (with_bit l0 id) l1 l2 l3
layered-fuller {l0} {l1} {l2} {l3} layered id within was = record { first = IsSummary-fuller l0 l1 id within layered.first was; second = layered.second; third = layered.third; fits = layered.fits }

-- the word of a bit that is set isn't zero
word-some : (words : List ℕ) (number : ℕ) → bit_of words number ≡ true → slice_index words (number / 64) ≢ 0
word-some words number set zeroed = let pos = nonzero_of_has_bit _ (number % 64) set in omega arith

-- where a word isn't zero its summary bit is set
summary-some : (below above : List ℕ) → IsSummary below above → (w : ℕ) → slice_index below w ≢ 0 → bit_of above w ≡ true
summary-some below above summary w some = summary.bits w ∙ not_zero_test _ (omega arith)

module _ {l0 l1 l2 : List ℕ} {l3 : ℕ} (layered : IsLayered l0 l1 l2 l3) (id : ℕ) (within : id / 64 < length l0) (was : bit_of l0 id ≡ true) where
  is_in : IsIn l0 l1 l2 id
  is_in = in-layers layered id within

  some0 : slice_index l0 (id / 64) ≢ 0
  some0 = word-some l0 id was

  set1 : bit_of l1 (id / 64) ≡ true
  set1 = summary-some l0 l1 layered.first (id / 64) some0

  some1 : slice_index l1 (id / 64 / 64) ≢ 0
  some1 = word-some l1 (id / 64) set1

  set2 : bit_of l2 (id / 64 / 64) ≡ true
  set2 = summary-some l1 l2 layered.second (id / 64 / 64) some1

  some2 : slice_index l2 (id / 64 / 64 / 64) ≢ 0
  some2 = word-some l2 (id / 64 / 64) set2

  pub layered-without0 : slice_index (without_bit l0 id) (id / 64) ≢ 0 → IsLayered (without_bit l0 id) l1 l2 l3
  layered-without0 left = record { first = IsSummary-kept l0 l1 id is_in.in0 layered.first left some0; second = layered.second; third = layered.third; fits = layered.fits }

  pub layered-without1 : slice_index (without_bit l0 id) (id / 64) ≡ 0 → slice_index (without_bit l1 (id / 64)) (id / 64 / 64) ≢ 0 → IsLayered (without_bit l0 id) (without_bit l1 (id / 64)) l2 l3
  layered-without1 zero0 left =
      record {
        first = IsSummary-without l0 l1 id is_in.in0 layered.first zero0;
        second = IsSummary-kept l1 l2 (id / 64) is_in.in1 layered.second left some1;
        third = layered.third;
        fits = layered.fits;
      }

  pub layered-without2 : slice_index (without_bit l0 id) (id / 64) ≡ 0 → slice_index (without_bit l1 (id / 64)) (id / 64 / 64) ≡ 0 → slice_index (without_bit l2 (id / 64 / 64)) (id / 64 / 64 / 64) ≢ 0 → IsLayered (without_bit l0 id) (without_bit l1 (id / 64)) (without_bit l2 (id / 64 / 64)) l3
  layered-without2 zero0 zero1 left =
      record {
        first = IsSummary-without l0 l1 id is_in.in0 layered.first zero0;
        second = IsSummary-without l1 l2 (id / 64) is_in.in1 layered.second zero1;
        third = IsSummary-kept l2 (l3 ∷ []) (id / 64 / 64) is_in.in2 layered.third left some2;
        fits = layered.fits;
      }

  pub layered-without3 : slice_index (without_bit l0 id) (id / 64) ≡ 0 → slice_index (without_bit l1 (id / 64)) (id / 64 / 64) ≡ 0 → slice_index (without_bit l2 (id / 64 / 64)) (id / 64 / 64 / 64) ≡ 0 → IsLayered (without_bit l0 id) (without_bit l1 (id / 64)) (without_bit l2 (id / 64 / 64)) (bit_and l3 (bit_not w64 (2 ^ (id / 64 / 64 / 64))))
  layered-without3 zero0 zero1 zero2 =
      let top = without-top l3 (id / 64 / 64 / 64) is_in.in3 in
      record {
        first = IsSummary-without l0 l1 id is_in.in0 layered.first zero0;
        second = IsSummary-without l1 l2 (id / 64) is_in.in1 layered.second zero1;
        third = subst (IsSummary (without_bit l2 (id / 64 / 64))) top (IsSummary-without l2 (l3 ∷ []) (id / 64 / 64) is_in.in2 layered.third zero2);
        fits = (let l = and_le_l l3 (bit_not w64 (2 ^ (id / 64 / 64 / 64))) in let f = layered.fits in omega arith);
      }

-- the test of a bit in its word is that of the member
pub tested-member : (words : List ℕ) (s : SetWithRoom) (id word mask : ℕ) → set_of words ≡ s → word ≡ slice_index words (id / 64) → mask ≡ 2 ^ (id % 64) → not (eqb (bit_and word mask) 0) ≡ set.contains s.members id
tested-member words s id word mask view at bit =
    (λ j. not (eqb (bit_and (at j) (bit j)) 0))
    ∙ bit-test (slice_index words (id / 64)) (id % 64)
    ∙ sym (contains-members_of words id)
    ∙ ap (λ s. set.contains s.members id) view

-- the members after one bit more or less
eq-cmp : (q k : ℕ) → eq_by_cmp nat_cmp q k ≡ eqb q k
eq-cmp q k = unsigned_tied q k

pub members_of-with : (words : List ℕ) (id : ℕ) → id / 64 < length words → members_of (with_bit words id) ≡ set.insert (members_of words) id
members_of-with words id within =
    set.same_set nat_cmp_total set.nat_cmp-IsAntisymmetric _ _ (λ q.
    contains-members_of (with_bit words id) q ∙ bit_of-with words id within q
    ∙ sym (set.contains-insert nat_cmp_total (members_of words) id q ∙ (λ j. eq-cmp q id j || contains-members_of words q j)))

pub members_of-without : (words : List ℕ) (id : ℕ) → id / 64 < length words → members_of (without_bit words id) ≡ set.remove (members_of words) id
members_of-without words id within =
    set.same_set nat_cmp_total set.nat_cmp-IsAntisymmetric _ _ (λ q.
    contains-members_of (without_bit words id) q ∙ bit_of-without words id within q
    ∙ sym (set.contains-remove nat_cmp_total (members_of words) id q ∙ (λ j. not (eq-cmp q id j) && contains-members_of words q j)))

-- a set that is there already, or isn't, stays
pub insert-there : (s : set.FinSet nat_cmp) (id : ℕ) → set.contains s id ≡ true → set.insert s id ≡ s
insert-there s id there =
    set.same_set nat_cmp_total set.nat_cmp-IsAntisymmetric _ _ (λ q.
    set.contains-insert nat_cmp_total s id q ∙ ap (λ b. b || set.contains s q) (eq-cmp q id)
    ∙ elim (cases_eq q id) [
      | inl here ↦ or_left _ _ (eq-eqb q id here) ∙ sym (ap (set.contains s) here ∙ there)
      | inr other ↦ ap (λ b. b || set.contains s q) (ne_eqb q id other)
    ])

pub remove-absent : (s : set.FinSet nat_cmp) (id : ℕ) → set.contains s id ≡ false → set.remove s id ≡ s
remove-absent s id absent =
    set.same_set nat_cmp_total set.nat_cmp-IsAntisymmetric _ _ (λ q.
    set.contains-remove nat_cmp_total s id q ∙ ap (λ b. not b && set.contains s q) (eq-cmp q id)
    ∙ elim (cases_eq q id) [
      | inl here ↦ ap (λ b. not b && set.contains s q) (eq-eqb q id here) ∙ sym (ap (set.contains s) here ∙ absent)
      | inr other ↦ ap (λ b. not b && set.contains s q) (ne_eqb q id other)
    ])

-- a member is below the room
pub contains-room : (words : List ℕ) (id : ℕ) → set.contains (members_of words) id ≡ true → id < 64 * length words
contains-room words id member =
    elim (cases_lt id (64 * length words)) [
      | inl within ↦ within
      | inr past ↦ absurd (true≢false (sym member ∙ contains-members_of words id ∙ bit_of-past words id past))
    ]

-- the same as a value of the model
pub member-room : (words : List ℕ) (s : SetWithRoom) → set_of words ≡ s → (id : ℕ) → set.contains s.members id ≡ true → id < s.room
member-room words s is id member =
    subst (λ v. set.contains v.members id ≡ true → id < v.room) is (contains-room words id) member

-- ---- a set without members

-- where a word isn't zero one of its bits is set
word-bit : (words : List ℕ) (w : ℕ) → slice_index words w < 2 ^ 64 → slice_index words w ≢ 0 → (i : ℕ) × (bit_of words i ≡ true)
word-bit words w fits some =
    let lowest = lowest_bit (slice_index words w) (omega arith) fits in
    let place = trailing_zeros w64 (slice_index words w) in
    let low : place < 64 = lowest.0 in
    (64 * w + place, (let at : (64 * w + place) / 64 ≡ w = omega arith in let in_word : (64 * w + place) % 64 ≡ place = omega arith in (λ j. has_bit (slice_index words (at j)) (in_word j)) ∙ lowest.1))

summary-none : (below above : List ℕ) → IsSummary below above → (w : ℕ) → bit_of above w ≡ true → slice_index below w ≢ 0
summary-none below above summary w set zeroed = true≢false (sym set ∙ summary.bits w ∙ ap (λ x. not (eqb x 0)) zeroed)

pub layered-none : {l0 l1 l2 : List ℕ} {l3 : ℕ} → IsLayered l0 l1 l2 l3 → ((q : ℕ) → set.contains (members_of l0) q ≡ false) → l3 ≡ 0
layered-none {l0} {l1} {l2} {l3} layered none =
    elim (cases_eq l3 0) [
      | inl zeroed ↦ zeroed
      | inr some ↦
          let top = word-bit (l3 ∷ []) 0 layered.fits some in
          let second = word-bit l2 top.0 (layered.third.fits top.0) (summary-none l2 (l3 ∷ []) layered.third top.0 top.1) in
          let first = word-bit l1 second.0 (layered.second.fits second.0) (summary-none l1 l2 layered.second second.0 second.1) in
          let zeroth = word-bit l0 first.0 (layered.first.fits first.0) (summary-none l0 l1 layered.first first.0 first.1) in
          absurd (true≢false (sym zeroth.1 ∙ sym (contains-members_of l0 zeroth.0) ∙ none zeroth.0))
    ]

pub none-layered : {l0 l1 l2 : List ℕ} {l3 : ℕ} → IsLayered l0 l1 l2 l3 → l3 ≡ 0 → members_of l0 ≡ set.empty
none-layered {l0} {l1} {l2} {l3} layered zeroed =
    set.same_set nat_cmp_total set.nat_cmp-IsAntisymmetric _ _ (λ q.
    contains-members_of l0 q
    ∙ false_from_ne_true _ (λ member.
    let one = summary-some l0 l1 layered.first (q / 64) (word-some l0 q member) in
    let two = summary-some l1 l2 layered.second (q / 64 / 64) (word-some l1 (q / 64) one) in
    let three = summary-some l2 (l3 ∷ []) layered.third (q / 64 / 64 / 64) (word-some l2 (q / 64 / 64) two) in
    true≢false (sym three ∙ ap (λ l. bit_of (l ∷ []) (q / 64 / 64 / 64)) zeroed ∙ empty-bits (q / 64 / 64 / 64)))
    ∙ sym (set.contains-empty nat_cmp q))

-- ---- one set in another

pub uncovered-bit : (part word : ℕ) → part < 2 ^ 64 → word < 2 ^ 64 → bit_and part (bit_not w64 word) ≢ 0 → (k : ℕ) × (k < 64) × (has_bit part k ≡ true) × (has_bit word k ≡ false)
uncovered-bit part word part_fits fits some =
    let rest = bit_and part (bit_not w64 word) in
    let le = and_le_l part (bit_not w64 word) in
    let lowest = lowest_bit rest (omega arith) (omega arith) in
    let place = trailing_zeros w64 rest in
    let both = and_parts _ _ (sym (has_bit-and part (bit_not w64 word) place) ∙ lowest.1) in
    (place, lowest.0, both.0, not-true _ (sym (has_bit-not word place fits lowest.0) ∙ both.1))

pub covered-bits : (part word : ℕ) → word < 2 ^ 64 → bit_and part (bit_not w64 word) ≡ 0 → (k : ℕ) → k < 64 → has_bit part k ≡ true → has_bit word k ≡ true
covered-bits part word fits none k low set =
    true_from_ne_false _ (λ missing.
    let bit : has_bit (bit_and part (bit_not w64 word)) k ≡ true =
    has_bit-and part (bit_not w64 word) k ∙ and_from _ _ set (has_bit-not word k fits low ∙ ap not missing) in
    true≢false (sym bit ∙ ap (λ w. has_bit w k) none ∙ has_bit-zero k))

-- the answer of a test of bits is that of the sets
pub subset-answer : (words part : List ℕ) (answer : Bool) → (answer ≡ true → (i : ℕ) → bit_of part i ≡ true → bit_of words i ≡ true) → (answer ≡ false → (i : ℕ) × (bit_of part i ≡ true) × (bit_of words i ≡ false)) → answer ≡ set.is_subset (members_of part) (members_of words)
subset-answer words part true all_in some_out =
    sym (set.contains-is_subset nat_cmp_total _ _ (λ q member. contains-members_of words q ∙ all_in refl q (sym (contains-members_of part q) ∙ member)))
subset-answer words part false all_in some_out =
    let witness = some_out refl in
    sym (false_from_ne_true _ (λ subset.
    true≢false (sym (set.is_subset-contains nat_cmp_total _ _ subset witness.0 (contains-members_of part witness.0 ∙ witness.1)) ∙ contains-members_of words witness.0 ∙ witness.2)))

-- what stays of a set without one index
pub contains-without : (s : set.FinSet nat_cmp) (i j : ℕ) → set.contains (set.remove s i) j ≡ (not (eqb j i) && set.contains s j)
contains-without s i j = set.contains-remove nat_cmp_total s i j ∙ ap (λ b. not b && set.contains s j) (eq-cmp j i)

-- what is in a set with one index more
pub contains-with : (s : set.FinSet nat_cmp) (i j : ℕ) → set.contains (set.insert s i) j ≡ (eqb j i || set.contains s j)
contains-with s i j = set.contains-insert nat_cmp_total s i j ∙ ap (λ b. b || set.contains s j) (eq-cmp j i)

-- ---- a word of layer 0 replaced

module _ (below : List ℕ) (w x : ℕ) (within : w < length below) where
  put-at : slice_index (slice_set below w x) w ≡ x
  put-at = get_or-set_same below w x 0 within

  put-other : (v : ℕ) → v ≢ w → slice_index (slice_set below w x) v ≡ slice_index below v
  put-other v other = get_or-set_other below w v x 0 other

  put-fits : x < 2 ^ 64 → ((v : ℕ) → slice_index below v < 2 ^ 64) → (v : ℕ) → slice_index (slice_set below w x) v < 2 ^ 64
  put-fits x_fits fits v =
      elim (cases_eq v w) [
        | inl here ↦ let at = ap (slice_index (slice_set below w x)) here ∙ put-at in omega arith
        | inr there ↦ let at = put-other v there in let f = fits v in omega arith
      ]

  -- with a word that isn't zero, and its summary bit
  pub IsSummary-filled : (above : List ℕ) → IsSummary below above → x < 2 ^ 64 → x ≢ 0 → IsSummary (slice_set below w x) (with_bit above w)
  IsSummary-filled above summary x_fits some =
      let long = summary.long in
      record {
        fits = put-fits x_fits summary.fits;
        long = (let l = length-set below w x in let m = length-set above (w / 64) (bit_or (slice_index above (w / 64)) (2 ^ (w % 64))) in omega arith);
        bits = λ v.
            bit_of-with above w (omega arith) v
            ∙ elim (cases_eq v w) [
              | inl here ↦ or_left _ _ (eq-eqb v w here) ∙ sym (ap (λ y. not (eqb y 0)) (ap (slice_index (slice_set below w x)) here ∙ put-at) ∙ not_zero_test x (omega arith))
              | inr there ↦ ap (λ b. b || bit_of above v) (ne_eqb v w there) ∙ summary.bits v ∙ ap (λ y. not (eqb y 0)) (sym (put-other v there))
            ];
      }

  -- with a word that isn't zero in place of another
  pub IsSummary-refilled : (above : List ℕ) → IsSummary below above → x < 2 ^ 64 → x ≢ 0 → slice_index below w ≢ 0 → IsSummary (slice_set below w x) above
  IsSummary-refilled above summary x_fits some was =
      let long = summary.long in
      record {
        fits = put-fits x_fits summary.fits;
        long = (let l = length-set below w x in omega arith);
        bits = λ v.
            summary.bits v
            ∙ elim (cases_eq v w) [
              | inl here ↦
                  ap (λ y. not (eqb y 0)) (ap (slice_index below) here) ∙ not_zero_test _ (omega arith)
                  ∙ sym (ap (λ y. not (eqb y 0)) (ap (slice_index (slice_set below w x)) here ∙ put-at) ∙ not_zero_test x (omega arith))
              | inr there ↦ ap (λ y. not (eqb y 0)) (sym (put-other v there))
            ];
      }

  -- with the word zero, and without its summary bit
  pub IsSummary-emptied : (above : List ℕ) → IsSummary below above → x ≡ 0 → IsSummary (slice_set below w x) (without_bit above w)
  IsSummary-emptied above summary zeroed =
      let long = summary.long in
      record {
        fits = put-fits (omega arith) summary.fits;
        long = (let l = length-set below w x in let m = length-set above (w / 64) (bit_and (slice_index above (w / 64)) (bit_not w64 (2 ^ (w % 64)))) in omega arith);
        bits = λ v.
            bit_of-without above w (omega arith) v
            ∙ elim (cases_eq v w) [
              | inl here ↦ ap (λ b. not b && bit_of above v) (eq-eqb v w here) ∙ sym (ap (λ y. not (eqb y 0)) (ap (slice_index (slice_set below w x)) here ∙ put-at ∙ zeroed))
              | inr there ↦ ap (λ b. not b && bit_of above v) (ne_eqb v w there) ∙ summary.bits v ∙ ap (λ y. not (eqb y 0)) (sym (put-other v there))
            ];
      }

  pub bit_of-put : (i : ℕ) → bit_of (slice_set below w x) i ≡ cond (eqb (i / 64) w) (has_bit x (i % 64)) (bit_of below i)
  bit_of-put i =
      elim (cases_eq (i / 64) w) [
        | inl here ↦ ap (λ y. has_bit y (i % 64)) (ap (slice_index (slice_set below w x)) here ∙ put-at) ∙ ap (λ b. cond b (has_bit x (i % 64)) (bit_of below i)) (sym (eq-eqb _ _ here))
        | inr there ↦ ap (λ y. has_bit y (i % 64)) (put-other (i / 64) there) ∙ ap (λ b. cond b (has_bit x (i % 64)) (bit_of below i)) (sym (ne_eqb _ _ there))
      ]

-- what was a word with a bit less wasn't zero where the rest isn't
cleared-some : (words : List ℕ) (number : ℕ) → number / 64 < length words → slice_index (without_bit words number) (number / 64) ≢ 0 → slice_index words (number / 64) ≢ 0
cleared-some words number within left zeroed =
    let at = without-at words number within in
    let le = and_le_l (slice_index words (number / 64)) (bit_not w64 (2 ^ (number % 64))) in
    left (omega arith)

module _ {l0 l1 l2 : List ℕ} {l3 : ℕ} (layered : IsLayered l0 l1 l2 l3) (w : ℕ) (within : w < length l0) where
  -- where the word's bit stands
  pub record IsWordIn : Type 0 where
    pub in1 : w / 64 < length l1
    pub in2 : w / 64 / 64 < length l2
    pub in3 : w / 64 / 64 < 64

  pub word-in : IsWordIn
  word-in =
      let a = layered.first.long in
      let b = layered.second.long in
      let d = layered.third.long in
      record { in1 = omega arith; in2 = omega arith; in3 = omega arith }

  pub layered-filled : (x : ℕ) → x < 2 ^ 64 → x ≢ 0 → IsLayered (slice_set l0 w x) (with_bit l1 w) (with_bit l2 (w / 64)) (bit_or l3 (2 ^ (w / 64 / 64)))
  layered-filled x fits some =
      record {
        first = IsSummary-filled l0 w x within l1 layered.first fits some;
        second = IsSummary-with l1 l2 w word-in.in1 layered.second;
        third = subst (IsSummary (with_bit l2 (w / 64))) (with-top l3 (w / 64 / 64) word-in.in3) (IsSummary-with l2 (l3 ∷ []) (w / 64) word-in.in2 layered.third);
        fits = or_lt 64 l3 (2 ^ (w / 64 / 64)) layered.fits (pow_below (w / 64 / 64) 64 word-in.in3);
      }

  -- where the word wasn't zero either, it changes layer 0 alone
  pub layered-refilled : (x : ℕ) → x < 2 ^ 64 → x ≢ 0 → slice_index l0 w ≢ 0 → IsLayered (slice_set l0 w x) l1 l2 l3
  layered-refilled x fits some was =
      record {
        first = IsSummary-refilled l0 w x within l1 layered.first fits some was;
        second = layered.second;
        third = layered.third;
        fits = layered.fits;
      }

  pub layered-emptied1 : slice_index (without_bit l1 w) (w / 64) ≢ 0 → IsLayered (slice_set l0 w 0) (without_bit l1 w) l2 l3
  layered-emptied1 left =
      record {
        first = IsSummary-emptied l0 w 0 within l1 layered.first refl;
        second = IsSummary-kept l1 l2 w word-in.in1 layered.second left (cleared-some l1 w word-in.in1 left);
        third = layered.third;
        fits = layered.fits;
      }

  pub layered-emptied2 : slice_index (without_bit l1 w) (w / 64) ≡ 0 → slice_index (without_bit l2 (w / 64)) (w / 64 / 64) ≢ 0 → IsLayered (slice_set l0 w 0) (without_bit l1 w) (without_bit l2 (w / 64)) l3
  layered-emptied2 zero1 left =
      record {
        first = IsSummary-emptied l0 w 0 within l1 layered.first refl;
        second = IsSummary-without l1 l2 w word-in.in1 layered.second zero1;
        third = IsSummary-kept l2 (l3 ∷ []) (w / 64) word-in.in2 layered.third left (cleared-some l2 (w / 64) word-in.in2 left);
        fits = layered.fits;
      }

  pub layered-emptied3 : slice_index (without_bit l1 w) (w / 64) ≡ 0 → slice_index (without_bit l2 (w / 64)) (w / 64 / 64) ≡ 0 → IsLayered (slice_set l0 w 0) (without_bit l1 w) (without_bit l2 (w / 64)) (bit_and l3 (bit_not w64 (2 ^ (w / 64 / 64))))
  layered-emptied3 zero1 zero2 =
      record {
        first = IsSummary-emptied l0 w 0 within l1 layered.first refl;
        second = IsSummary-without l1 l2 w word-in.in1 layered.second zero1;
        third = subst (IsSummary (without_bit l2 (w / 64))) (without-top l3 (w / 64 / 64) word-in.in3) (IsSummary-without l2 (l3 ∷ []) (w / 64) word-in.in2 layered.third zero2);
        fits = (let l = and_le_l l3 (bit_not w64 (2 ^ (w / 64 / 64))) in let f = layered.fits in omega arith);
      }

-- the members after a word was replaced
pub contains-put : (words : List ℕ) (w x : ℕ) → w < length words → (i : ℕ) → set.contains (members_of (slice_set words w x)) i ≡ cond (eqb (i / 64) w) (has_bit x (i % 64)) (set.contains (members_of words) i)
contains-put words w x within i =
    contains-members_of (slice_set words w x) i ∙ bit_of-put words w x within i
    ∙ ap (λ b. cond (eqb (i / 64) w) (has_bit x (i % 64)) b) (sym (contains-members_of words i))
