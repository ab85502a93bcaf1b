-- One step of a walk: the lowest bit leaves its mask, and the word under it is read.
use Rattle.std.proofs.Common.{◌≡◌, ◌≢◌, ℕ, ◌+◌, ◌-◌, ◌/◌, ◌%◌, ◌<◌, ◌≤◌, List, true, false, ◌&&◌, eqb, inl, inr, sym, ap, ◌∙◌, arith, slice_index}
use Rattle.std.proofs.lemmas.Bool.{cases_eq, cases_lt, true≢false, eqb-true, eq-eqb, ne_eqb, and_parts, and_from, and_left, and_right}
use Rattle.hibitset_sets.specs.Bits.{has_bit}
use Rattle.hibitset_sets.specs.Walk.{is_left}
use Rattle.hibitset_sets.specs.BitLemmas.{has_bit-zero}

-- ---- what is left in a mask

-- a number whose bit is left stands in the word of the prefix
pub left-word : (masks prefix : List ℕ) (layer number : ℕ) → is_left masks prefix layer number ≡ true → number / 64 ≡ slice_index prefix layer / 64
unfolding is_left
left-word masks prefix layer number h = eqb-true _ _ (and_parts _ _ h).0

pub left-bit : (masks prefix : List ℕ) (layer number : ℕ) → is_left masks prefix layer number ≡ true → has_bit (slice_index masks layer) (number % 64) ≡ true
unfolding is_left
left-bit masks prefix layer number h = (and_parts _ _ h).1

pub left-from : (masks prefix : List ℕ) (layer number : ℕ) → number / 64 ≡ slice_index prefix layer / 64 → has_bit (slice_index masks layer) (number % 64) ≡ true → is_left masks prefix layer number ≡ true
unfolding is_left
left-from masks prefix layer number word bit = and_from _ _ (eq-eqb _ _ word) bit

-- nothing is left in an empty mask
pub left-empty : (masks prefix : List ℕ) (layer number : ℕ) → slice_index masks layer ≡ 0 → is_left masks prefix layer number ≡ false
unfolding is_left
left-empty masks prefix layer number empty = and_right _ _ (ap (λ m. has_bit m (number % 64)) empty ∙ has_bit-zero (number % 64))

-- what is left hangs on the mask and the prefix of the layer alone
pub left-same : (masks prefix masks' prefix' : List ℕ) (layer number : ℕ) → slice_index masks layer ≡ slice_index masks' layer → slice_index prefix layer ≡ slice_index prefix' layer → is_left masks prefix layer number ≡ is_left masks' prefix' layer number
unfolding is_left
left-same masks prefix masks' prefix' layer number m p =
    ap (λ x. eqb (number / 64) (x / 64) && has_bit (slice_index masks layer) (number % 64)) p
    ∙ ap (λ x. eqb (number / 64) (slice_index prefix' layer / 64) && has_bit x (number % 64)) m

-- the masks after the lowest bit left a mask, at the number of that bit
pub record IsTaken (masks masks' prefix : List ℕ) (layer number : ℕ) : Type 0 where
  pub aligned : slice_index prefix layer % 64 ≡ 0
  pub from : slice_index prefix layer ≤ number
  pub upto : number < slice_index prefix layer + 64
  pub was : has_bit (slice_index masks layer) (number - slice_index prefix layer) ≡ true
  pub least : (i : ℕ) → i < number - slice_index prefix layer → has_bit (slice_index masks layer) i ≡ false
  pub gone : has_bit (slice_index masks' layer) (number - slice_index prefix layer) ≡ false
  pub stay : (i : ℕ) → i < 64 → i ≢ number - slice_index prefix layer → has_bit (slice_index masks' layer) i ≡ has_bit (slice_index masks layer) i

pub taken-word : {masks masks' prefix : List ℕ} {layer number : ℕ} → IsTaken masks masks' prefix layer number → number / 64 ≡ slice_index prefix layer / 64
taken-word t = let a = t.aligned in let f = t.from in let u = t.upto in omega arith

pub taken-place : {masks masks' prefix : List ℕ} {layer number : ℕ} → IsTaken masks masks' prefix layer number → number % 64 ≡ number - slice_index prefix layer
taken-place t = let a = t.aligned in let f = t.from in let u = t.upto in omega arith

-- the bit that was taken was left before
pub taken-was : {masks masks' prefix : List ℕ} {layer number : ℕ} → IsTaken masks masks' prefix layer number → is_left masks prefix layer number ≡ true
taken-was {masks} {masks'} {prefix} {layer} {number} t =
    left-from masks prefix layer number (taken-word t) (ap (has_bit (slice_index masks layer)) (taken-place t) ∙ t.was)

pub taken-gone : {masks masks' prefix : List ℕ} {layer number : ℕ} → IsTaken masks masks' prefix layer number → is_left masks' prefix layer number ≡ false
unfolding is_left
taken-gone {masks} {masks'} {prefix} {layer} {number} t =
    and_right _ _ (ap (has_bit (slice_index masks' layer)) (taken-place t) ∙ t.gone)

-- every other bit stays as it was
pub taken-other : {masks masks' prefix : List ℕ} {layer number : ℕ} → IsTaken masks masks' prefix layer number → (other : ℕ) → other ≢ number → is_left masks' prefix layer other ≡ is_left masks prefix layer other
unfolding is_left
taken-other {masks} {masks'} {prefix} {layer} {number} t other differs =
    elim (cases_eq (other / 64) (slice_index prefix layer / 64)) [
      | inl here ↦
          let w = taken-word t in
          let p = taken-place t in
          ap (λ b. eqb (other / 64) (slice_index prefix layer / 64) && b) (t.stay (other % 64) (omega arith) (omega arith))
      | inr there ↦ and_left _ _ (ne_eqb _ _ there) ∙ sym (and_left _ _ (ne_eqb _ _ there))
    ]

-- each bit that is still left comes after the one that was taken
pub taken-least : {masks masks' prefix : List ℕ} {layer number : ℕ} → IsTaken masks masks' prefix layer number → (other : ℕ) → is_left masks' prefix layer other ≡ true → number < other
taken-least {masks} {masks'} {prefix} {layer} {number} t other left =
    let w = taken-word t in
    let p = taken-place t in
    let v = left-word masks' prefix layer other left in
    elim (cases_eq other number) [
      | inl same ↦ absurd (true≢false (sym left ∙ ap (is_left masks' prefix layer) same ∙ taken-gone t))
      | inr differs ↦
          elim (cases_lt other number) [
            | inl before ↦
                let bit = left-bit masks prefix layer other (sym (taken-other t other differs) ∙ left) in
                absurd (true≢false (sym bit ∙ t.least (other % 64) (omega arith)))
            | inr after ↦ omega arith
          ]
    ]
