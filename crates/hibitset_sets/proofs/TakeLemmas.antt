-- The lowest bit of layer 0 is taken: it is the least index still to come.
use Rattle.std.proofs.Common.{◌≡◌, ◌≢◌, ℕ, zero, suc, ◌/◌, ◌%◌, ◌<◌, List, [], ◌∷◌, Bool, true, false, not, ◌&&◌, ◌||◌, eqb, ◌⊎◌, inl, inr, refl, sym, ap, ◌∙◌, subst, arith, slice_index}
use Rattle.std.proofs.lemmas.Bool.{cases_eq, true≢false, eq-eqb, ne_eqb, and_parts, or_cases, or_parts, or_left, false_from_ne_true}
use Rattle.hibitset_sets.specs.Bits.{has_bit}
use Rattle.hibitset_sets.specs.Walk.{walk, is_left, is_pending, IsPlaced}
use Rattle.hibitset_sets.specs.Words.{is_marked, StandsOver}
use Rattle.hibitset_sets.specs.BitLemmas.{nonzero_of_has_bit}
use Rattle.hibitset_sets.proofs.StepLemmas.{IsTaken, taken-word, taken-place, taken-was, taken-gone, taken-other, left-word, left-bit, left-from, left-empty, left-same}
use Rattle.hibitset_sets.proofs.WalkLemmas.{walk-first, walk-none, walk-same}

-- what is pending is left in layer 0, or left in a layer above
pub cases_pending : (members : ℕ → Bool) (masks prefix : List ℕ) (i : ℕ) → is_pending members masks prefix i ≡ true → (is_left masks prefix 0 i ≡ true) ⊎ ((is_left masks prefix 1 (i / 64) ≡ true) ⊎ ((is_left masks prefix 2 (i / 4096) ≡ true) ⊎ (is_left masks prefix 3 (i / 262144) ≡ true)))
unfolding is_pending
cases_pending members masks prefix i h =
    elim (or_cases _ _ h) [
      | inl zeroth ↦ inl zeroth
      | inr higher ↦
          elim (or_cases _ _ (and_parts _ _ higher).1) [
            | inl oneth ↦ inr (inl oneth)
            | inr above ↦ elim (or_cases _ _ above) [ inl second ↦ inr (inr (inl second)) | inr third ↦ inr (inr (inr third)) ]
          ]
    ]

module _ {masks prefix : List ℕ} (placed : IsPlaced masks prefix) (some : slice_index masks 0 ≢ 0) where
  -- an index that is left above comes after the whole word of layer 0
  above_after : (members : ℕ → Bool) (i : ℕ) → (is_left masks prefix 1 (i / 64) ≡ true) ⊎ ((is_left masks prefix 2 (i / 4096) ≡ true) ⊎ (is_left masks prefix 3 (i / 262144) ≡ true)) → slice_index prefix 0 / 64 < i / 64
  above_after members i (inl oneth) = (placed 0 0 (omega arith) (omega arith) some).later (i / 64) oneth
  above_after members i (inr (inl second)) =
      let p = placed 0 0 (omega arith) (omega arith) some in
      let q = placed 0 1 (omega arith) (omega arith) some in
      let g = p.agrees in
      let l = q.later (i / 4096) second in
      omega arith
  above_after members i (inr (inr third)) =
      let p = placed 0 0 (omega arith) (omega arith) some in
      let q = placed 0 1 (omega arith) (omega arith) some in
      let r = placed 0 2 (omega arith) (omega arith) some in
      let g = p.agrees in
      let h = q.agrees in
      let l = r.later (i / 262144) third in
      omega arith

-- the bit was taken from layer 0, and the layers above stay
module _ {masks prefix masks' : List ℕ} {number : ℕ} (placed : IsPlaced masks prefix) (taken : IsTaken masks masks' prefix 0 number) (others : (k : ℕ) → k ≢ 0 → slice_index masks' k ≡ slice_index masks k) where
  some : slice_index masks 0 ≢ 0
  some = λ z. let bit = nonzero_of_has_bit _ _ taken.was in omega arith

  pub pending-was : (members : ℕ → Bool) → is_pending members masks prefix number ≡ true
  unfolding is_pending
  pending-was members = or_left _ _ (taken-was taken)

  pub pending-before : (members : ℕ → Bool) (i : ℕ) → i < number → is_pending members masks prefix i ≡ false
  pending-before members i before =
      false_from_ne_true _ (λ pending.
      let w = taken-word taken in
      let p = taken-place taken in
      elim (cases_pending members masks prefix i pending) [
        | inl zeroth ↦
            let v = left-word masks prefix 0 i zeroth in
            true≢false (sym (left-bit masks prefix 0 i zeroth) ∙ taken.least (i % 64) (omega arith))
        | inr higher ↦ let a = above_after placed some members i higher in absurd (omega arith)
      ])

  pub pending-gone : (members : ℕ → Bool) → is_pending members masks' prefix number ≡ false
  pending-gone members =
      false_from_ne_true _ (λ pending.
      let w = taken-word taken in
      elim (cases_pending members masks' prefix number pending) [
        | inl zeroth ↦ true≢false (sym zeroth ∙ taken-gone taken)
        | inr higher ↦
            let same = λ (k : ℕ) (n : ℕ) (h : k ≢ 0). left-same masks prefix masks' prefix k n (sym (others k h)) refl in
            let old : (is_left masks prefix 1 (number / 64) ≡ true) ⊎ ((is_left masks prefix 2 (number / 4096) ≡ true) ⊎ (is_left masks prefix 3 (number / 262144) ≡ true)) =
            elim higher [
              | inl oneth ↦ inl (same 1 (number / 64) (omega arith) ∙ oneth)
              | inr above ↦ elim above [ inl second ↦ inr (inl (same 2 (number / 4096) (omega arith) ∙ second)) | inr third ↦ inr (inr (same 3 (number / 262144) (omega arith) ∙ third)) ]
            ] in
            let a = above_after placed some members number old in
            absurd (omega arith)
      ])

  pub pending-others : (members : ℕ → Bool) (i : ℕ) → i ≢ number → is_pending members masks prefix i ≡ is_pending members masks' prefix i
  unfolding is_pending
  pending-others members i other =
      let same = λ (k : ℕ) (n : ℕ) (h : k ≢ 0). left-same masks prefix masks' prefix k n (sym (others k h)) refl in
      (λ j. (sym (taken-other taken i other)) j || (members i && ((same 1 (i / 64) (omega arith)) j || ((same 2 (i / 4096) (omega arith)) j || (same 3 (i / 262144) (omega arith)) j))))

  -- the least index still to come is that of the bit
  pub taken-walk : (members : ℕ → Bool) → number < 16777216 → walk (is_pending members masks prefix) ≡ number ∷ walk (is_pending members masks' prefix)
  taken-walk members within = walk-first _ _ number within (pending-was members) (pending-before members) (pending-gone members) (λ i _ other. pending-others members i other)

  pub taken-placed : IsPlaced masks' prefix
  taken-placed k above k_above low nonempty =
      let was : slice_index masks k ≢ 0 = (elim (cases_eq k 0) [ inl zeroth ↦ (λ z. some (sym (ap (slice_index masks) zeroth) ∙ z)) | inr not0 ↦ (λ z. nonempty (others k not0 ∙ z)) ]) in
      let old = placed k above k_above low was in
      record {
        aligned = old.aligned;
        agrees = old.agrees;
        later = λ n left. old.later n (left-same masks prefix masks' prefix (suc above) n (sym (others (suc above) (omega arith))) refl ∙ left);
      }

-- where all masks are empty nothing is to come
pub pending-empty : (members : ℕ → Bool) (masks prefix : List ℕ) → ((k : ℕ) → k < 4 → slice_index masks k ≡ 0) → (i : ℕ) → is_pending members masks prefix i ≡ false
pending-empty members masks prefix empty i =
    false_from_ne_true _ (λ pending. elim (cases_pending members masks prefix i pending) [
      | inl zeroth ↦ true≢false (sym zeroth ∙ left-empty masks prefix 0 i (empty 0 (omega arith)))
      | inr (inl oneth) ↦ true≢false (sym oneth ∙ left-empty masks prefix 1 (i / 64) (empty 1 (omega arith)))
      | inr (inr (inl second)) ↦ true≢false (sym second ∙ left-empty masks prefix 2 (i / 4096) (empty 2 (omega arith)))
      | inr (inr (inr third)) ↦ true≢false (sym third ∙ left-empty masks prefix 3 (i / 262144) (empty 3 (omega arith)))
    ])

pub walk-empty : (members : ℕ → Bool) (masks prefix : List ℕ) → ((k : ℕ) → k < 4 → slice_index masks k ≡ 0) → walk (is_pending members masks prefix) ≡ []
walk-empty members masks prefix empty = walk-none _ (λ i _. pending-empty members masks prefix empty i)

-- a walk that begins has all members to come
module _ (members : ℕ → Bool) (words : ℕ → ℕ → ℕ) (over : StandsOver words) (agree : (i : ℕ) → i < 16777216 → is_marked words 0 i ≡ members i) where
  under_top : (i : ℕ) → i < 16777216 → members i ≡ true → is_marked words 3 (i / 262144) ≡ true
  under_top i within member =
      let one = over 0 i (agree i within ∙ member) in
      let two = over 1 (i / 64) one in
      let three = over 2 (i / 64 / 64) two in
      subst (λ n. is_marked words 3 n ≡ true) (let e : i / 64 / 64 / 64 ≡ i / 262144 = omega arith in e) three

  left_top : (word i : ℕ) → word ≡ words 3 0 → i < 16777216 → members i ≡ true → is_left (0 ∷ 0 ∷ 0 ∷ word ∷ []) (0 ∷ 0 ∷ 0 ∷ []) 3 (i / 262144) ≡ true
  left_top word i is within member =
      let top : i / 262144 / 64 ≡ 0 = omega arith in
      left-from _ _ 3 (i / 262144) top (ap (λ w. has_bit w (i / 262144 % 64)) (is ∙ ap (words 3) (sym top)) ∙ under_top i within member)

  choose : (m a b c d : Bool) → a ≡ false → b ≡ false → c ≡ false → (m ≡ true → d ≡ true) → (a || (m && (b || (c || d)))) ≡ m
  choose true a b c d p q r h = rw (p, q, r, h refl) refl
  choose false a b c d p q r h = rw p refl

  pub pending-whole : (word i : ℕ) → word ≡ words 3 0 → i < 16777216 → is_pending members (0 ∷ 0 ∷ 0 ∷ word ∷ []) (0 ∷ 0 ∷ 0 ∷ []) i ≡ members i
  unfolding is_pending
  pending-whole word i is within =
      choose (members i) _ _ _ _
      (left-empty (0 ∷ 0 ∷ 0 ∷ word ∷ []) (0 ∷ 0 ∷ 0 ∷ []) 0 i refl)
      (left-empty (0 ∷ 0 ∷ 0 ∷ word ∷ []) (0 ∷ 0 ∷ 0 ∷ []) 1 (i / 64) refl)
      (left-empty (0 ∷ 0 ∷ 0 ∷ word ∷ []) (0 ∷ 0 ∷ 0 ∷ []) 2 (i / 4096) refl)
      (left_top word i is within)

  pub walk-whole : (word : ℕ) → word ≡ words 3 0 → walk (is_pending members (0 ∷ 0 ∷ 0 ∷ word ∷ []) (0 ∷ 0 ∷ 0 ∷ [])) ≡ walk members
  walk-whole word is = walk-same _ _ (λ i within. pending-whole word i is within)

without-other : (a b m' m k : Bool) → m' ≡ (not b && m) → b ≡ false → (a || (m' && k)) ≡ (a || (m && k))
without-other a true m' m k is other = absurd (true≢false other)
without-other a false m' m k is other = ap (λ x. a || (x && k)) is

without-gone : (a m' k : Bool) → m' ≡ false → (a || (m' && k)) ≡ (a || false)
without-gone a m' k is = ap (λ x. a || (x && k)) is

gone_at : (members : ℕ → Bool) (masks prefix : List ℕ) (j i : ℕ) → j ≡ i → is_pending members masks prefix i ≡ false → is_pending members masks prefix j ≡ false
gone_at members masks prefix j i here gone = ap (is_pending members masks prefix) here ∙ gone

-- to take an index out of the set that isn't to come any more changes nothing of what is to come
pub pending-without : (members members' : ℕ → Bool) (masks prefix : List ℕ) (i : ℕ) → is_pending members masks prefix i ≡ false → ((j : ℕ) → members' j ≡ (not (eqb j i) && members j)) → (j : ℕ) → is_pending members' masks prefix j ≡ is_pending members masks prefix j
unfolding is_pending
pending-without members members' masks prefix i gone without j =
    elim (cases_eq j i) [
      | inl here ↦
          let none = or_parts _ _ gone in
          let out : members' j ≡ false = without j ∙ ap (λ b. not b && members j) (eq-eqb j i here) in
          without-gone (is_left masks prefix 0 j) (members' j) (is_left masks prefix 1 (j / 64) || (is_left masks prefix 2 (j / 4096) || is_left masks prefix 3 (j / 262144))) out
          ∙ ap (λ b. b || false) (ap (is_left masks prefix 0) here ∙ none.0)
          ∙ sym (gone_at members masks prefix j i here gone)
      | inr there ↦ without-other (is_left masks prefix 0 j) (eqb j i) (members' j) (members j) (is_left masks prefix 1 (j / 64) || (is_left masks prefix 2 (j / 4096) || is_left masks prefix 3 (j / 262144))) (without j) (ne_eqb j i there)
    ]

pub walk-without : (members members' : ℕ → Bool) (masks prefix : List ℕ) (i : ℕ) → is_pending members masks prefix i ≡ false → ((j : ℕ) → members' j ≡ (not (eqb j i) && members j)) → walk (is_pending members' masks prefix) ≡ walk (is_pending members masks prefix)
walk-without members members' masks prefix i gone without = walk-same _ _ (λ j _. pending-without members members' masks prefix i gone without j)

-- a walk that begins in the first words goes in order where no mask above has its first bit
pub placed-start : (masks : List ℕ) → ((layer : ℕ) → has_bit (slice_index masks (suc layer)) 0 ≡ false) → IsPlaced masks (0 ∷ 0 ∷ 0 ∷ [])
placed-start masks clear layer above low high some =
    record { aligned = start-aligned above high; agrees = start-agrees above high; later = λ number left. start-later masks clear above high number left }
  where
    start-aligned : (above : ℕ) → above < 3 → slice_index (0 ∷ 0 ∷ 0 ∷ []) above % 64 ≡ 0
    start-aligned zero high = refl
    start-aligned (suc zero) high = refl
    start-aligned (suc (suc zero)) high = refl
    start-aligned (suc (suc (suc above))) high = absurd (omega arith)

    start-agrees : (above : ℕ) → above < 3 → slice_index (0 ∷ 0 ∷ 0 ∷ []) above / 4096 ≡ slice_index (0 ∷ 0 ∷ 0 ∷ []) (suc above) / 64
    start-agrees zero high = refl
    start-agrees (suc zero) high = refl
    start-agrees (suc (suc zero)) high = refl
    start-agrees (suc (suc (suc above))) high = absurd (omega arith)

    not-first : (masks : List ℕ) → ((layer : ℕ) → has_bit (slice_index masks (suc layer)) 0 ≡ false) → (above number : ℕ) → is_left masks (0 ∷ 0 ∷ 0 ∷ []) (suc above) number ≡ true → number ≢ 0
    not-first masks clear above number left zeroth =
        true≢false (sym (left-bit masks (0 ∷ 0 ∷ 0 ∷ []) (suc above) number left) ∙ ap (λ n. has_bit (slice_index masks (suc above)) (n % 64)) zeroth ∙ clear above)

    start-later : (masks : List ℕ) → ((layer : ℕ) → has_bit (slice_index masks (suc layer)) 0 ≡ false) → (above : ℕ) → above < 3 → (number : ℕ) → is_left masks (0 ∷ 0 ∷ 0 ∷ []) (suc above) number ≡ true → slice_index (0 ∷ 0 ∷ 0 ∷ []) above / 64 < number
    start-later masks clear zero high number left = let n = not-first masks clear 0 number left in omega arith
    start-later masks clear (suc zero) high number left = let n = not-first masks clear 1 number left in omega arith
    start-later masks clear (suc (suc zero)) high number left = let n = not-first masks clear 2 number left in omega arith
    start-later masks clear (suc (suc (suc above))) high number left = absurd (omega arith)
