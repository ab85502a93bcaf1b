-- A word is read under the lowest bit of a layer: what is still to come stays, and the walk stays in order.
use Rattle.std.proofs.Common.{◌≡◌, ◌≢◌, ℕ, suc, ◌*◌, ◌/◌, ◌%◌, ◌<◌, ◌≤◌, List, Bool, true, false, ◌&&◌, ◌||◌, eqb, inl, inr, refl, sym, ap, ◌∙◌, subst, arith, slice_index}
use Rattle.std.proofs.lemmas.Bool.{cases_eq, cases_lt, eq-eqb, ne_eqb, and_left}
use Rattle.hibitset_sets.specs.Bits.{has_bit}
use Rattle.hibitset_sets.specs.Words.{is_marked, StandsOver}
use Rattle.hibitset_sets.specs.Walk.{is_left, is_pending, IsPlacedAt, IsPlaced}
use Rattle.hibitset_sets.specs.BitLemmas.{nonzero_of_has_bit}
use Rattle.hibitset_sets.proofs.StepLemmas.{IsTaken, taken-word, taken-was, taken-other, taken-least, left-empty, left-same}

-- the lowest bit above a layer was taken, and the word under it is the layer's mask
pub record IsLoaded (words : ℕ → ℕ → ℕ) (masks prefix masks' prefix' : List ℕ) (layer number : ℕ) : Type 0 where
  pub taken : IsTaken masks masks' prefix (suc layer) number
  pub word : slice_index masks' layer ≡ words layer number
  pub first : slice_index prefix' layer ≡ 64 * number
  pub empty : (k : ℕ) → k ≤ layer → slice_index masks k ≡ 0
  pub same_mask : (k : ℕ) → k ≢ layer → k ≢ suc layer → slice_index masks' k ≡ slice_index masks k
  pub same_prefix : (k : ℕ) → k ≢ layer → slice_index prefix' k ≡ slice_index prefix k

module _ {words : ℕ → ℕ → ℕ} {masks prefix masks' prefix' : List ℕ} {layer number : ℕ} (loaded : IsLoaded words masks prefix masks' prefix' layer number) where
  -- nothing changes in the layers above the bit
  left-high : (k n : ℕ) → suc layer < k → is_left masks' prefix' k n ≡ is_left masks prefix k n
  left-high k n high = left-same masks' prefix' masks prefix k n (loaded.same_mask k (omega arith) (omega arith)) (loaded.same_prefix k (omega arith))

  -- the layer of the bit lost that bit
  left-at : (n : ℕ) → is_left masks prefix (suc layer) n ≡ (eqb n number || is_left masks' prefix' (suc layer) n)
  left-at n =
      let same = left-same masks' prefix masks' prefix' (suc layer) n refl (sym (loaded.same_prefix (suc layer) (omega arith))) in
      elim (cases_eq n number) [
        | inl here ↦ ap (is_left masks prefix (suc layer)) here ∙ taken-was loaded.taken ∙ ap (λ b. b || is_left masks' prefix' (suc layer) n) (sym (eq-eqb n number here))
        | inr there ↦ sym (taken-other loaded.taken n there) ∙ same ∙ ap (λ b. b || is_left masks' prefix' (suc layer) n) (sym (ne_eqb n number there))
      ]

  -- the layer below has the bits of the word
  left-below : (n : ℕ) → is_left masks' prefix' layer n ≡ (eqb (n / 64) number && is_marked words layer n)
  unfolding is_left
  left-below n =
      let first : slice_index prefix' layer / 64 ≡ number = (let f = loaded.first in omega arith) in
      ap (λ x. eqb (n / 64) x && has_bit (slice_index masks' layer) (n % 64)) first
      ∙ elim (cases_eq (n / 64) number) [
        | inl here ↦ ap (λ w. eqb (n / 64) number && has_bit w (n % 64)) (loaded.word ∙ ap (words layer) (sym here))
        | inr there ↦ and_left _ _ (ne_eqb _ _ there) ∙ sym (and_left _ _ (ne_eqb _ _ there))
      ]

  -- in the layers below nothing was left, and nothing is
  left-low : (k n : ℕ) → k ≤ layer → is_left masks prefix k n ≡ false
  left-low k n low = left-empty masks prefix k n (loaded.empty k low)

  left-lower : (k n : ℕ) → k < layer → is_left masks' prefix' k n ≡ false
  left-lower k n low = left-empty masks' prefix' k n (loaded.same_mask k (omega arith) (omega arith) ∙ loaded.empty k (omega arith))

  pub loaded-placed : layer < 3 → IsPlaced masks prefix → IsPlaced masks' prefix'
  loaded-placed low placed k above k_above above_low some =
      elim (cases_lt above layer) [
        | inl before ↦ absurd (some (loaded.same_mask k (omega arith) (omega arith) ∙ loaded.empty k (omega arith)))
        | inr from ↦
            elim (cases_eq above layer) [
              | inl here ↦
                  let f = loaded.first in
                  let w = taken-word loaded.taken in
                  let p = loaded.same_prefix (suc layer) (omega arith) in
                  subst (IsPlacedAt masks' prefix') (sym here) (record {
                    aligned = omega arith;
                    agrees = omega arith;
                    later = λ n left.
                        let after = taken-least loaded.taken n (left-same masks' prefix masks' prefix' (suc layer) n refl (sym p) ∙ left) in
                        omega arith;
                  })
              | inr there ↦
                  let nonzero : slice_index masks (suc layer) ≢ 0 =
                  (λ z. let bit = nonzero_of_has_bit _ _ loaded.taken.was in omega arith) in
                  let old = placed (suc layer) above (omega arith) above_low nonzero in
                  let a = old.aligned in
                  let g = old.agrees in
                  let p = loaded.same_prefix above (omega arith) in
                  let q = loaded.same_prefix (suc above) (omega arith) in
                  record {
                    aligned = omega arith;
                    agrees = ap (λ x. x / 4096) p ∙ g ∙ ap (λ x. x / 64) (sym q);
                    later = λ n left. let l = old.later n (sym (left-high (suc above) n (omega arith)) ∙ left) in omega arith;
                  }
            ]
      ]

-- ---- the choices between bits, by their values
step0 : (e m a b c : Bool) → ((e && m) || (m && (a || (b || c)))) ≡ (false || (m && ((e || a) || (b || c))))
step0 true true a b c = refl
step0 true false a b c = refl
step0 false true a b c = refl
step0 false false a b c = refl

step1 : (e m k b c : Bool) → (m ≡ true → k ≡ true) → (false || (m && ((e && k) || (b || c)))) ≡ (false || (m && (false || ((e || b) || c))))
step1 e false k b c h = refl
step1 true true k b c h = rw (h refl) refl
step1 false true k b c h = refl

step2 : (e m k c : Bool) → (m ≡ true → k ≡ true) → (false || (m && (false || ((e && k) || c)))) ≡ (false || (m && (false || (false || (e || c)))))
step2 e false k c h = refl
step2 true true k c h = rw (h refl) refl
step2 false true k c h = refl

parts : {a a' b b' c c' d d' : Bool} (m : Bool) → a ≡ a' → b ≡ b' → c ≡ c' → d ≡ d' → (a || (m && (b || (c || d)))) ≡ (a' || (m && (b' || (c' || d'))))
parts m p q r s = λ i. p i || (m && (q i || (r i || s i)))

-- the same bit, so that its value need not be found
same : (b : Bool) → b ≡ b
same b = refl

module _ (members : ℕ → Bool) (words : ℕ → ℕ → ℕ) (over : StandsOver words) (agree : (i : ℕ) → i < 16777216 → is_marked words 0 i ≡ members i) where
  marked0 : (i : ℕ) → i < 16777216 → members i ≡ true → is_marked words 0 i ≡ true
  marked0 i within member = agree i within ∙ member

  marked1 : (i : ℕ) → i < 16777216 → members i ≡ true → is_marked words 1 (i / 64) ≡ true
  marked1 i within member = over 0 i (marked0 i within member)

  marked2 : (i : ℕ) → i < 16777216 → members i ≡ true → is_marked words 2 (i / 4096) ≡ true
  marked2 i within member =
      subst (λ n. is_marked words 2 n ≡ true) (let e : i / 64 / 64 ≡ i / 4096 = omega arith in e) (over 1 (i / 64) (marked1 i within member))

  loaded0 : {masks prefix masks' prefix' : List ℕ} {number : ℕ} → IsLoaded words masks prefix masks' prefix' 0 number → (i : ℕ) → i < 16777216 → is_pending members masks' prefix' i ≡ is_pending members masks prefix i
  unfolding is_pending
  loaded0 {masks} {prefix} {masks'} {prefix'} {number} loaded i within =
      parts (members i) (left-below loaded i ∙ ap (λ b. eqb (i / 64) number && b) (agree i within)) (same (is_left masks' prefix' 1 (i / 64))) (left-high loaded 2 (i / 4096) (omega arith)) (left-high loaded 3 (i / 262144) (omega arith))
      ∙ step0 (eqb (i / 64) number) (members i) (is_left masks' prefix' 1 (i / 64)) (is_left masks prefix 2 (i / 4096)) (is_left masks prefix 3 (i / 262144))
      ∙ sym (parts (members i) (left-low loaded 0 i (omega arith)) (left-at loaded (i / 64)) (same (is_left masks prefix 2 (i / 4096))) (same (is_left masks prefix 3 (i / 262144))))

  loaded1 : {masks prefix masks' prefix' : List ℕ} {number : ℕ} → IsLoaded words masks prefix masks' prefix' 1 number → (i : ℕ) → i < 16777216 → is_pending members masks' prefix' i ≡ is_pending members masks prefix i
  unfolding is_pending
  loaded1 {masks} {prefix} {masks'} {prefix'} {number} loaded i within =
      parts (members i) (left-lower loaded 0 i (omega arith)) (left-below loaded (i / 64) ∙ ap (λ n. eqb n number && is_marked words 1 (i / 64)) (let e : i / 64 / 64 ≡ i / 4096 = omega arith in e)) (same (is_left masks' prefix' 2 (i / 4096))) (left-high loaded 3 (i / 262144) (omega arith))
      ∙ step1 (eqb (i / 4096) number) (members i) (is_marked words 1 (i / 64)) (is_left masks' prefix' 2 (i / 4096)) (is_left masks prefix 3 (i / 262144)) (marked1 i within)
      ∙ sym (parts (members i) (left-low loaded 0 i (omega arith)) (left-low loaded 1 (i / 64) (omega arith)) (left-at loaded (i / 4096)) (same (is_left masks prefix 3 (i / 262144))))

  loaded2 : {masks prefix masks' prefix' : List ℕ} {number : ℕ} → IsLoaded words masks prefix masks' prefix' 2 number → (i : ℕ) → i < 16777216 → is_pending members masks' prefix' i ≡ is_pending members masks prefix i
  unfolding is_pending
  loaded2 {masks} {prefix} {masks'} {prefix'} {number} loaded i within =
      parts (members i) (left-lower loaded 0 i (omega arith)) (left-lower loaded 1 (i / 64) (omega arith)) (left-below loaded (i / 4096) ∙ ap (λ n. eqb n number && is_marked words 2 (i / 4096)) (let e : i / 4096 / 64 ≡ i / 262144 = omega arith in e)) (same (is_left masks' prefix' 3 (i / 262144)))
      ∙ step2 (eqb (i / 262144) number) (members i) (is_marked words 2 (i / 4096)) (is_left masks' prefix' 3 (i / 262144)) (marked2 i within)
      ∙ sym (parts (members i) (left-low loaded 0 i (omega arith)) (left-low loaded 1 (i / 64) (omega arith)) (left-low loaded 2 (i / 4096) (omega arith)) (left-at loaded (i / 262144)))

  -- what is still to come stays the same
  pub loaded-pending : {masks prefix masks' prefix' : List ℕ} (layer : ℕ) {number : ℕ} → layer < 3 → IsLoaded words masks prefix masks' prefix' layer number → (i : ℕ) → i < 16777216 → is_pending members masks' prefix' i ≡ is_pending members masks prefix i
  loaded-pending {masks} {prefix} {masks'} {prefix'} layer {number} low loaded i within =
      let At : ℕ → Type 0 = λ l. IsLoaded words masks prefix masks' prefix' l number in
      elim (cases_eq layer 0) [
        | inl zeroth ↦ loaded0 (subst At zeroth loaded) i within
        | inr not0 ↦
            elim (cases_eq layer 1) [
              | inl oneth ↦ loaded1 (subst At oneth loaded) i within
              | inr not1 ↦ loaded2 (subst At (let e : layer ≡ 2 = omega arith in e) loaded) i within
            ]
      ]
