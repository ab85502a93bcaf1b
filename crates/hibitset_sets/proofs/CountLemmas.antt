-- How many words a walk still reads, and what one read takes off.
use Rattle.std.proofs.Common.{◌≡◌, ◌≢◌, ℕ, zero, suc, ◌+◌, ◌-◌, ◌*◌, ◌<◌, ◌≤◌, List, [], ◌∷◌, true, false, cond, inl, inr, refl, sym, ap, ◌∙◌, subst, arith, slice_index}
use Rattle.std.proofs.lemmas.Bool.{cases_eq}
use Rattle.hibitset_sets.specs.Bits.{has_bit}
use Rattle.hibitset_sets.specs.Walk.{sum_over, words_under, words_left_in, words_left, words_walked}
use Rattle.hibitset_sets.specs.BitLemmas.{has_bit-zero}
use Rattle.hibitset_sets.proofs.LoadLemmas.{IsLoaded}

pub sum_over-zero : (n : ℕ) (f : ℕ → ℕ) → sum_over n 0 f ≡ 0
unfolding sum_over
sum_over-zero zero f = refl
sum_over-zero (suc n) f = ap (λ b. cond b (f n) 0 + sum_over n 0 f) (has_bit-zero n) ∙ (let h = sum_over-zero n f in omega arith)

-- words with the same bits below n have one sum
pub sum_over-same : (n word word' : ℕ) (f g : ℕ → ℕ) → ((i : ℕ) → i < n → has_bit word i ≡ has_bit word' i) → ((i : ℕ) → i < n → f i ≡ g i) → sum_over n word f ≡ sum_over n word' g
unfolding sum_over
sum_over-same zero word word' f g bits values = refl
sum_over-same (suc n) word word' f g bits values =
    let rest = sum_over-same n word word' f g (λ i h. bits i (omega arith)) (λ i h. values i (omega arith)) in
    (λ j. cond (bits n (omega arith) j) (values n (omega arith) j) 0 + rest j)

-- without one of its bits a word's sum lacks that bit's value
pub sum_over-without : (n word word' k : ℕ) (f : ℕ → ℕ) → k < n → has_bit word k ≡ true → has_bit word' k ≡ false → ((i : ℕ) → i < n → i ≢ k → has_bit word' i ≡ has_bit word i) → sum_over n word f ≡ f k + sum_over n word' f
unfolding sum_over
sum_over-without zero word word' k f low was gone stay = absurd (omega arith)
sum_over-without (suc n) word word' k f low was gone stay =
    elim (cases_eq n k) [
      | inl here ↦
          let at : has_bit word n ≡ true = ap (has_bit word) here ∙ was in
          let at' : has_bit word' n ≡ false = ap (has_bit word') here ∙ gone in
          let rest = sum_over-same n word word' f f (λ i h. sym (stay i (omega arith) (omega arith))) (λ i h. refl) in
          let left = ap (λ b. cond b (f n) 0 + sum_over n word f) at in
          let right = ap (λ b. cond b (f n) 0 + sum_over n word' f) at' in
          let value = ap f here in
          omega arith
      | inr there ↦
          let rest = sum_over-without n word word' k f (omega arith) was gone (λ i h o. stay i (omega arith) o) in
          let same = ap (λ b. cond b (f n) 0 + sum_over n word' f) (stay n (omega arith) there) in
          let split = ap (λ s. cond (has_bit word n) (f n) 0 + s) rest in
          omega arith
    ]

sum_over-none : (n word : ℕ) (f : ℕ → ℕ) → ((i : ℕ) → f i ≡ 0) → sum_over n word f ≡ 0
unfolding sum_over
sum_over-none zero word f none = refl
sum_over-none (suc n) word f none =
    let rest = sum_over-none n word f none in
    elim (has_bit word n) as (λ b. cond b (f n) 0 + sum_over n word f ≡ 0) [ true ↦ let e = none n in omega arith | false ↦ omega arith ]

module _ (reads : ℕ → ℕ) (words : ℕ → ℕ → ℕ) where
  under-suc : (layer number : ℕ) → words_under reads words (suc layer) number ≡ reads layer + sum_over 64 (words layer number) (λ i. words_under reads words layer (64 * number + i))
  unfolding words_under
  under-suc layer number = refl

  under-zero : (number : ℕ) → words_under reads words zero number ≡ 0
  unfolding words_under
  under-zero number = refl

  left_in-empty : (masks prefix : List ℕ) (layer : ℕ) → slice_index masks layer ≡ 0 → words_left_in reads words masks prefix layer ≡ 0
  unfolding words_left_in
  left_in-empty masks prefix layer empty = ap (λ w. sum_over 64 w (λ i. words_under reads words layer (slice_index prefix layer + i))) empty ∙ sum_over-zero 64 _

  left_in-zero : (masks prefix : List ℕ) → words_left_in reads words masks prefix 0 ≡ 0
  unfolding words_left_in
  left_in-zero masks prefix = sum_over-none 64 _ _ (λ i. under-zero _)

  left_in-same : (masks prefix masks' prefix' : List ℕ) (layer : ℕ) → slice_index masks' layer ≡ slice_index masks layer → slice_index prefix' layer ≡ slice_index prefix layer → words_left_in reads words masks' prefix' layer ≡ words_left_in reads words masks prefix layer
  unfolding words_left_in
  left_in-same masks prefix masks' prefix' layer m p = (λ j. sum_over 64 (m j) (λ i. words_under reads words layer (p j + i)))

  module _ {masks prefix masks' prefix' : List ℕ} {layer number : ℕ} (loaded : IsLoaded words masks prefix masks' prefix' layer number) where
    left_in-at : words_left_in reads words masks prefix (suc layer) ≡ words_under reads words (suc layer) number + words_left_in reads words masks' prefix' (suc layer)
    unfolding words_left_in
    left_in-at =
        let t = loaded.taken in
        let from = t.from in
        let upto = t.upto in
        let at : slice_index prefix (suc layer) + (number - slice_index prefix (suc layer)) ≡ number = omega arith in
        sum_over-without 64 _ (slice_index masks' (suc layer)) (number - slice_index prefix (suc layer)) (λ i. words_under reads words (suc layer) (slice_index prefix (suc layer) + i)) (omega arith) t.was t.gone t.stay
        ∙ (λ j. words_under reads words (suc layer) (at j) + sum_over 64 (slice_index masks' (suc layer)) (λ i. words_under reads words (suc layer) (sym (loaded.same_prefix (suc layer) (omega arith)) j + i)))

    left_in-below : words_left_in reads words masks' prefix' layer ≡ sum_over 64 (words layer number) (λ i. words_under reads words layer (64 * number + i))
    unfolding words_left_in
    left_in-below = (λ j. sum_over 64 (loaded.word j) (λ i. words_under reads words layer (loaded.first j + i)))

    left_in-high : (k : ℕ) → suc layer < k → words_left_in reads words masks' prefix' k ≡ words_left_in reads words masks prefix k
    left_in-high k high = left_in-same masks prefix masks' prefix' k (loaded.same_mask k (omega arith) (omega arith)) (loaded.same_prefix k (omega arith))

    left_in-low : (k : ℕ) → k ≤ layer → words_left_in reads words masks prefix k ≡ 0
    left_in-low k low = left_in-empty masks prefix k (loaded.empty k low)

    left_in-lower : (k : ℕ) → k < layer → words_left_in reads words masks' prefix' k ≡ 0
    left_in-lower k low = left_in-empty masks' prefix' k (loaded.same_mask k (omega arith) (omega arith) ∙ loaded.empty k (omega arith))

  count0 : {masks prefix masks' prefix' : List ℕ} {number : ℕ} → IsLoaded words masks prefix masks' prefix' 0 number → words_left reads words masks prefix ≡ reads 0 + words_left reads words masks' prefix'
  unfolding words_left
  count0 {masks} {prefix} {masks'} {prefix'} {number} loaded =
      let at = left_in-at loaded in
      let under = under-suc 0 number in
      let below = left_in-below loaded in
      let none = left_in-zero masks' prefix' in
      let two = left_in-high loaded 2 (omega arith) in
      let three = left_in-high loaded 3 (omega arith) in
      omega arith

  count1 : {masks prefix masks' prefix' : List ℕ} {number : ℕ} → IsLoaded words masks prefix masks' prefix' 1 number → words_left reads words masks prefix ≡ reads 1 + words_left reads words masks' prefix'
  unfolding words_left
  count1 {masks} {prefix} {masks'} {prefix'} {number} loaded =
      let at = left_in-at loaded in
      let under = under-suc 1 number in
      let below = left_in-below loaded in
      let one = left_in-low loaded 1 (omega arith) in
      let three = left_in-high loaded 3 (omega arith) in
      omega arith

  count2 : {masks prefix masks' prefix' : List ℕ} {number : ℕ} → IsLoaded words masks prefix masks' prefix' 2 number → words_left reads words masks prefix ≡ reads 2 + words_left reads words masks' prefix'
  unfolding words_left
  count2 {masks} {prefix} {masks'} {prefix'} {number} loaded =
      let at = left_in-at loaded in
      let under = under-suc 2 number in
      let below = left_in-below loaded in
      let one = left_in-low loaded 1 (omega arith) in
      let two = left_in-low loaded 2 (omega arith) in
      let gone = left_in-lower loaded 1 (omega arith) in
      omega arith

  -- one word was read
  pub loaded-words : {masks prefix masks' prefix' : List ℕ} (layer : ℕ) {number : ℕ} → layer < 3 → IsLoaded words masks prefix masks' prefix' layer number → words_left reads words masks prefix ≡ reads layer + words_left reads words masks' prefix'
  loaded-words {masks} {prefix} {masks'} {prefix'} layer {number} low loaded =
      let At : ℕ → Type 0 = λ l. IsLoaded words masks prefix masks' prefix' l number in
      let Goal : ℕ → Type 0 = λ l. words_left reads words masks prefix ≡ reads l + words_left reads words masks' prefix' in
      elim (cases_eq layer 0) [
        | inl zeroth ↦ subst Goal (sym zeroth) (count0 (subst At zeroth loaded))
        | inr not0 ↦
            elim (cases_eq layer 1) [
              | inl oneth ↦ subst Goal (sym oneth) (count1 (subst At oneth loaded))
              | inr not1 ↦ let second : layer ≡ 2 = omega arith in subst Goal (sym second) (count2 (subst At second loaded))
            ]
      ]

  -- the words left hang on the masks and prefixes above layer 0
  pub words_left-same : (masks prefix masks' prefix' : List ℕ) → ((k : ℕ) → k ≢ 0 → slice_index masks' k ≡ slice_index masks k) → ((k : ℕ) → slice_index prefix' k ≡ slice_index prefix k) → words_left reads words masks' prefix' ≡ words_left reads words masks prefix
  unfolding words_left
  words_left-same masks prefix masks' prefix' m p =
      let one = left_in-same masks prefix masks' prefix' 1 (m 1 (omega arith)) (p 1) in
      let two = left_in-same masks prefix masks' prefix' 2 (m 2 (omega arith)) (p 2) in
      let three = left_in-same masks prefix masks' prefix' 3 (m 3 (omega arith)) (p 3) in
      omega arith

  left_in-whole : (word : ℕ) → word ≡ words 3 0 → words_left_in reads words (0 ∷ 0 ∷ 0 ∷ word ∷ []) (0 ∷ 0 ∷ 0 ∷ []) 3 ≡ sum_over 64 (words 3 0) (λ i. words_under reads words 3 (64 * 0 + i))
  unfolding words_left_in
  left_in-whole word is = (λ j. sum_over 64 (is j) (λ i. words_under reads words 3 (0 + i)))

  -- where all masks are empty no word is left
  pub words_left-empty : (masks prefix : List ℕ) → ((k : ℕ) → k < 4 → slice_index masks k ≡ 0) → words_left reads words masks prefix ≡ 0
  unfolding words_left
  words_left-empty masks prefix empty =
      let one = left_in-empty masks prefix 1 (empty 1 (omega arith)) in
      let two = left_in-empty masks prefix 2 (empty 2 (omega arith)) in
      let three = left_in-empty masks prefix 3 (empty 3 (omega arith)) in
      omega arith

  -- a walk that begins has read the word of layer 3
  pub words_left-whole : (word : ℕ) → word ≡ words 3 0 → reads 3 + words_left reads words (0 ∷ 0 ∷ 0 ∷ word ∷ []) (0 ∷ 0 ∷ 0 ∷ []) ≡ words_walked reads words
  unfolding words_left
  words_left-whole word is =
      let one = left_in-empty (0 ∷ 0 ∷ 0 ∷ word ∷ []) (0 ∷ 0 ∷ 0 ∷ []) 1 refl in
      let two = left_in-empty (0 ∷ 0 ∷ 0 ∷ word ∷ []) (0 ∷ 0 ∷ 0 ∷ []) 2 refl in
      let three = left_in-whole word is in
      let under = under-suc 3 0 in
      omega arith

-- ---- how many bits are set

pub ones-le : (n word : ℕ) → sum_over n word (λ _. 1) ≤ n
unfolding sum_over
ones-le zero word = omega arith
ones-le (suc n) word = let rest = ones-le n word in elim (has_bit word n) as (λ b. cond b 1 0 + sum_over n word (λ _. 1) ≤ suc n) [ true ↦ omega arith | false ↦ omega arith ]

ones-suc : (n word : ℕ) → sum_over (suc n) word (λ _. 1) ≡ cond (has_bit word n) 1 0 + sum_over n word (λ _. 1)
unfolding sum_over
ones-suc n word = refl

pub ones-set : (n word : ℕ) → has_bit word n ≡ true → sum_over (n + 1) word (λ _. 1) ≡ sum_over n word (λ _. 1) + 1
ones-set n word set = ap (λ k. sum_over k word (λ _. 1)) (let e : n + 1 ≡ suc n = omega arith in e) ∙ ones-suc n word ∙ ap (λ b. cond b 1 0 + sum_over n word (λ _. 1)) set ∙ (let e : 1 + sum_over n word (λ _. 1) ≡ sum_over n word (λ _. 1) + 1 = omega arith in e)

pub ones-clear : (n word : ℕ) → has_bit word n ≡ false → sum_over (n + 1) word (λ _. 1) ≡ sum_over n word (λ _. 1)
ones-clear n word clear = ap (λ k. sum_over k word (λ _. 1)) (let e : n + 1 ≡ suc n = omega arith in e) ∙ ones-suc n word ∙ ap (λ b. cond b 1 0 + sum_over n word (λ _. 1)) clear ∙ (let e : 0 + sum_over n word (λ _. 1) ≡ sum_over n word (λ _. 1) = omega arith in e)

pub ones-none : (word : ℕ) → sum_over 0 word (λ _. 1) ≡ 0
unfolding sum_over
ones-none word = refl
