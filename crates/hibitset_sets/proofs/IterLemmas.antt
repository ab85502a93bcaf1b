-- The steps of a walk on its masks and prefixes, as the code makes them.
use Rattle.std.proofs.Common.{◌≡◌, ◌≢◌, ℕ, suc, ◌+◌, ◌-◌, ◌*◌, ◌%◌, ◌^◌, ◌<◌, ◌≤◌, List, length, true, false, cond, eqb, inl, inr, sym, ap, ◌∙◌, subst, arith, slice_index, slice_set, bit_and, length-set}
use Rattle.std.specs.Int.{bit_not, trailing_zeros, w64}
use Rattle.std.proofs.lemmas.List.{get_or_past, get_or-set_other, get_or-set_same}
use Rattle.std.proofs.lemmas.Bool.{cases_eq, ne_eqb}
use Rattle.hibitset_sets.specs.Bits.{has_bit}
use Rattle.hibitset_sets.specs.Steps.{TakesLowest}
use Rattle.hibitset_sets.specs.Walk.{IsPlaced}
use Rattle.hibitset_sets.specs.BitLemmas.{lowest_bit, has_bit-cleared_same, has_bit-cleared_other}
use Rattle.hibitset_sets.proofs.StepLemmas.{IsTaken}
use Rattle.hibitset_sets.proofs.LoadLemmas.{IsLoaded}

-- the code of `take_lowest`
pub takes_lowest : (masks : List ℕ) (layer : ℕ) → layer < length masks → slice_index masks layer ≢ 0 → slice_index masks layer < 2 ^ 64 → TakesLowest masks (slice_set masks layer (bit_and (slice_index masks layer) (bit_not w64 (1 * 2 ^ trailing_zeros w64 (slice_index masks layer) % 2 ^ 64)))) layer (trailing_zeros w64 (slice_index masks layer))
takes_lowest masks layer within some fits =
    let word = slice_index masks layer in
    let place = trailing_zeros w64 word in
    let rest = bit_and word (bit_not w64 (1 * 2 ^ place % 2 ^ 64)) in
    let lowest = lowest_bit word (omega arith) fits in
    let at : slice_index (slice_set masks layer rest) layer ≡ rest = get_or-set_same masks layer rest 0 within in
    record {
      within = lowest.0;
      long = length-set masks layer rest;
      was = lowest.1;
      least = lowest.2;
      gone = ap (λ w. has_bit w place) at ∙ has_bit-cleared_same word place lowest.0;
      stay = λ i i_within other. ap (λ w. has_bit w i) at ∙ has_bit-cleared_other word place lowest.0 i i_within other;
      others = λ k other. get_or-set_other masks layer k rest 0 other;
    }

-- a prefix that is placed is aligned, and its word lies within its layer
pub record IsFirst (prefix : List ℕ) (layer : ℕ) : Type 0 where
  pub aligned : slice_index prefix layer % 64 ≡ 0
  pub within : slice_index prefix layer + 64 ≤ 16777216
  pub above : 0 < layer → slice_index prefix layer + 64 ≤ 262144

pub first-placed : (masks prefix : List ℕ) (layer : ℕ) → length prefix ≡ 3 → IsPlaced masks prefix → layer < 4 → slice_index masks layer ≢ 0 → IsFirst prefix layer
first-placed masks prefix layer three placed low some =
    let none : slice_index prefix 3 ≡ 0 = get_or_past prefix 3 0 (omega arith) in
    let Has : ℕ → Type 0 = λ l. slice_index masks l ≢ 0 in
    elim (cases_eq layer 3) [
      | inl third ↦ subst (IsFirst prefix) (sym third) (record { aligned = omega arith; within = omega arith; above = λ _. omega arith })
      | inr not3 ↦
          elim (cases_eq layer 2) [
            | inl second ↦
                let some2 = subst Has second some in
                let p = placed 2 2 (omega arith) (omega arith) some2 in
                let a = p.aligned in
                let g = p.agrees in
                subst (IsFirst prefix) (sym second) (record { aligned = a; within = omega arith; above = λ _. omega arith })
            | inr not2 ↦
                elim (cases_eq layer 1) [
                  | inl oneth ↦
                      let some1 = subst Has oneth some in
                      let p = placed 1 1 (omega arith) (omega arith) some1 in
                      let q = placed 1 2 (omega arith) (omega arith) some1 in
                      let a = p.aligned in
                      let g = p.agrees in
                      let b = q.aligned in
                      let h = q.agrees in
                      subst (IsFirst prefix) (sym oneth) (record { aligned = a; within = omega arith; above = λ _. omega arith })
                  | inr not1 ↦
                      let zeroth : layer ≡ 0 = omega arith in
                      let some0 = subst Has zeroth some in
                      let p = placed 0 0 (omega arith) (omega arith) some0 in
                      let q = placed 0 1 (omega arith) (omega arith) some0 in
                      let r = placed 0 2 (omega arith) (omega arith) some0 in
                      let a = p.aligned in
                      let g = p.agrees in
                      let b = q.aligned in
                      let h = q.agrees in
                      let d = r.aligned in
                      let k = r.agrees in
                      subst (IsFirst prefix) (sym zeroth) (record { aligned = a; within = omega arith; above = λ pos. absurd (omega arith) })
                ]
          ]
    ]

-- the lowest bit of a mask, as a number of its layer
pub taken-is : (masks masks' prefix : List ℕ) (layer place : ℕ) → IsFirst prefix layer → TakesLowest masks masks' layer place → IsTaken masks masks' prefix layer (slice_index prefix layer + place)
taken-is masks masks' prefix layer place first takes =
    let back : slice_index prefix layer + place - slice_index prefix layer ≡ place = omega arith in
    let w = takes.within in
    record {
      aligned = first.aligned;
      from = omega arith;
      upto = omega arith;
      was = subst (λ p. has_bit (slice_index masks layer) p ≡ true) (sym back) takes.was;
      least = λ i low. takes.least i (omega arith);
      gone = subst (λ p. has_bit (slice_index masks' layer) p ≡ false) (sym back) takes.gone;
      stay = λ i within other. takes.stay i within (λ e. other (e ∙ sym back));
    }

-- the code of `load`
pub loaded-is : (words : ℕ → ℕ → ℕ) (masks taken prefix : List ℕ) (below place word first : ℕ) → length taken ≡ 4 → length prefix ≡ 3 → below < 3 → ((k : ℕ) → k ≤ below → slice_index masks k ≡ 0) → IsFirst prefix (suc below) → TakesLowest masks taken (suc below) place → word ≡ words below (first + place) → first ≡ slice_index prefix (suc below) → IsLoaded words masks prefix (slice_set taken below word) (slice_set prefix below ((first + place) * 64 % 4294967296)) below (first + place)
loaded-is words masks taken prefix below place word first four three low empty is_first takes is_word is_start =
    let number = first + place in
    let w = takes.within in
    let a = is_first.above (omega arith) in
    let small : number * 64 % 4294967296 ≡ 64 * number = omega arith in
    let in_masks : below < length taken = omega arith in
    let in_prefix : below < length prefix = omega arith in
    let at_word : slice_index (slice_set taken below word) below ≡ word = get_or-set_same taken below word 0 in_masks in
    let at_first : slice_index (slice_set prefix below (number * 64 % 4294967296)) below ≡ number * 64 % 4294967296 = get_or-set_same prefix below (number * 64 % 4294967296) 0 in_prefix in
    let above : slice_index (slice_set taken below word) (suc below) ≡ slice_index taken (suc below) =
    get_or-set_other taken below (suc below) word 0 (omega arith) in
    let old : IsTaken masks taken prefix (suc below) number =
    subst (IsTaken masks taken prefix (suc below)) (ap (λ x. x + place) (sym is_start)) (taken-is masks taken prefix (suc below) place is_first takes) in
    record {
      taken = record {
        aligned = old.aligned;
        from = old.from;
        upto = old.upto;
        was = old.was;
        least = old.least;
        gone = ap (λ m. has_bit m (number - slice_index prefix (suc below))) above ∙ old.gone;
        stay = λ i within other. ap (λ m. has_bit m i) above ∙ old.stay i within other;
      };
      word = at_word ∙ is_word;
      first = at_first ∙ small;
      empty = empty;
      same_mask = λ k not_below not_above. get_or-set_other taken below k word 0 not_below ∙ takes.others k not_above;
      same_prefix = λ k not_below. get_or-set_other prefix below k (number * 64 % 4294967296) 0 not_below;
    }

-- the same, by the layer of the bit
pub loaded-step : (words : ℕ → ℕ → ℕ) (masks taken prefix : List ℕ) (layer place word first : ℕ) → 0 < layer → layer < 4 → length taken ≡ 4 → length prefix ≡ 3 → IsPlaced masks prefix → ((k : ℕ) → k < layer → slice_index masks k ≡ 0) → slice_index masks layer ≢ 0 → TakesLowest masks taken layer place → word ≡ words (layer - 1) (cond (eqb (layer - 1) 3) 0 (first + place)) → first ≡ slice_index prefix layer → IsLoaded words masks prefix (slice_set taken (layer - 1) word) (slice_set prefix (layer - 1) ((first + place) * 64 % 4294967296)) (layer - 1) (first + place)
loaded-step words masks taken prefix layer place word first pos low four three placed empty some takes is_word is_start =
    let below = layer - 1 in
    let at : layer ≡ suc below = omega arith in
    let is_first : IsFirst prefix (suc below) = subst (IsFirst prefix) at (first-placed masks prefix layer three placed low some) in
    let takes' : TakesLowest masks taken (suc below) place = subst (λ l. TakesLowest masks taken l place) at takes in
    let read : word ≡ words below (first + place) = is_word ∙ ap (λ b. words below (cond b 0 (first + place))) (ne_eqb below 3 (λ e. omega arith)) in
    loaded-is words masks taken prefix below place word first four three (omega arith) (λ k k_low. empty k (omega arith)) is_first takes' read (is_start ∙ ap (slice_index prefix) at)
