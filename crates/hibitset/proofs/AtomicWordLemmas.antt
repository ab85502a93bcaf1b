-- One bit of a row of words is set; where the bits of layers lie in the row; sums over callers.
use Rattle.std.proofs.Common.{◌≡◌, ◌≢◌, ℕ, zero, suc, ◌+◌, ◌*◌, ◌/◌, ◌%◌, ◌^◌, ◌<◌, ◌≤◌, ◌==◌, Bool, if◌then◌else◌, bit_or, List, [], ◌∷◌, ◌++◌, length, get_or, set, sym, refl, ap, ◌∙◌, arith, eq-eqb, ne_eqb}
use Rattle.std.proofs.lemmas.List.{get_or-set_same, get_or-set_other}
use Rattle.std.proofs.lemmas.List.Elements.{All-append}
use Rattle.std.proofs.lemmas.Nat.{one_shl}
use Rattle.std.proofs.lemmas.Nat.Bits.{bit_at-lt, bit_at_set_same, bit_at_set_other, bit_at-pow_same, bit_at-pow_other}
use Rattle.std.specs.Int.{bit_at}
use Rattle.std.specs.List.{All}
use mir.Syntax.{w64}
use mathlib.Core.Logic.{dite}
use mathlib.Core.Option.{some, some-injective, some-ne-none}
use native.Mathlib.Decide.{ℕ_discrete}
use lib.ListN.{get_elem?}
use Rattle.hibitset.specs.Cut.{number_in}
use Rattle.hibitset.specs.AtomicCore.{Sizes, Fits, word_count, bit, with_bit, address, bit_count, new_report, new_reports, total}

-- ---- sums

module _ {Item : Type 0} (count : Item → ℕ) where
  -- one item is replaced
  pub total-set : (items : List Item) (place : ℕ) (before after : Item) → get_elem? items place ≡ some before → total count (set items place after) + count before ≡ total count items + count after
  total-set [] place before after at = absurd (some-ne-none before (sym at))
  total-set (item ∷ items) zero before after at = let same : count item ≡ count before = ap count (some-injective item before at) in omega arith
  total-set (item ∷ items) (suc place) before after at = let rest = total-set items place before after at in omega arith

  -- one item is put behind the others
  pub total-push : (items : List Item) (last : Item) → total count (items ++ last ∷ []) ≡ total count items + count last
  total-push [] last = omega arith
  total-push (item ∷ items) last = let rest = total-push items last in omega arith

  -- an item counts at most as much as all
  pub count-total : (items : List Item) (place : ℕ) (one : Item) → get_elem? items place ≡ some one → count one ≤ total count items
  count-total [] place one at = absurd (some-ne-none one (sym at))
  count-total (item ∷ items) zero one at = let same : count item ≡ count one = ap count (some-injective item one at) in omega arith
  count-total (item ∷ items) (suc place) one at = let rest = count-total items place one at in omega arith

pub new_reports-append : (index : ℕ) (calls more : List (ℕ × Bool)) → new_reports index (calls ++ more) ≡ new_reports index calls + new_reports index more
new_reports-append index [] more = let same : new_reports index more ≡ 0 + new_reports index more = omega arith in same
new_reports-append index (call ∷ calls) more = let rest = new_reports-append index calls more in omega arith

All-one : {Item : Type 0} (Holds : Item → Type 0) (item : Item) → Holds item → All Holds (item ∷ [])
All-one Holds item holds zero given below = holds
All-one Holds item holds (suc place) given below = absurd (omega arith)

pub All-push : {Item : Type 0} (Holds : Item → Type 0) (items : List Item) (last : Item) → All Holds items → Holds last → All Holds (items ++ last ∷ [])
All-push Holds items last all holds = All-append Holds items (last ∷ []) all (All-one Holds last holds)

-- ---- one bit

pub bit-in_word : (words : List ℕ) (number place : ℕ) → place < 64 → bit words (number * 64 + place) ≡ bit_at (get_or words number 0) place
bit-in_word words number place low =
    let whole : (number * 64 + place) / 64 ≡ number = omega arith in
    let rest : (number * 64 + place) % 64 ≡ place = omega arith in
    λ j. bit_at (get_or words (whole j) 0) (rest j)

pub bit-lt : (words : List ℕ) (at : ℕ) → bit words at < 2
bit-lt words at = bit_at-lt (get_or words (at / 64) 0) (at % 64)

-- masks of one bit are equal where their bits are
pub mask-injective : (place other : ℕ) → place < 64 → other < 64 → 1 * 2 ^ place % 2 ^ 64 ≡ 1 * 2 ^ other % 2 ^ 64 → place ≡ other
mask-injective place other low low' same =
    let powers : 2 ^ place ≡ 2 ^ other = sym (one_shl place 64 low) ∙ same ∙ one_shl other 64 low' in
    dite (ℕ_discrete place other) (λ equal. equal) (λ differ.
    let bits : bit_at (2 ^ place) place ≡ bit_at (2 ^ other) place = ap (λ word. bit_at word place) powers in
    absurd (omega (arith, bits, bit_at-pow_same place, bit_at-pow_other other place differ)))

report-same : (index at : ℕ) (found : Bool) → at ≡ index → new_report index (at, found) ≡ (if found then 0 else 1)
report-same index at found same = ap (λ (here : Bool). if here then (if found then 0 else 1) else 0) (eq-eqb at index same)

report-other : (index at : ℕ) (found : Bool) → at ≢ index → new_report index (at, found) ≡ 0
report-other index at found differ = ap (λ (here : Bool). if here then (if found then 0 else 1) else 0) (ne_eqb at index differ)

old-or-new : (value : ℕ) → value < 2 → value + (if value == 1 then 0 else 1) ≡ 1
old-or-new zero low = refl
old-or-new (suc zero) low = refl
old-or-new (suc (suc value)) low = absurd (omega arith)

module _ (words : List ℕ) (at : ℕ) (within : at < 64 * length words) where
  abbrev number : ℕ
  number = at / 64

  abbrev word : ℕ
  word = get_or words number 0

  abbrev after : List ℕ
  after = with_bit words at

  low : at % 64 < 64
  low = omega arith

  inside : number < length words
  inside = omega arith

  after-word : get_or after number 0 ≡ bit_or word (1 * 2 ^ (at % 64) % 2 ^ 64)
  after-word = get_or-set_same words number _ 0 inside

  -- the bit is set
  pub with_bit-same : bit after at ≡ 1
  with_bit-same = ap (λ found. bit_at found (at % 64)) after-word ∙ bit_at_set_same w64 word (at % 64) low

  elsewhere : (other place : ℕ) → Dec (other ≡ number) → (other ≡ number → place ≢ at % 64) → bit_at (get_or after other 0) place ≡ bit_at (get_or words other 0) place
  elsewhere other place (yes same) apart =
      ap (λ n. bit_at (get_or after n 0) place) same ∙ ap (λ found. bit_at found place) after-word ∙ bit_at_set_other w64 word (at % 64) low place (apart same) ∙ ap (λ n. bit_at (get_or words n 0) place) (sym same)
  elsewhere other place (no differ) apart = ap (λ found. bit_at found place) (get_or-set_other words number other _ 0 differ)

  -- all others stay
  pub with_bit-other : (other : ℕ) → at ≢ other → bit after other ≡ bit words other
  with_bit-other other differ = elsewhere (other / 64) (other % 64) (ℕ_discrete (other / 64) number) (λ same rest. differ (omega arith))

  -- what was set stays set
  pub with_bit-keeps : (other place : ℕ) → bit_at (get_or words other 0) place ≡ 1 → bit_at (get_or after other 0) place ≡ 1
  with_bit-keeps other place was = dite (ℕ_discrete other number)
      (λ same. dite (ℕ_discrete place (at % 64))
      (λ here. ap (λ n. bit_at (get_or after n 0) place) same ∙ ap (λ found. bit_at found place) after-word ∙ ap (λ p. bit_at (bit_or word (1 * 2 ^ (at % 64) % 2 ^ 64)) p) here ∙ bit_at_set_same w64 word (at % 64) low)
      (λ there. elsewhere other place (yes same) (λ _. there) ∙ was))
      (λ differ. elsewhere other place (no differ) (λ same. absurd (differ same)) ∙ was)

  -- the bits after are those before and what a call on that index reports new
  pub with_bit-report : (index : ℕ) → bit after index ≡ bit words index + new_report index (at, bit_at word (at % 64) == 1)
  with_bit-report index = dite (ℕ_discrete at index)
      (λ same.
      let value : ℕ = bit_at word (at % 64) in
      let two : value < 2 = bit_at-lt word (at % 64) in
      let set_now : bit after index ≡ 1 = ap (bit after) (sym same) ∙ with_bit-same in
      let was : bit words index ≡ value = ap (bit words) (sym same) in
      omega (arith, set_now, was, old-or-new value two, report-same index at (value == 1) same))
      (λ differ. omega (arith, with_bit-other index differ, report-other index at (bit_at word (at % 64) == 1) differ))

-- ---- layers

module _ (sizes : Sizes) (fits : Fits sizes) where
  fit : (sizes.first ≤ 64 * sizes.second) × (sizes.second ≤ 64 * sizes.third) × (sizes.third ≤ 64)
  fit = (fits.second, fits.third, fits.fourth)

  -- no address is that of two bits
  pub address-injective : (layer other number number' : ℕ) → layer < 4 → other < 4 → number < bit_count sizes layer → number' < bit_count sizes other → address sizes layer number ≡ address sizes other number' → (layer ≡ other) × (number ≡ number')
  address-injective zero zero number number' a b c d same = (refl, same)
  address-injective zero (suc zero) number number' a b c d same = absurd (omega (arith, fit))
  address-injective zero (suc (suc zero)) number number' a b c d same = absurd (omega (arith, fit))
  address-injective zero (suc (suc (suc other))) number number' a b c d same = absurd (omega (arith, fit))
  address-injective (suc zero) zero number number' a b c d same = absurd (omega (arith, fit))
  address-injective (suc zero) (suc zero) number number' a b c d same = (refl, omega (arith, fit))
  address-injective (suc zero) (suc (suc zero)) number number' a b c d same = absurd (omega (arith, fit))
  address-injective (suc zero) (suc (suc (suc other))) number number' a b c d same = absurd (omega (arith, fit))
  address-injective (suc (suc zero)) zero number number' a b c d same = absurd (omega (arith, fit))
  address-injective (suc (suc zero)) (suc zero) number number' a b c d same = absurd (omega (arith, fit))
  address-injective (suc (suc zero)) (suc (suc zero)) number number' a b c d same = (refl, omega (arith, fit))
  address-injective (suc (suc zero)) (suc (suc (suc other))) number number' a b c d same = absurd (omega (arith, fit))
  address-injective (suc (suc (suc layer))) zero number number' a b c d same = absurd (omega (arith, fit))
  address-injective (suc (suc (suc layer))) (suc zero) number number' a b c d same = absurd (omega (arith, fit))
  address-injective (suc (suc (suc layer))) (suc (suc zero)) number number' a b c d same = absurd (omega (arith, fit))
  address-injective (suc (suc (suc layer))) (suc (suc (suc other))) number number' a b c d same = (omega (arith, fit), omega (arith, fit))

  -- an index within layer 0 has a bit in each layer
  pub number_in-lt : (layer index : ℕ) → layer < 4 → index < 64 * sizes.first → number_in layer index < bit_count sizes layer
  number_in-lt zero index low within = within
  number_in-lt (suc zero) index low within = omega (arith, fit)
  number_in-lt (suc (suc zero)) index low within = omega (arith, fit)
  number_in-lt (suc (suc (suc zero))) index low within = omega (arith, fit)
  number_in-lt (suc (suc (suc (suc layer)))) index low within = absurd (omega arith)

  -- each bit of a layer is in the row
  pub address-lt : (layer number : ℕ) → layer < 4 → number < bit_count sizes layer → address sizes layer number < 64 * word_count sizes
  address-lt zero number low within = omega (arith, fit)
  address-lt (suc zero) number low within = omega (arith, fit)
  address-lt (suc (suc zero)) number low within = omega (arith, fit)
  address-lt (suc (suc (suc layer))) number low within = omega (arith, fit)

  -- the summaries lie behind layer 0
  pub address-above : (layer number : ℕ) → 64 * sizes.first ≤ address sizes (suc layer) number
  address-above zero number = omega (arith, fit)
  address-above (suc zero) number = omega (arith, fit)
  address-above (suc (suc layer)) number = omega (arith, fit)
