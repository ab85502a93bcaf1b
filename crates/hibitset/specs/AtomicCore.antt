-- A set in four layers of any sizes that several callers add to: its words, what each caller did and saw, and what holds of them between any two steps.
use Rattle.std.specs.Prelude.{◌≡◌, ◌⊎◌, ℕ, zero, suc, ◌+◌, ◌*◌, ◌/◌, ◌%◌, ◌^◌, ◌<◌, ◌≤◌, ◌==◌, Bool, false, List, [], ◌∷◌, ◌++◌, length, slice_index, slice_set, bit_or, if◌then◌else◌}
use Rattle.std.specs.Int.{bit_at}
use Rattle.std.specs.List.{All}
use mathlib.Core.Option.{some}
use lib.ListN.{get_elem?}
use Rattle.hibitset.specs.Cut.{number_in}
use Rattle.hibitset.specs.declared.atomic_core.Caller.{Caller}

-- the bit at an address of a row of words
abbrev pub bit : List ℕ → ℕ → ℕ
bit words address = bit_at (slice_index words (address / 64)) (address % 64)

-- the row with that bit set
abbrev pub with_bit : List ℕ → ℕ → List ℕ
with_bit words address = slice_set words (address / 64) (bit_or (slice_index words (address / 64)) (1 * 2 ^ (address % 64) % 2 ^ 64))

-- how many words layers 0, 1 and 2 have; layer 3 has one
pub record Sizes : Type 0 where
  pub first : ℕ
  pub second : ℕ
  pub third : ℕ

-- each word has a bit in the layer above
pub record Fits (sizes : Sizes) : Type 0 where
  pub second : sizes.first ≤ 64 * sizes.second
  pub third : sizes.second ≤ 64 * sizes.third
  pub fourth : sizes.third ≤ 64

-- the words of all layers
abbrev pub word_count : Sizes → ℕ
word_count sizes = sizes.first + sizes.second + sizes.third + 1

-- where in the row the bit of that number of a layer is
abbrev pub address : Sizes → ℕ → ℕ → ℕ
address sizes zero number = number
address sizes (suc zero) number = 64 * sizes.first + number
address sizes (suc (suc zero)) number = 64 * (sizes.first + sizes.second) + number
address sizes (suc (suc (suc layer))) number = 64 * (sizes.first + sizes.second + sizes.third) + number

-- the bits of a layer
abbrev pub bit_count : Sizes → ℕ → ℕ
bit_count sizes zero = 64 * sizes.first
bit_count sizes (suc zero) = 64 * sizes.second
bit_count sizes (suc (suc zero)) = 64 * sizes.third
bit_count sizes (suc (suc (suc layer))) = 64

-- the bit of that number of a layer
abbrev pub mark : Sizes → List ℕ → ℕ → ℕ → ℕ
mark sizes words layer number = bit words (address sizes layer number)

-- one where it is so, else none
abbrev pub one_if : Bool → ℕ
one_if holds = if holds then 1 else 0

-- the index is within layer 0, and its bit in each layer is set
abbrev pub HasAllBits : Sizes → List ℕ → ℕ → Type 0
HasAllBits sizes words index = (index < 64 * sizes.first) × ((layer : ℕ) → layer < 4 → mark sizes words layer (number_in layer index) ≡ 1)

-- one where the call was on the index and didn't find it, else none
abbrev pub new_report : ℕ → ℕ × Bool → ℕ
new_report index call = if call.0 == index then (if call.1 then 0 else 1) else 0

-- how many of the calls report the index new
abbrev pub new_reports : ℕ → List (ℕ × Bool) → ℕ
new_reports index [] = 0
new_reports index (call ∷ calls) = new_report index call + new_reports index calls

-- a call that is in flight at a stage; at stage 0 none is
abbrev pub in_flight : ℕ → ℕ × Bool → List (ℕ × Bool)
in_flight zero call = []
in_flight (suc stage) call = call ∷ []

-- the calls of a caller, those that ended and then that in flight
abbrev pub calls_of : Caller → List (ℕ × Bool)
calls_of caller = caller.calls ++ in_flight caller.stage (caller.index, caller.found)

-- the sum over all of a list
abbrev pub total : {Item : Type 0} → (Item → ℕ) → List Item → ℕ
total count [] = 0
total count (item ∷ items) = count item + total count items

-- each bit that a load found set is set
abbrev pub StaysSet : List ℕ → ℕ × ℕ → Type 0
StaysSet words look = (place : ℕ) → bit_at look.1 place ≡ 1 → bit_at (slice_index words look.0) place ≡ 1

-- an ended call has all four bits, what was seen set is set, and the call in flight has its bit in each layer that it has passed
pub record IsCaller (sizes : Sizes) (words : List ℕ) (caller : Caller) : Type 0 where
  pub ended : All (λ call. HasAllBits sizes words call.0) caller.calls
  pub seen : All (StaysSet words) caller.seen
  pub stage : caller.stage < 4
  pub written : (layer : ℕ) → layer < caller.stage → mark sizes words layer (number_in layer caller.index) ≡ 1
  pub within : 0 < caller.stage → caller.index < 64 * sizes.first

-- a call in flight wrote the word of that bit of a layer, and hasn't gone further up
abbrev pub HasWriter : List Caller → ℕ → ℕ → Type 0
HasWriter callers layer number =
    (who : ℕ) × (caller : Caller) × (get_elem? callers who ≡ some caller) × (caller.stage ≡ suc layer) × (number_in (suc layer) caller.index ≡ number / 64)

-- layer 0 has the old members, which no call reports new, and the indices that just one call reports new; a summary bit is missing only over a word that a call in flight wrote, and is set over no word that is zero
pub record IsSound (sizes : Sizes) (old : ℕ → Bool) (words : List ℕ) (callers : List Caller) : Type 0 where
  pub counts : (index : ℕ) → index < 64 * sizes.first → total (λ caller. new_reports index (calls_of caller)) callers + one_if (old index) ≡ bit words index
  pub each : (who : ℕ) (caller : Caller) → get_elem? callers who ≡ some caller → IsCaller sizes words caller
  pub over : (layer number : ℕ) → layer < 3 → number < bit_count sizes layer → mark sizes words layer number ≡ 1 → (mark sizes words (suc layer) (number / 64) ≡ 1) ⊎ HasWriter callers layer number
  pub under : (layer number : ℕ) → layer < 3 → number < bit_count sizes (suc layer)
      → ((below : ℕ) → below < bit_count sizes layer → below / 64 ≡ number → mark sizes words layer below ≡ 0) → mark sizes words (suc layer) number ≡ 0
  pub wide : length words ≡ word_count sizes

-- a summary bit is set exactly over the words that aren't zero
pub record AreExact (sizes : Sizes) (words : List ℕ) : Type 0 where
  pub over : (layer number : ℕ) → layer < 3 → number < bit_count sizes layer → mark sizes words layer number ≡ 1 → mark sizes words (suc layer) (number / 64) ≡ 1
  pub under : (layer number : ℕ) → layer < 3 → number < bit_count sizes (suc layer)
      → ((below : ℕ) → below < bit_count sizes layer → below / 64 ≡ number → mark sizes words layer below ≡ 0) → mark sizes words (suc layer) number ≡ 0
  pub wide : length words ≡ word_count sizes

-- the words of a set before anyone adds to it: layer 0 has its members, and the summaries are exact
pub record AreWordsOf (sizes : Sizes) (old : ℕ → Bool) (words : List ℕ) : Type 0 where
  pub members : (index : ℕ) → index < 64 * sizes.first → bit words index ≡ one_if (old index)
  pub exact : AreExact sizes words

-- the caller with these five
abbrev pub caller_with : List (ℕ × Bool) → List (ℕ × ℕ) → ℕ → ℕ → Bool → Caller
caller_with calls seen stage index found = record { calls = calls; seen = seen; stage = stage; index = index; found = found }

-- a caller that did nothing yet
abbrev pub newcomer : Caller
newcomer = caller_with [] [] 0 0 false

-- after the first step of a call on an index, whose word in layer 0 was this
abbrev pub begun : Caller → ℕ → ℕ → Caller
begun caller index word = caller_with caller.calls caller.seen 1 index (bit_at word (index % 64) == 1)

-- after the second step of a call, and after the third
abbrev pub risen : Caller → Caller
risen caller = caller_with caller.calls caller.seen (suc caller.stage) caller.index caller.found

-- after the last step of a call, which is listed from then on
abbrev pub ended : Caller → Caller
ended caller = caller_with (caller.calls ++ (caller.index, caller.found) ∷ []) caller.seen 0 0 caller.found

-- after a load, which found this in the word of that number
abbrev pub looked : Caller → ℕ → ℕ → Caller
looked caller number word = caller_with caller.calls (caller.seen ++ (number, word) ∷ []) caller.stage caller.index caller.found

-- two callers without a call in flight as one
abbrev pub merged : Caller → Caller → Caller
merged caller other = caller_with (caller.calls ++ other.calls) (caller.seen ++ other.seen) 0 0 caller.found
