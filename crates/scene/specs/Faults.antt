-- What a count of failures says: how a call moves it, and that a device failed between two states.
use Rattle.std.specs.Prelude.{◌≡◌, ℕ, ◌+◌, ◌-◌, ◌^◌, ◌<◌, min, List, length, Result, MatchResult}

-- the count after one more failure; at its greatest value, 2^64 - 1, it stays
abbrev pub raised : ℕ → ℕ
raised count = min (count + 1) (2 ^ 64 - 1)

-- the count rose between two states; of a count that stood at its greatest value this says nothing
abbrev pub HasFailed : ℕ → ℕ → Type 0
HasFailed before after = before < 2 ^ 64 - 1 → before < after

-- a call that counts: an error is one failure, a success is none
abbrev pub CountsFailure : {A E : Type 0} → ℕ → ℕ → Result A E → Type 0
CountsFailure before after answer = MatchResult answer (λ _. after ≡ before) (λ _. after ≡ raised before)

-- how a write that took so many of the offered bytes moved the count: to take none of some is a failure
pub record CountsTaking (before after offered taken : ℕ) : Type 0 where
  pub some_taken : 0 < taken → after ≡ before
  pub none_offered : offered ≡ 0 → after ≡ before
  pub none_taken : taken ≡ 0 → 0 < offered → after ≡ raised before

-- a write that counts: an error is one failure, and so is an answer of 0 to bytes that were offered
abbrev pub CountsWrite : {E : Type 0} → ℕ → ℕ → Result ℕ E → List ℕ → Type 0
CountsWrite before after answer bytes =
    MatchResult answer (λ taken. CountsTaking before after (length bytes) taken) (λ _. after ≡ raised before)
