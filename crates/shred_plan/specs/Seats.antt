-- Seats: which groups of a stage an id is written in, and used in, told by their places. No public clause cites this file.
use Rattle.std.specs.Prelude.{◌≡◌, ◌≢◌, ℕ, ◌<◌, ◌/◌, ◌%◌, Bool, true, List, [], length, slice_index_or}
use Rattle.std.specs.Int.{bit_at}
use Rattle.std.specs.List.{list_any}
use Rattle.std.specs.declared.cmp.Ordering.{Ordering}
use Rattle.shred_plan.specs.declared.stage.Way.{Way}
use Rattle.shred_plan.specs.declared.stage.Way.TheVariants.{Alone, Behind}
use Rattle.shred_plan.specs.declared.stage_set.StageSet.{StageSet}
use Rattle.shred_plan.specs.declared.id_table.IdTable.{IdTable}
use Rattle.shred_plan.specs.Plan.{Placing, Group, Stage, hits}
use Rattle.shred_plan.specs.Index.{has_stage, has_for, stage_at, writes, uses}

-- a group of a stage that passes a test, at a place that leaves a rest by sixteen
pub record HasSeat {Id : Type 0} (test : Group Id → Bool) (stage : Stage Id) (rest : ℕ) : Type 0 where
  pub place : ℕ
  pub within : place < length stage
  pub leaves : place % 16 ≡ rest
  pub passes : test (slice_index_or stage place []) ≡ true

-- a seat is a number: sixteen for each stage, one for each rest; each that the tables have for an id is that of a group in which it is written, or used
pub record KeepsSeats {Id : Type 0} (cmp : Id → Id → Ordering) (same : Id → Id → Bool) (seats : IdTable Id) (stages : List (Stage Id)) : Type 0 where
  pub writers : (id : Id) (seat : ℕ) → has_for cmp seats.writers id seat ≡ true → HasSeat (list_any (λ one. writes same one id)) (stage_at stages (seat / 16)) (seat % 16)
  pub users : (id : Id) (seat : ℕ) → has_for cmp seats.users id seat ≡ true → HasSeat (list_any (λ one. uses same one id)) (stage_at stages (seat / 16)) (seat % 16)

-- each seat of a set is that of a group with which a system conflicts
abbrev pub HitsSeats : {Id : Type 0} (same : Id → Id → Bool) → Placing Id → List (Stage Id) → StageSet → Type 0
HitsSeats same one stages set = (seat : ℕ) → has_stage set seat ≡ true → HasSeat (hits same one) (stage_at stages (seat / 16)) (seat % 16)

-- the place of the group in which a system stands once a stage has taken it in
abbrev pub group_of : {Id : Type 0} → Stage Id → Way → ℕ
group_of stage Alone = length stage
group_of stage (Behind place) = place

-- two bits of a word
pub record HasTwoBits (word : ℕ) : Type 0 where
  pub low : ℕ
  pub high : ℕ
  pub apart : low ≢ high
  pub is_low : bit_at word low ≡ 1
  pub is_high : bit_at word high ≡ 1

-- two numbers of a set, of the sixteen of a stage
pub record HasTwo (set : StageSet) (stage : ℕ) : Type 0 where
  pub low : ℕ
  pub high : ℕ
  pub apart : low ≢ high
  pub low_of : low / 16 ≡ stage
  pub high_of : high / 16 ≡ stage
  pub is_low : has_stage set low ≡ true
  pub is_high : has_stage set high ≡ true
