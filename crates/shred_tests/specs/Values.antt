-- What values count, and what calls leave in a world that lend two of its values at once.
use Rattle.std.specs.Prelude.{◌≡◌, ℕ, Some}
use Rattle.std.specs.FinMap as map
use Rattle.shred_world.specs.declared.resource_id.ResourceId.{ResourceId}
use Rattle.shred_world.specs.Worlds.{Slots, value_at}
use Rattle.shred_tests.specs.Chores.{sum_of}
use Rattle.shred_tests.specs.declared.values.Value.{Value}
use Rattle.shred_tests.specs.declared.values.Value.TheVariants.{NumberValue, SpeedValue, ScoreValue, Idle}

-- what a value counts, of whatever kind it is
abbrev pub count_of : Value → ℕ
count_of (NumberValue number) = number.0
count_of (SpeedValue speed) = speed.0
count_of (ScoreValue score) = score.0
count_of Idle = 0

-- the value, raised by an amount
abbrev pub raised_by : Value → ℕ → Value
raised_by (NumberValue number) amount = NumberValue (record { 0 = sum_of number.0 amount })
raised_by (SpeedValue speed) amount = SpeedValue (record { 0 = sum_of speed.0 amount })
raised_by (ScoreValue score) amount = ScoreValue (record { 0 = sum_of score.0 amount })
raised_by Idle amount = Idle

-- the values at two ids are exchanged, and their sum is told
pub record Exchanges (one other : ResourceId) (old new : Slots Value) (sum : ℕ) : Type 0 where
  pub first : Value
  pub second : Value
  pub first_was : value_at old one ≡ Some first
  pub second_was : value_at old other ≡ Some second
  pub exchanged : new ≡ map.insert (map.insert old one (Some second)) other (Some first)
  pub sums : sum ≡ sum_of (count_of first) (count_of second)

-- the value at an id gains what the value at another one counts, which is told and stays
pub record Gains (seen_at written_at : ResourceId) (old new : Slots Value) (amount : ℕ) : Type 0 where
  pub seen : Value
  pub value : Value
  pub seen_was : value_at old seen_at ≡ Some seen
  pub value_was : value_at old written_at ≡ Some value
  pub counts : amount ≡ count_of seen
  pub gained : new ≡ map.insert old written_at (Some (raised_by value amount))
