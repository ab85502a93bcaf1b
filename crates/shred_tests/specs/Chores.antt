-- What three systems do to a number, a speed and a score.
use Rattle.std.specs.Prelude.{◌≡◌, ℕ, ◌+◌, ◌%◌, ◌^◌, Option, Some, None, List, [], ◌∷◌}
use Rattle.shred_world.specs.declared.resource_id.ResourceId.{ResourceId}
use Rattle.shred_world.specs.ResourceIds.{id_of}
use Rattle.shred_world.specs.Bundles.{Holding, readable, owned}
use Rattle.shred_stages.specs.declared.stop.Stop.{Stop}
use Rattle.shred_stages.specs.Changes.{with_values}
use Rattle.shred_tests.specs.declared.chores.Chore.{Chore}
use Rattle.shred_tests.specs.declared.chores.Chore.TheVariants.{Moving, Scoring, Hastening}
use Rattle.shred_tests.specs.declared.values.Value.{Value}
use Rattle.shred_tests.specs.declared.values.Value.TheVariants.{NumberValue, SpeedValue, ScoreValue}
use Rattle.shred_tests.specs.declared.values.Number.{Number}
use Rattle.shred_tests.specs.declared.values.Speed.{Speed}
use Rattle.shred_tests.specs.declared.values.Score.{Score}

abbrev pub number_id : ResourceId
number_id = id_of 1 0

abbrev pub speed_id : ResourceId
speed_id = id_of 2 0

abbrev pub score_id : ResourceId
score_id = id_of 3 0

-- the sum of two counts, in 64 bits
abbrev pub sum_of : ℕ → ℕ → ℕ
sum_of count other = (count + other) % 2 ^ 64

-- the number gains the speed
pub record Moves (seen left : Holding Value) : Type 0 where
  pub number : Number
  pub speed : Speed
  pub was : seen number_id ≡ owned (NumberValue number)
  pub read : readable (seen speed_id) ≡ Some (SpeedValue speed)
  pub leaves : left ≡ with_values ((number_id, NumberValue (record { 0 = sum_of number.0 speed.0 })) ∷ []) seen

-- the score gains one
pub record Scores (seen left : Holding Value) : Type 0 where
  pub score : Score
  pub was : seen score_id ≡ owned (ScoreValue score)
  pub leaves : left ≡ with_values ((score_id, ScoreValue (record { 0 = sum_of score.0 1 })) ∷ []) seen

-- the speed gains the number
pub record Hastens (seen left : Holding Value) : Type 0 where
  pub number : Number
  pub speed : Speed
  pub read : readable (seen number_id) ≡ Some (NumberValue number)
  pub was : seen speed_id ≡ owned (SpeedValue speed)
  pub leaves : left ≡ with_values ((speed_id, SpeedValue (record { 0 = sum_of speed.0 number.0 })) ∷ []) seen

-- a system does something, or it refuses and leaves all as it was
abbrev pub Unless : (Holding Value → Holding Value → Type 0) → Holding Value → Option Stop → Holding Value → Type 0
Unless does seen None left = does seen left
Unless does seen (Some stop) left = left ≡ seen

abbrev pub Does : Chore → Holding Value → Holding Value → Type 0
Does Moving = Moves
Does Scoring = Scores
Does Hastening = Hastens

-- each stays what it is
abbrev pub ChoreMeets : Chore → Holding Value → Option Stop → Chore → Holding Value → Type 0
ChoreMeets chore seen refused chore_after left = (chore_after ≡ chore) × Unless (Does chore) seen refused left

-- the ids that each reads, and writes
abbrev pub chore_reads : Chore → List ResourceId
chore_reads Moving = speed_id ∷ []
chore_reads Scoring = []
chore_reads Hastening = number_id ∷ []

abbrev pub chore_writes : Chore → List ResourceId
chore_writes Moving = number_id ∷ []
chore_writes Scoring = score_id ∷ []
chore_writes Hastening = speed_id ∷ []
