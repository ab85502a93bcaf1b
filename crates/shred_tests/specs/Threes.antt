-- The three systems in a dispatcher, and what they come to one after the other.
use Rattle.std.specs.Prelude.{◌≡◌, Option, List, [], ◌∷◌}
use Rattle.shred_world.specs.declared.resource_id.ResourceId.{ResourceId}
use Rattle.shred_world.specs.Bundles.{Holding, owned}
use Rattle.shred_plan.specs.Plan.{Placing}
use Rattle.shred_stages.specs.Changes.{with_values}
use Rattle.shred_stages.specs.Staging.{Staging}
use Rattle.shred_stages.specs.Orders.{TakeTurns}
use Rattle.shred_stages.specs.declared.stop.Stop.{Stop}
use Rattle.shred.specs.Dispatching.{Dispatching}
use Rattle.shred.specs.Batches.{Batched}
use Rattle.shred.specs.declared.work.Work.{Work}
use Rattle.shred.specs.declared.work.Work.TheVariants.{System}
use Rattle.shred.specs.declared.nothing.NoBatch.{NoBatch}
use Rattle.shred.specs.declared.nothing.NoLocal.{NoLocal}
use Rattle.shred_tests.specs.declared.chores.Chore.{Chore}
use Rattle.shred_tests.specs.declared.chores.Chore.TheVariants.{Moving, Scoring, Hastening}
use Rattle.shred_tests.specs.declared.values.Value.{Value}
use Rattle.shred_tests.specs.declared.values.Value.TheVariants.{NumberValue, SpeedValue, ScoreValue}
use Rattle.shred_tests.specs.declared.values.Number.{Number}
use Rattle.shred_tests.specs.declared.values.Speed.{Speed}
use Rattle.shred_tests.specs.declared.values.Score.{Score}
use Rattle.shred_tests.specs.Chores.{number_id, speed_id, score_id, sum_of, chore_reads, chore_writes}

-- as the planner sees them
abbrev pub moving : Placing ResourceId
moving = record { number = 0; reads = chore_reads Moving; writes = chore_writes Moving; after = []; time = 3 }

abbrev pub scoring : Placing ResourceId
scoring = record { number = 1; reads = chore_reads Scoring; writes = chore_writes Scoring; after = []; time = 3 }

abbrev pub hastening : Placing ResourceId
hastening = record { number = 2; reads = chore_reads Hastening; writes = chore_writes Hastening; after = []; time = 3 }

-- two of them share a stage, and the third comes after one of these
abbrev pub three_staged : Staging (Work Chore (Batched Chore NoBatch))
three_staged = record {
  planning = record { first = 0; stages = ((moving ∷ []) ∷ (scoring ∷ []) ∷ []) ∷ ((hastening ∷ []) ∷ []) ∷ [] };
  systems = System Moving ∷ System Scoring ∷ System Hastening ∷ [];
}

-- a dispatcher of the three, and of nothing else
pub record IsThree (dispatching : Dispatching (Work Chore (Batched Chore NoBatch)) NoLocal) : Type 0 where
  pub staging : dispatching.staging ≡ three_staged
  pub locals : dispatching.locals ≡ []

-- its systems took their turns along a list, and this came of it
abbrev pub TurnsAlong : {S L : Type 0} → (S → Holding Value → Option Stop → S → Holding Value → Type 0) → List (Placing ResourceId)
    → Dispatching S L → Holding Value → Dispatching S L → Holding Value → Type 0
TurnsAlong meets list before w after w_after =
    TakeTurns meets list (record { systems = before.staging.systems; held = w }) (record { systems = after.staging.systems; held = w_after })

-- the number gained the speed, the speed then gained that number, and the score gained one
pub record Turned (w w_after : Holding Value) : Type 0 where
  pub number : Number
  pub speed : Speed
  pub score : Score
  pub number_was : w number_id ≡ owned (NumberValue number)
  pub speed_was : w speed_id ≡ owned (SpeedValue speed)
  pub score_was : w score_id ≡ owned (ScoreValue score)
  pub leaves : w_after ≡ with_values ((speed_id, SpeedValue (record { 0 = sum_of speed.0 (sum_of number.0 speed.0) })) ∷ (score_id, ScoreValue (record { 0 = sum_of score.0 1 })) ∷ (number_id, NumberValue (record { 0 = sum_of number.0 speed.0 })) ∷ []) w
