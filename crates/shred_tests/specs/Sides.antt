-- What two systems of two types, and a local one, do in a dispatch.
use Rattle.std.specs.Prelude.{◌≡◌, [], ◌∷◌}
use Rattle.shred_world.specs.declared.resource_id.ResourceId.{ResourceId}
use Rattle.shred_world.specs.Bundles.{Holding}
use Rattle.shred_plan.specs.Plan.{Placing}
use Rattle.shred_stages.specs.Staging.{Staging}
use Rattle.shred.specs.Dispatching.{Dispatching}
use Rattle.shred.specs.Batches.{Batched}
use Rattle.shred.specs.declared.work.Work.{Work}
use Rattle.shred.specs.declared.work.Work.TheVariants.{System}
use Rattle.shred.specs.declared.either.Either.{Either}
use Rattle.shred.specs.declared.either.Either.TheVariants.{Left, Right}
use Rattle.shred.specs.declared.nothing.NoBatch.{NoBatch}
use Rattle.shred_tests.specs.declared.bundled.Advance.{Advance}
use Rattle.shred_tests.specs.declared.sides.Win.{Win}
use Rattle.shred_tests.specs.declared.values.Score.{Score}
use Rattle.shred_tests.specs.declared.values.Value.{Value}
use Rattle.shred_tests.specs.Chores.{number_id, speed_id, score_id, sum_of, Moves, Scores}

-- a score that has won one
abbrev pub score_with_one : Score → Score
score_with_one score = record { 0 = sum_of score.0 1 }

abbrev pub Sided : Type 0
Sided = Work (Either Advance Win) (Batched (Either Advance Win) NoBatch)

-- as the planner sees them: they touch nothing in common
abbrev pub advancing : Placing ResourceId
advancing = record { number = 0; reads = speed_id ∷ []; writes = number_id ∷ []; after = []; time = 3 }

abbrev pub winning : Placing ResourceId
winning = record { number = 1; reads = []; writes = score_id ∷ []; after = []; time = 3 }

abbrev pub sides_staged : Advance → Win → Staging Sided
sides_staged one other = record {
  planning = record { first = 0; stages = ((advancing ∷ []) ∷ (winning ∷ []) ∷ []) ∷ [] };
  systems = System (Left one) ∷ System (Right other) ∷ [];
}

-- a dispatcher of the two, and of the local one
pub record AreSides (dispatching : Dispatching Sided Advance) : Type 0 where
  pub one : Advance
  pub other : Win
  pub last : Advance
  pub staging : dispatching.staging ≡ sides_staged one other
  pub locals : dispatching.locals ≡ last ∷ []

-- the number gained the speed, the score one, and the number the speed again
abbrev pub GoesRound : (w w_after : Holding Value) → Type 0
GoesRound w w_after = (first second : Holding Value) × Moves w first × Scores first second × Moves second w_after
