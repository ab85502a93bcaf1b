-- What the dispatch of two systems of two types, and of a local one, comes to.
use Rattle.std.proofs.Common.{◌≡◌, Bool, true, false, [], ◌∷◌, refl, ap, sym, ◌∙◌, subst, Option, None, Result, Ok, Err}
use Rattle.std.specs.Prelude.{slice_get, slice_set, OnOk, if◌then◌else◌}
use Rattle.std.proofs.Math.Path.{fun_ext}
use Rattle.shred_world.specs.declared.resource_id.ResourceId.{ResourceId}
use Rattle.shred_world.specs.ResourceIds.{same_id}
use Rattle.shred_world.specs.Bundles.{Holding, out, owned, with_slot}
use Rattle.shred_plan.specs.Plan.{plan_order}
use Rattle.shred_stages.specs.declared.stop.Stop.{Stop}
use Rattle.shred_stages.specs.declared.error.DispatchError.{DispatchError}
use Rattle.shred_stages.specs.Changes.{with_values}
use Rattle.shred_stages.specs.Orders.{TakeTurns}
use Rattle.shred_stages.specs.Runs.{State}
use Rattle.shred_stages.specs.Staging.{Staging}
use Rattle.shred_stages.proofs.CallerLemmas.{lent-owned, step-lifted}
use Rattle.shred.specs.Batches.{Batched}
use Rattle.shred.specs.Bundling.{BundleMeets}
use Rattle.shred.specs.Dispatching.{Dispatching, DispatchesInAnyOrder}
use Rattle.shred.specs.Eithers.{EitherDoes}
use Rattle.shred.specs.Works.{WorkMeets}
use Rattle.shred.specs.declared.either.Either.{Either}
use Rattle.shred.specs.declared.either.Either.TheVariants.{Left, Right}
use Rattle.shred.specs.declared.nothing.NoBatch.{NoBatch}
use Rattle.shred.specs.declared.work.Work.TheVariants.{System}
use Rattle.shred.proofs.CallerLemmas.{accepted-changes, dispatch-turns, left-means, means-within, one-local, right-means, system-means, turn-of-one}
use Rattle.shred_tests.specs.declared.bundled.Advance.{Advance}
use Rattle.shred_tests.specs.declared.sides.Win.{Win}
use Rattle.shred_tests.specs.declared.values.Score.{Score}
use Rattle.shred_tests.specs.declared.values.Value.{Value}
use Rattle.shred_tests.specs.declared.values.Value.TheVariants.{ScoreValue}
use Rattle.shred_tests.specs.Chores.{score_id, Moves, Scores}
use Rattle.shred_tests.specs.Sides.{Sided, advancing, winning, sides_staged, AreSides, GoesRound, score_with_one}
use Rattle.shred_tests.proofs.ThreeLemmas.{moves-held}

-- a value that is put where another was taken out
put-again : (seen : Holding Value) (id : ResourceId) (v : Value) → with_slot (with_slot seen id out) id (owned v) ≡ with_values ((id, v) ∷ []) seen
put-again seen id v = fun_ext (λ q. by q (same_id q id))
  where
    by : (q : ResourceId) (s : Bool) → (if s then owned v else (if s then out else seen q)) ≡ (if s then owned v else seen q)
    by q true = refl
    by q false = refl

module _ {B : Type 0} (score_of : B → Score) (lack : Holding Value → Option ResourceId) where
  abbrev takes : Holding Value → Holding Value
  takes w = with_slot w score_id out

  abbrev fits : B → Holding Value → Type 0
  fits bundle w = w score_id ≡ owned (ScoreValue (score_of bundle))

  abbrev gives : B → Holding Value → Holding Value
  gives bundle w = with_slot w score_id (owned (ScoreValue (score_of bundle)))

  abbrev becomes : Win → B → Holding Value → Option Stop → Win → B → Type 0
  becomes change bundle held refused change_after changed = (refused ≡ None) × (score_of changed ≡ score_with_one (score_of bundle))

  -- a bundle of the score that was fetched, raised and given back
  pub win-scores : (win win_after : Win) (seen after : Holding Value) → BundleMeets lack takes fits gives becomes win seen None win_after after → Scores seen after
  win-scores win win_after seen after meets =
      let changes = accepted-changes takes fits gives becomes lack win win_after seen after meets in
      record {
        score = score_of changes.bundle;
        was = changes.fits_seen;
        leaves = changes.given_back ∙ (put-again seen score_id (ScoreValue (score_of changes.changed)) ∙ ap (λ score. with_values ((score_id, ScoreValue score) ∷ []) seen) changes.becoming.1);
      }

module _ (advances : Advance → Holding Value → Option Stop → Advance → Holding Value → Type 0) (wins : Win → Holding Value → Option Stop → Win → Holding Value → Type 0)
    (batch_meets : Batched (Either Advance Win) NoBatch → Holding Value → Option Stop → Batched (Either Advance Win) NoBatch → Holding Value → Type 0)
    (moves : (advance left : Advance) (seen after : Holding Value) → advances advance seen None left after → Moves seen after) (scores : (win left : Win) (seen after : Holding Value) → wins win seen None left after → Scores seen after) where
  abbrev meets : Sided → Holding Value → Option Stop → Sided → Holding Value → Type 0
  meets = WorkMeets (EitherDoes advances wins) batch_meets

  turns-round : (one : Advance) (other : Win) (before after : State Value Sided) → before.systems ≡ (sides_staged one other).systems → TakeTurns meets (advancing ∷ winning ∷ []) before after
      → (first : Holding Value) × Moves before.held first × Scores first after.held
  turns-round one other before after are (between, turn, (last, turn2, same)) =
      let m = turn-of-one _ advances meets (means-within advances (EitherDoes advances wins) meets Left System (left-means advances wins) (system-means (EitherDoes advances wins) batch_meets))
      one advancing before between None (ap (λ systems. slice_get systems 0) are) turn in
      let later : between.systems ≡ System (Left m.left) ∷ System (Right other) ∷ [] = m.systems ∙ ap (λ systems. slice_set systems 0 (System (Left m.left))) are in
      let s = turn-of-one _ wins meets (means-within wins (EitherDoes advances wins) meets Right System (right-means advances wins) (system-means (EitherDoes advances wins) batch_meets))
      other winning between last None (ap (λ systems. slice_get systems 1) later) turn2 in
      let moved = moves one m.left _ m.step.after m.step.runs in
      let scored = scores other s.left _ s.step.after s.step.runs in
      let P : State Value Sided → Type 0 = λ state. (first : Holding Value) × Moves before.held first × Scores first state.held in
      subst P (sym same) (
        between.held,
        moves-held before.held between.held m.step.after moved (step-lifted advances advancing.reads advancing.writes one m.left before.held between.held None m.step),
        record {
          score = scored.score;
          was = lent-owned [] (score_id ∷ []) between.held score_id refl (ScoreValue scored.score) scored.was;
          leaves = step-lifted wins winning.reads winning.writes other s.left between.held last.held None s.step ((score_id, ScoreValue (score_with_one scored.score)) ∷ []) scored.leaves;
        },
      )

  pub dispatch-goes-round : (before after : Dispatching Sided Advance) (w w_after : Holding Value) (result : Result Unit DispatchError) → AreSides before
      → DispatchesInAnyOrder meets advances before w result after w_after → OnOk result (GoesRound w w_after)
  dispatch-goes-round before after w w_after (Err error) sides did = tt
  dispatch-goes-round before after w w_after (Ok a) sides did =
      let ran = dispatch-turns meets advances before after w w_after (Ok a) did in
      let P : Staging Sided → Type 0 = λ staging. TakeTurns meets (plan_order staging.planning.stages) (record { systems = before.staging.systems; held = w }) (record { systems = after.staging.systems; held = ran.w_between }) in
      let round = turns-round sides.one sides.other _ _ (ap (λ staging. staging.systems) sides.staging) (subst P sides.staging ran.turns) in
      let last = one-local advances ran.w_between w_after before.locals after.locals sides.last sides.locals ran.locals in
      (round.0, ran.w_between, round.1, round.2, moves sides.last last.0 ran.w_between w_after last.2)
