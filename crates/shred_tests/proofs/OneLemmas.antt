-- What the dispatch of one system comes to.
use Rattle.std.proofs.Common.{◌≡◌, ℕ, List, ap, sym, ◌∙◌, subst, Option, None, Result, Ok, Err}
use Rattle.std.specs.Prelude.{slice_get, OnOk}
use Rattle.shred_world.specs.Bundles.{Holding}
use Rattle.shred_stages.specs.declared.stop.Stop.{Stop}
use Rattle.shred_stages.specs.declared.error.DispatchError.{DispatchError}
use Rattle.shred_stages.specs.Runs.{StagesRun}
use Rattle.shred_stages.specs.Staging.{Staging}
use Rattle.shred_stages.proofs.CallerLemmas.{plan-turn}
use Rattle.shred.specs.declared.nothing.NoBatch.{NoBatch}
use Rattle.shred.specs.declared.nothing.NoLocal.{NoLocal}
use Rattle.shred.specs.Batches.{Batched}
use Rattle.shred.specs.Locals.{LocalsRun}
use Rattle.shred.specs.Dispatching.{Dispatching, DispatchesOnThreads, ThenLocals, DispatchesAll}
use Rattle.shred_tests.specs.declared.chores.Chore.{Chore}
use Rattle.shred_tests.specs.declared.chores.Chore.TheVariants.{Moving}
use Rattle.shred_tests.specs.declared.values.Value.{Value}
use Rattle.shred_tests.specs.Chores.{Moves}
use Rattle.shred_tests.specs.Threes.{moving}
use Rattle.shred_tests.specs.Ones.{IsOne, one_staged}
use Rattle.shred_tests.proofs.ThreeLemmas.{Staged, meets, did, moves}

module _ (batch_meets : Batched Chore NoBatch → Holding Value → Option Stop → Batched Chore NoBatch → Holding Value → Type 0)
    (local_meets : NoLocal → Holding Value → Option Stop → NoLocal → Holding Value → Type 0) where
  -- the plan ran, so its system took its turn
  staged-moves : (before after : Staging Staged) (w w_after : Holding Value) → before ≡ one_staged
      → StagesRun (meets batch_meets) before.planning.stages (record { systems = before.systems; held = w }) None (record { systems = after.systems; held = w_after }) → Moves w w_after
  staged-moves before after w w_after one runs =
      let P : Staging Staged → Type 0 = λ staging. StagesRun (meets batch_meets) staging.planning.stages (record { systems = before.systems; held = w }) None (record { systems = after.systems; held = w_after }) in
      moves batch_meets _ _ (did batch_meets Moving moving _ _ (ap (λ staging. slice_get staging.systems 0) one) (plan-turn (meets batch_meets) moving _ _ (subst P one runs)))

  pub dispatch-moves : (before after : Dispatching Staged NoLocal) (w w_after : Holding Value) (result : Result Unit DispatchError) → IsOne before
      → DispatchesAll (meets batch_meets) local_meets before w result after w_after → OnOk result (Moves w w_after)
  dispatch-moves before after w w_after (Err error) one all = tt
  dispatch-moves before after w w_after (Ok a) one all = by all.staged_result all.staged all.then_locals
    where
      moved : (b : Unit {0}) → DispatchesOnThreads (meets batch_meets) local_meets before w (Ok b) all.between all.w_between → Moves w all.w_between
      moved b staged = ran staged.runs
        where
          Ran : Option (ℕ × Stop) → Type 0
          Ran refused = StagesRun (meets batch_meets) before.staging.planning.stages (record { systems = before.staging.systems; held = w }) refused (record { systems = all.between.staging.systems; held = all.w_between })

          ran : (refused : Option (ℕ × Stop)) × (refused ≡ None) × Ran refused → Moves w all.w_between
          ran (refused, told, runs) = staged-moves before.staging all.between.staging w all.w_between one.staging (subst Ran told runs)

      by : (staged : Result Unit DispatchError) → DispatchesOnThreads (meets batch_meets) local_meets before w staged all.between all.w_between
          → ThenLocals (meets batch_meets) local_meets all.between all.w_between staged (Ok a) after w_after → Moves w w_after
      by (Err error) staged (told, _, _) = cc
      by (Ok b) staged later =
          let Locals : List NoLocal → Type 0 = λ locals. LocalsRun local_meets 0 locals all.w_between later.refused after.locals w_after in
          let none = subst Locals (staged.locals ∙ one.locals) later.runs in
          let Q : Holding Value → Type 0 = λ held. Moves w held in
          subst Q (sym none.2) (moved b staged)
