-- What the turns of three systems come to.
use Rattle.std.proofs.Common.{◌≡◌, ℕ, List, [], ◌∷◌, refl, ap, sym, ◌∙◌, subst, Option, Some, None, Result, Ok, Err}
use Rattle.std.specs.Prelude.{slice_get, slice_set, IfOk, OnOk}
use Rattle.std.proofs.lemmas.Option.{same_Some}
use Rattle.shred_world.specs.declared.resource_id.ResourceId.{ResourceId}
use Rattle.shred_world.specs.ResourceIds.{same_id}
use Rattle.shred_world.specs.Bundles.{owned, Holding, readable}
use Rattle.shred_plan.specs.Plan.{Placing, plan_order}
use Rattle.shred_stages.specs.declared.stop.Stop.{Stop}
use Rattle.shred_stages.specs.declared.error.DispatchError.{DispatchError}
use Rattle.shred_stages.specs.Views.{cut, error_of}
use Rattle.shred_stages.specs.Changes.{with_values}
use Rattle.shred_stages.specs.Runs.{Step, State, Turn, StagesRun}
use Rattle.shred_stages.specs.Staging.{Staging, Runs}
use Rattle.shred_stages.specs.Orders.{SameUpToOrder, RunsUpToOrder, RunsInAnyOrder, TakeTurns}
use Rattle.shred_stages.proofs.CallerLemmas.{lent-owned, lent-read, same-itself, same-turned, stages-turns, step-lifted, turn-of, turns-in-any-order, turns-in-order}
use Rattle.shred.specs.declared.work.Work.{Work}
use Rattle.shred.specs.declared.work.Work.TheVariants.{System}
use Rattle.shred.specs.declared.nothing.NoBatch.{NoBatch}
use Rattle.shred.specs.declared.nothing.NoLocal.{NoLocal}
use Rattle.shred.specs.Batches.{Batched}
use Rattle.shred.specs.Locals.{LocalsRun}
use Rattle.shred.specs.Works.{WorkMeets}
use Rattle.shred.specs.Dispatching.{Dispatching, DispatchesInAnyOrder}
use Rattle.shred_tests.specs.declared.chores.Chore.{Chore}
use Rattle.shred_tests.specs.declared.chores.Chore.TheVariants.{Moving, Scoring, Hastening}
use Rattle.shred_tests.specs.declared.values.Value.{Value}
use Rattle.shred_tests.specs.declared.values.Value.TheVariants.{NumberValue, SpeedValue, ScoreValue}
use Rattle.shred_tests.specs.Chores.{number_id, speed_id, score_id, sum_of, Moves, Scores, Hastens, Does, ChoreMeets}
use Rattle.shred_tests.specs.Threes.{moving, scoring, hastening, three_staged, IsThree, Turned}
use Rattle.shred_tests.specs.Values.{count_of}

abbrev pub Staged : Type 0
Staged = Work Chore (Batched Chore NoBatch)

pub moves-held : (w w_after left : Holding Value) → Moves (cut (speed_id ∷ []) (number_id ∷ []) w) left
    → ((changes : List (ResourceId × Value)) → left ≡ with_values changes (cut (speed_id ∷ []) (number_id ∷ []) w) → w_after ≡ with_values changes w) → Moves w w_after
moves-held w w_after left does lifts = record {
  number = does.number;
  speed = does.speed;
  was = lent-owned (speed_id ∷ []) (number_id ∷ []) w number_id refl (NumberValue does.number) does.was;
  read = sym (lent-read (speed_id ∷ []) (number_id ∷ []) w speed_id refl refl) ∙ does.read;
  leaves = lifts ((number_id, NumberValue (record { 0 = sum_of does.number.0 does.speed.0 })) ∷ []) does.leaves;
}

-- one of them alone, over what is held
pub moves-alone : (w w_after : Holding Value) (chore_after : Chore) (outcome : Result Unit Stop) → Step ChoreMeets (speed_id ∷ []) (number_id ∷ []) Moving w (error_of outcome) chore_after w_after → OnOk outcome (Moves w w_after)
moves-alone w w_after chore_after (Err stop) step = tt
moves-alone w w_after chore_after (Ok a) step = moves-held w w_after step.after step.runs.1 (step-lifted ChoreMeets (speed_id ∷ []) (number_id ∷ []) Moving chore_after w w_after None step)

pub alone-moves : {E : Type 0} (w w_after : Holding Value) (chore_after : Chore) (result : Result (Result Unit Stop) E)
    → IfOk result (λ outcome. Step ChoreMeets (speed_id ∷ []) (number_id ∷ []) Moving w (error_of outcome) chore_after w_after) → IfOk result (λ outcome. OnOk outcome (Moves w w_after))
alone-moves w w_after chore_after (Err error) step = tt
alone-moves w w_after chore_after (Ok outcome) step = moves-alone w w_after chore_after outcome step

-- along the list of the plan, and with its first two turned
pub in-order : SameUpToOrder same_id (moving ∷ scoring ∷ hastening ∷ []) (moving ∷ scoring ∷ hastening ∷ [])
in-order = same-itself same_id (moving ∷ scoring ∷ hastening ∷ [])

pub other-way : SameUpToOrder same_id (moving ∷ scoring ∷ hastening ∷ []) (scoring ∷ moving ∷ hastening ∷ [])
other-way = same-turned same_id moving scoring (hastening ∷ []) refl []

module _ (batch_meets : Batched Chore NoBatch → Holding Value → Option Stop → Batched Chore NoBatch → Holding Value → Type 0) where
  abbrev pub meets : Staged → Holding Value → Option Stop → Staged → Holding Value → Type 0
  meets = WorkMeets ChoreMeets batch_meets

  -- what one of them did to what it was lent
  pub record Did (chore : Chore) (one : Placing ResourceId) (before after : State Value Staged) : Type 0 where
    pub systems : after.systems ≡ slice_set before.systems one.number (System chore)
    pub left : Holding Value
    pub does : Does chore (cut one.reads one.writes before.held) left
    pub lifts : (changes : List (ResourceId × Value)) → left ≡ with_values changes (cut one.reads one.writes before.held) → after.held ≡ with_values changes before.held

  pub did : (chore : Chore) (one : Placing ResourceId) (before after : State Value Staged) → slice_get before.systems one.number ≡ Some (System chore) → Turn meets one before None after → Did chore one before after
  did chore one before after there turn =
      let t = turn-of meets one before after None turn in
      let is : t.system ≡ System chore = same_Some t.system (System chore) (sym t.there ∙ there) in
      let P : Staged → Type 0 = λ system. meets system (cut one.reads one.writes before.held) None t.left t.step.after in
      let runs = subst P is t.step.runs in
      record {
        systems = t.put ∙ ap (λ system. slice_set before.systems one.number system) (runs.1 ∙ ap System runs.2.0);
        left = t.step.after;
        does = runs.2.1;
        lifts = step-lifted meets one.reads one.writes t.system t.left before.held after.held None t.step;
      }

  -- the same of what is held
  pub moves : (before after : State Value Staged) → Did Moving moving before after → Moves before.held after.held
  moves before after d = moves-held before.held after.held d.left d.does d.lifts

  scores : (before after : State Value Staged) → Did Scoring scoring before after → Scores before.held after.held
  scores before after d = record {
    score = d.does.score;
    was = lent-owned [] (score_id ∷ []) before.held score_id refl (ScoreValue d.does.score) d.does.was;
    leaves = d.lifts ((score_id, ScoreValue (record { 0 = sum_of d.does.score.0 1 })) ∷ []) d.does.leaves;
  }

  hastens : (before after : State Value Staged) → Did Hastening hastening before after → Hastens before.held after.held
  hastens before after d = record {
    number = d.does.number;
    speed = d.does.speed;
    read = sym (lent-read (number_id ∷ []) (speed_id ∷ []) before.held number_id refl refl) ∙ d.does.read;
    was = lent-owned (number_id ∷ []) (speed_id ∷ []) before.held speed_id refl (SpeedValue d.does.speed) d.does.was;
    leaves = d.lifts ((speed_id, SpeedValue (record { 0 = sum_of d.does.speed.0 d.does.number.0 })) ∷ []) d.does.leaves;
  }

  -- all three, one after the other
  turned : (w w1 w2 w3 : Holding Value) → Moves w w1 → Scores w1 w2 → Hastens w2 w3 → Turned w w3
  turned w w1 w2 w3 m s h =
      let between : w2 ≡ with_values ((score_id, ScoreValue (record { 0 = sum_of s.score.0 1 })) ∷ (number_id, NumberValue (record { 0 = sum_of m.number.0 m.speed.0 })) ∷ []) w =
      s.leaves ∙ ap (with_values ((score_id, ScoreValue (record { 0 = sum_of s.score.0 1 })) ∷ [])) m.leaves in
      let speed_was : w speed_id ≡ owned (SpeedValue h.speed) = sym (ap (λ held. held speed_id) between) ∙ h.was in
      let speed_is : SpeedValue h.speed ≡ SpeedValue m.speed = same_Some (SpeedValue h.speed) (SpeedValue m.speed) (sym (ap readable speed_was) ∙ m.read) in
      let number_is : NumberValue h.number ≡ NumberValue (record { 0 = sum_of m.number.0 m.speed.0 }) =
      same_Some (NumberValue h.number) (NumberValue (record { 0 = sum_of m.number.0 m.speed.0 })) (sym h.read ∙ ap (λ held. readable (held number_id)) between) in
      let last : SpeedValue (record { 0 = sum_of h.speed.0 h.number.0 }) ≡ SpeedValue (record { 0 = sum_of m.speed.0 (sum_of m.number.0 m.speed.0) }) =
      ap (λ v. SpeedValue (record { 0 = sum_of (count_of v) h.number.0 })) speed_is ∙ ap (λ v. SpeedValue (record { 0 = sum_of m.speed.0 (count_of v) })) number_is in
      record {
        number = m.number;
        speed = m.speed;
        score = s.score;
        number_was = m.was;
        speed_was = speed_was ∙ ap owned speed_is;
        score_was = sym (ap (λ held. held score_id) m.leaves) ∙ s.was;
        leaves = h.leaves ∙ (ap (with_values ((speed_id, SpeedValue (record { 0 = sum_of h.speed.0 h.number.0 })) ∷ [])) between
            ∙ ap (λ v. with_values ((speed_id, v) ∷ (score_id, ScoreValue (record { 0 = sum_of s.score.0 1 })) ∷ (number_id, NumberValue (record { 0 = sum_of m.number.0 m.speed.0 })) ∷ []) w) last);
      }

  pub turns-turn : (before after : State Value Staged) → before.systems ≡ three_staged.systems → TakeTurns meets (moving ∷ scoring ∷ hastening ∷ []) before after → Turned before.held after.held
  turns-turn before after three (first, turn, (second, turn2, (third, turn3, same))) =
      let P : List Staged → ℕ → Staged → Type 0 = λ systems number system. slice_get systems number ≡ Some system in
      let m = did Moving moving before first (ap (λ systems. slice_get systems 0) three) turn in
      let first_is : first.systems ≡ three_staged.systems = m.systems ∙ ap (λ systems. slice_set systems 0 (System Moving)) three in
      let s = did Scoring scoring first second (ap (λ systems. slice_get systems 1) first_is) turn2 in
      let second_is : second.systems ≡ three_staged.systems = s.systems ∙ ap (λ systems. slice_set systems 1 (System Scoring)) first_is in
      let h = did Hastening hastening second third (ap (λ systems. slice_get systems 2) second_is) turn3 in
      let Q : State Value Staged → Type 0 = λ state. Turned before.held state.held in
      subst Q (sym same) (turned before.held first.held second.held third.held (moves before first m) (scores first second s) (hastens second third h))

  -- what a run in any order comes to along a list
  pub runs-along : (list : List (Placing ResourceId)) → SameUpToOrder same_id (moving ∷ scoring ∷ hastening ∷ []) list → (before after : Staging Staged) (w w_after : Holding Value) (result : Result Unit DispatchError)
      → before ≡ three_staged → RunsInAnyOrder meets before w result after w_after
      → OnOk result (TakeTurns meets list (record { systems = before.systems; held = w }) (record { systems = after.systems; held = w_after }))
  runs-along list alike before after w w_after (Err error) three runs = tt
  runs-along list alike before after w w_after (Ok a) three runs =
      let P : Staging Staged → Type 0 = λ staging. RunsUpToOrder meets (plan_order staging.planning.stages) (record { systems = before.systems; held = w }) (record { systems = after.systems; held = w_after }) in
      turns-in-any-order meets (moving ∷ scoring ∷ hastening ∷ []) list _ _ (subst P three runs) alike

  -- a run of the plan, stage by stage
  pub runs-turn : (before after : Staging Staged) (w w_after : Holding Value) (result : Result Unit DispatchError) → before ≡ three_staged → Runs meets before w result after w_after → OnOk result (Turned w w_after)
  runs-turn before after w w_after (Err error) three runs = tt
  runs-turn before after w w_after (Ok a) three (refused, told, runs) =
      let P : Staging Staged → Option (ℕ × Stop) → Type 0 = λ staging refused. StagesRun meets staging.planning.stages (record { systems = before.systems; held = w }) refused (record { systems = after.systems; held = w_after }) in
      turns-turn _ _ (ap (λ staging. staging.systems) three) (stages-turns meets three_staged.planning.stages _ _ (subst (λ staging. P staging None) three (subst (P before) told runs)))

  module _ (local_meets : NoLocal → Holding Value → Option Stop → NoLocal → Holding Value → Type 0) where
    pub dispatch-turns : (before after : Dispatching Staged NoLocal) (w w_after : Holding Value) (result : Result Unit DispatchError) → IsThree before
        → DispatchesInAnyOrder meets local_meets before w result after w_after → OnOk result (Turned w w_after)
    dispatch-turns before after w w_after (Err error) three did = tt
    dispatch-turns before after w w_after (Ok a) three did =
        let Q : Staging Staged → Type 0 = λ staging. RunsUpToOrder meets (plan_order staging.planning.stages) (record { systems = before.staging.systems; held = w }) (record { systems = after.staging.systems; held = did.w_between }) in
        let turns = turns-in-order meets (moving ∷ scoring ∷ hastening ∷ []) _ _ (subst Q three.staging did.steps) in
        let P : List NoLocal → Type 0 = λ locals. LocalsRun local_meets 0 locals did.w_between None after.locals w_after in
        let none = subst P three.locals did.locals in
        let R : Holding Value → Type 0 = λ held. Turned w held in
        subst R (sym none.2) (turns-turn _ _ (ap (λ staging. staging.systems) three.staging) turns)
