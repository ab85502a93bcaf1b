-- What a dispatch and a merge come to, entity by entity.
use Rattle.std.proofs.Common.{◌≡◌, ℕ, eqb, List, [], ◌∷◌, refl, ap, sym, ◌∙◌, subst, Bool, true, false, cond, ◌&&◌, ◌||◌, Option, Some, None, is_some, Result, Ok, Err, OnOk, IfOk}
use Rattle.std.specs.Prelude.{slice_get, slice_set}
use Rattle.std.specs.List.{list_any}
use Rattle.std.specs.Option.{option_and_then, option_flatten}
use Rattle.std.specs.FinMap.{get}
use Rattle.std.specs.FinSet as fin
use Rattle.std.proofs.lemmas.Option.{same_Some}
use Rattle.specs.specs.ForWorlds.{ResourceId, same_id, id_of, Slots}
use Rattle.specs.specs.ForWorlds.{Slot, absent, out, shared, owned, Holding, holding_of, readable, slot_of}
use Rattle.specs.specs.ForSystems.{Placing, plan_order, Stop, DispatchError, cut, with_values, State, Turn, Staging}
use Rattle.specs.specs.ForSystems.{RunsUpToOrder, TakeTurns, Work, System, NoBatch, NoLocal, Batched, LocalsRun, WorkMeets}
use Rattle.specs.proofs.CallerLemmas.{lent-owned, lent-read, same-itself, step-lifted, turn-of, turns-in-any-order}
use Rattle.specs.specs.ForSystems.{Dispatching, DispatchesInAnyOrder}
use Rattle.simulation.specs.declared.steps.Step.{Step}
use Rattle.simulation.specs.declared.steps.Step.TheVariants.{Movement, Reaping}
use Rattle.simulation.specs.declared.values.Value.{Value}
use Rattle.simulation.specs.declared.values.Value.TheVariants.{EntitiesValue, TableValue, PositionValue, VelocityValue}
use Rattle.simulation.specs.Steps.{births_id, table_id, position_id, velocity_id, Moves, Reaps, Does, StepMeets}
use Rattle.simulation.specs.Frames.{moving, reaping, two_staged, IsTwo, MovesAndReaps}

abbrev Staged : Type 0
Staged = Work Step (Batched Step NoBatch)

module _ (batch_meets : Batched Step NoBatch → Holding Value → Option Stop → Batched Step NoBatch → Holding Value → Type 0) where
  abbrev meets : Staged → Holding Value → Option Stop → Staged → Holding Value → Type 0
  meets = WorkMeets StepMeets batch_meets

  -- what one of them did to what it was lent
  record Did (step : Step) (one : Placing ResourceId) (before after : State Value Staged) : Type 0 where
    pub systems : after.systems ≡ slice_set before.systems one.number (System step)
    pub left : Holding Value
    pub does : Does step (cut one.reads one.writes before.held) left
    pub lifts : (changes : List (ResourceId × Value)) → left ≡ with_values changes (cut one.reads one.writes before.held) → after.held ≡ with_values changes before.held

  did : (step : Step) (one : Placing ResourceId) (before after : State Value Staged) → slice_get before.systems one.number ≡ Some (System step) → Turn meets one before None after → Did step one before after
  did step one before after there turn =
      let t = turn-of meets one before after None turn in
      let is : t.system ≡ System step = same_Some t.system (System step) (sym t.there ∙ there) in
      let P : Staged → Type 0 = λ system. meets system (cut one.reads one.writes before.held) None t.left t.step.after in
      let runs = subst P is t.step.runs in
      record {
        systems = t.put ∙ ap (λ system. slice_set before.systems one.number system) (runs.1 ∙ ap System runs.2.0);
        left = t.step.after;
        does = runs.2.1;
        lifts = step-lifted meets one.reads one.writes t.system t.left before.held after.held None t.step;
      }

  -- the same of what is held
  moves : (before after : State Value Staged) → Did Movement moving before after → Moves before.held after.held
  moves before after d = record {
    positions = d.does.positions;
    velocities = d.does.velocities;
    after = d.does.after;
    written = lent-owned moving.reads moving.writes before.held position_id refl (PositionValue d.does.positions) d.does.written;
    read = sym (lent-read moving.reads moving.writes before.held velocity_id refl refl) ∙ d.does.read;
    parts = d.does.parts;
    others = d.lifts ((position_id, PositionValue d.does.after) ∷ []) d.does.others;
  }

  reaps : (before after : State Value Staged) → Did Reaping reaping before after → Reaps before.held after.held
  reaps before after d = record {
    births = d.does.births;
    positions = d.does.positions;
    after = d.does.after;
    written = lent-owned reaping.reads reaping.writes before.held births_id refl (EntitiesValue d.does.births) d.does.written;
    read = sym (lent-read reaping.reads reaping.writes before.held position_id refl refl) ∙ d.does.read;
    accepts = d.does.accepts;
    others = d.lifts ((births_id, EntitiesValue d.does.after) ∷ []) d.does.others;
  }

  -- both, one after the other, and each stays what it is
  record Turned (before after : State Value Staged) : Type 0 where
    pub systems : after.systems ≡ two_staged.systems
    pub does : MovesAndReaps before.held after.held

  turns-turn : (before after : State Value Staged) → before.systems ≡ two_staged.systems → TakeTurns meets (moving ∷ reaping ∷ []) before after → Turned before after
  turns-turn before after two (first, turn, (second, turn2, same)) =
      let m = did Movement moving before first (ap (λ systems. slice_get systems 0) two) turn in
      let first_is : first.systems ≡ two_staged.systems = m.systems ∙ ap (λ systems. slice_set systems 0 (System Movement)) two in
      let r = did Reaping reaping first second (ap (λ systems. slice_get systems 1) first_is) turn2 in
      let second_is : second.systems ≡ two_staged.systems = r.systems ∙ ap (λ systems. slice_set systems 1 (System Reaping)) first_is in
      let Q : State Value Staged → Type 0 = λ state. Turned before state in
      subst Q (sym same) (record { systems = second_is; does = (first.held, moves before first m, reaps first second r) })

  module _ (local_meets : NoLocal → Holding Value → Option Stop → NoLocal → Holding Value → Type 0) where
    turned : (before after : Dispatching Staged NoLocal) (w w_between : Holding Value) → IsTwo before
        → RunsUpToOrder meets (plan_order before.staging.planning.stages) (record { systems = before.staging.systems; held = w }) (record { systems = after.staging.systems; held = w_between })
        → Turned (record { systems = before.staging.systems; held = w }) (record { systems = after.staging.systems; held = w_between })
    turned before after w w_between two steps =
        let P : Staging Staged → Type 0 = λ staging. RunsUpToOrder meets (plan_order staging.planning.stages) (record { systems = before.staging.systems; held = w }) (record { systems = after.staging.systems; held = w_between }) in
        turns-turn _ _ (ap (λ staging. staging.systems) two.staging)
        (turns-in-any-order meets (moving ∷ reaping ∷ []) (moving ∷ reaping ∷ []) _ _ (subst P two.staging steps) (same-itself same_id (moving ∷ reaping ∷ [])))

    -- a dispatch that is accepted moves and reaps
    pub dispatch-moves : (before after : Dispatching Staged NoLocal) (w w_after : Holding Value) (result : Result Unit DispatchError) → IsTwo before
        → DispatchesInAnyOrder meets local_meets before w result after w_after → OnOk result (MovesAndReaps w w_after)
    dispatch-moves before after w w_after (Err error) two did = tt
    dispatch-moves before after w w_after (Ok a) two did =
        let L : List NoLocal → Type 0 = λ locals. LocalsRun local_meets 0 locals did.w_between None after.locals w_after in
        let none = subst L two.locals did.locals in
        let Q : Holding Value → Type 0 = λ held. MovesAndReaps w held in
        subst Q (sym none.2) (turned before after w did.w_between two did.steps).does
