-- What a dispatch of a colony comes to: each system's turn, told of all that is held.
use Rattle.std.proofs.Common.{◌≡◌, ℕ, List, [], ◌∷◌, Option, None, Ok, refl, sym, ap, subst, ◌∙◌}
use Rattle.std.specs.Prelude.{slice_get, slice_set}
use Rattle.specs.specs.ForStorages.{Births}
use Rattle.specs.specs.ForSystems.{Batched, Dispatching, DispatchesInAnyOrder, Either, EitherDoes, Left, NoBatch, Right, Staging, State, Step, Stop, System, TakeTurns, WorkMeets, plan_order}
use Rattle.specs.specs.ForWorlds.{Holding, id_of, out, with_slot}
use Rattle.specs.proofs.CallerLemmas.{dispatch-turns, left-means, lent-read, means-within, one-local, right-means, system-means, turn-of-one, turn-lifted}
use Rattle.colony.specs.Frames.{Ask, Dispatches, End, IsColony, Move, Staged, asking, moving, three_staged}
use Rattle.colony.specs.Systems.{Ends, Moves}
use Rattle.std.specs.Option.{option_and_then}
use Rattle.colony.specs.Values.{Positions, velocity_part}
use Rattle.colony.specs.declared.systems.Asking.{Asking}
use Rattle.colony.specs.declared.systems.Ending.{Ending}
use Rattle.colony.specs.declared.systems.Moving.{Moving}
use Rattle.colony.specs.declared.values.Value.{Value}

-- what was read beside what was out was read of all that is held
pub moves-there : (seen : Holding Value) (was now : Positions) → Moves was (with_slot seen (id_of 2 0) out) now → Moves was seen now
moves-there seen was now m = record { velocities = m.velocities; read = m.read; parts = m.parts }

pub ends-there : (seen : Holding Value) (was now : Births) → Ends was (with_slot seen (id_of 0 0) out) now → Ends was seen now
ends-there seen was now e = record { positions = e.positions; goals = e.goals; read_positions = e.read_positions; read_goals = e.read_goals; same = e.same; accepted = e.accepted }

module _ (moves : Moving → Holding Value → Option Stop → Moving → Holding Value → Type 0) (asks : Asking → Holding Value → Option Stop → Asking → Holding Value → Type 0) (ends : Ending → Holding Value → Option Stop → Ending → Holding Value → Type 0)
    (batch_meets : Batched (Either Moving Asking) NoBatch → Holding Value → Option Stop → Batched (Either Moving Asking) NoBatch → Holding Value → Type 0)
    (moving-turns : (moving left : Moving) (seen after : Holding Value) → moves moving seen None left after → Move seen after) (asking-turns : (asking left : Asking) (seen after : Holding Value) → asks asking seen None left after → Ask seen after)
    (ending-turns : (ending left : Ending) (w after : Holding Value) → ends ending w None left after → End w after) where
  abbrev meets : Staged → Holding Value → Option Stop → Staged → Holding Value → Type 0
  meets = WorkMeets (EitherDoes moves asks) batch_meets

  moved : (number : ℕ) (after : List ℕ) (left : Moving) (w w_after : Holding Value) → Step moves (moving number after).reads (moving number after).writes (record {}) w None left w_after → Move w w_after
  moved number after left w w_after step =
      turn-lifted (moving number after).reads moves (record {}) left w w_after refl
      (λ was now m. record { velocities = m.velocities; read = sym (ap (option_and_then velocity_part) (lent-read (moving number after).reads (moving number after).writes w (id_of 3 0) refl refl)) ∙ m.read; parts = m.parts }) step (moving-turns (record {}) left _ step.after step.runs)

  turns-three : (before after : State Value Staged) → before.systems ≡ three_staged.systems → TakeTurns meets (moving 0 [] ∷ asking ∷ moving 2 (1 ∷ []) ∷ []) before after
      → (after.systems ≡ three_staged.systems) × (first second : Holding Value) × Move before.held first × Ask first second × Move second after.held
  turns-three before after are (one, turn, (two, turn2, (three, turn3, same))) =
      let of_left = means-within moves (EitherDoes moves asks) meets Left System (left-means moves asks) (system-means (EitherDoes moves asks) batch_meets) in
      let of_right = means-within asks (EitherDoes moves asks) meets Right System (right-means moves asks) (system-means (EitherDoes moves asks) batch_meets) in
      let m = turn-of-one _ moves meets of_left (record {}) (moving 0 []) before one None (ap (λ systems. slice_get systems 0) are) turn in
      let one_are : one.systems ≡ three_staged.systems = m.systems ∙ ap (λ systems. slice_set systems 0 (System (Left m.left))) are in
      let a = turn-of-one _ asks meets of_right (record {}) asking one two None (ap (λ systems. slice_get systems 1) one_are) turn2 in
      let two_are : two.systems ≡ three_staged.systems = a.systems ∙ ap (λ systems. slice_set systems 1 (System (Right a.left))) one_are in
      let n = turn-of-one _ moves meets of_left (record {}) (moving 2 (1 ∷ [])) two three None (ap (λ systems. slice_get systems 2) two_are) turn3 in
      let three_are : three.systems ≡ three_staged.systems = n.systems ∙ ap (λ systems. slice_set systems 2 (System (Left n.left))) two_are in
      let P : State Value Staged → Type 0 = λ state. (state.systems ≡ three_staged.systems) × (first second : Holding Value) × Move before.held first × Ask first second × Move second state.held in
      subst P (sym same) (
        three_are,
        one.held,
        two.held,
        moved 0 [] m.left before.held one.held m.step,
        turn-lifted [] asks (record {}) a.left one.held two.held refl (λ _ _ is. is) a.step (asking-turns (record {}) a.left _ a.step.after a.step.runs),
        moved 2 (1 ∷ []) n.left two.held three.held n.step,
      )

  -- what an accepted dispatch comes to
  pub dispatched : (before after : Dispatching Staged Ending) (w w_after : Holding Value) (a : Unit {0}) → IsColony before → DispatchesInAnyOrder meets ends before w (Ok a) after w_after
      → (after.staging.systems ≡ three_staged.systems) × (after.locals ≡ record {} ∷ []) × Dispatches w w_after
  dispatched before after w w_after a is did =
      let ran = dispatch-turns meets ends before after w w_after (Ok a) did in
      let P : Staging Staged → Type 0 = λ staging. TakeTurns meets (plan_order staging.planning.stages) (record { systems = before.staging.systems; held = w }) (record { systems = after.staging.systems; held = ran.w_between }) in
      let three = turns-three _ _ (ap (λ staging. staging.systems) is.staging) (subst P is.staging ran.turns) in
      let last = one-local ends ran.w_between w_after before.locals after.locals (record {}) is.locals ran.locals in
      (three.0, last.1, (three.1, three.2, ran.w_between, three.3, three.4, three.5, ending-turns (record {}) last.0 ran.w_between w_after last.2))
