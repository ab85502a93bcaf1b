-- A dispatch of the systems that a dispatcher of a scene holds: what comes of it, and what stays.
use Rattle.std.proofs.Common.{◌≡◌, ℕ, ◌+◌, List, ◌++◌, length, map, Option, Some, refl, ap, sym, ◌∙◌, subst}
use Rattle.std.specs.Prelude.{Result, Ok, Err, slice_get}
use Rattle.std.specs.Option.{unwrap_or}
use Rattle.shred_world.specs.Bundles.{Holding}
use Rattle.shred_plan.specs.Plan.{Planning}
use Rattle.shred_world.specs.declared.resource_id.ResourceId.{ResourceId}
use Rattle.shred_stages.specs.declared.stop.Stop.{Stop}
use Rattle.shred_stages.specs.declared.error.DispatchError.{DispatchError}
use Rattle.shred_stages.specs.declared.error.DispatchError.TheVariants.{System, Local, Memory, Threads}
use Rattle.shred.specs.declared.work.Work.{Work}
use Rattle.shred.specs.Works.{WorkMeets}
use Rattle.shred.specs.Dispatching.{Dispatching, DispatchesAll}
use Rattle.scene_model.specs.Rulebook.{Book}
use Rattle.scene_model.specs.Scenes.{PlainSystem}
use Rattle.scene_world.specs.Standing.{Kinds, seen_in, plain_of, IsWhole}
use Rattle.scene_world.specs.Turns.{Meaning, TakesTurn}
use Rattle.scene_world.specs.Chains.{plan_order}
use Rattle.scene_dispatch.specs.Works.{systems_in}
use Rattle.scene_dispatch.specs.Orders.{nobody, plain_at, positions_of, turn_order}
use Rattle.scene_dispatch.specs.Lent.{PlanIsThere, EachIsLent}
use Rattle.scene_dispatch.specs.Held.{dispatching_in, AreHeld}
use Rattle.scene_dispatch.specs.Frames.{position_at, cause_of, AreRefused, AreReady, HaveTakenTurns}
use Rattle.scene_dispatch.proofs.LocalLemmas.{TakesOwn}
use Rattle.scene_dispatch.proofs.DispatchLemmas.{Stays, RunsWhole, dispatch-whole}
use Rattle.scene_dispatch.proofs.LentLemmas.{plan-refuser}
use Rattle.scene_dispatch.proofs.ComeLemmas.{meant, position-there, staged-meant, behind-meant, all-come, one-stops}

-- what comes of systems whose dispatch ended so
abbrev pub Answered : {V P A : Type 0} → Kinds V → Meaning P → Book → (positions local_positions : List ℕ) → Dispatching P P → Holding V → Result A DispatchError → Dispatching P P → Holding V → Type 0
Answered kinds meaning book positions local_positions before w (Ok a) after w_after = HaveTakenTurns kinds meaning book before w after w_after
Answered kinds meaning book positions local_positions before w (Err error) after w_after = AreRefused book (turn_order meaning.plain before) (plain_of kinds (seen_in w)) (cause_of positions local_positions error)

module _ {V P B L A : Type 0} (kinds : Kinds V) (meaning : Meaning P) (book : Book) (batch_meets : B → Holding V → Option Stop → B → Holding V → Type 0) (placed : L → P)
    (positions local_positions : List ℕ) (before after : Dispatching (Work P B) L) (held : AreHeld kinds meaning.plain before.staging (map placed before.locals) positions local_positions)
    (w w_after : Holding V) (result : Result A DispatchError) (all : DispatchesAll (WorkMeets (TakesTurn kinds meaning) batch_meets) (TakesOwn kinds (TakesTurn kinds meaning) meaning.plain placed) before w result after w_after) where
  whole-run : Stays kinds (TakesTurn kinds meaning) batch_meets meaning.plain (λ system left seen later refused turn. turn.same) placed before after
      × RunsWhole kinds (TakesTurn kinds meaning) batch_meets meaning.plain (λ system left seen later refused turn. turn.same) placed before w result after w_after
  whole-run = dispatch-whole kinds (TakesTurn kinds meaning) batch_meets meaning.plain (λ system left seen later refused turn. turn.same) placed before after w w_after result held.no_batch all

  -- what is held stays so
  pub still-held : AreHeld kinds meaning.plain after.staging (map placed after.locals) positions local_positions
  still-held = record {
    no_batch = whole-run.0.no_batch;
    lent = subst (λ l. PlanIsThere kinds l after.staging.planning.stages) (sym whole-run.0.staged)
        (subst (λ (p : Planning ResourceId). PlanIsThere kinds (map meaning.plain (systems_in before.staging.systems)) p.stages) (sym whole-run.0.plan) held.lent);
    local_lent = subst (EachIsLent kinds) (sym whole-run.0.locals) held.local_lent;
    positions = held.positions ∙ ap positions_of (sym whole-run.0.staged);
    local_positions = held.local_positions ∙ ap positions_of (sym whole-run.0.locals);
  }

  -- and the order of the turns
  pub same-order : turn_order meaning.plain (dispatching_in placed after) ≡ turn_order meaning.plain (dispatching_in placed before)
  same-order =
      ap (λ (p : Planning ResourceId). plan_order (plain_at (map meaning.plain (systems_in after.staging.systems))) p.stages ++ map meaning.plain (map placed after.locals)) whole-run.0.plan
      ∙ ap (λ l. plan_order (plain_at l) before.staging.planning.stages ++ map meaning.plain (map placed after.locals)) whole-run.0.staged
      ∙ ap (λ l. plan_order (plain_at (map meaning.plain (systems_in before.staging.systems))) before.staging.planning.stages ++ l) whole-run.0.locals

  -- what comes of it
  module _ (whole : IsWhole w) (ready : AreReady kinds meaning book (dispatching_in placed before) w) where
    pub answer-comes : Answered kinds meaning book positions local_positions (dispatching_in placed before) w result (dispatching_in placed after) w_after
    answer-comes = by result whole-run.1
      where
        staged_at : (number : ℕ) (system : PlainSystem) → slice_get (map meaning.plain (systems_in before.staging.systems)) number ≡ Some system
            → position_at positions number ≡ (meant kinds meaning book (dispatching_in placed before) held.lent held.local_lent number).position
        staged_at number system is =
            ap (λ l. position_at l number) held.positions ∙ position-there (map meaning.plain (systems_in before.staging.systems)) number
            ∙ ap (λ (o : Option PlainSystem). (unwrap_or {T = PlainSystem} o nobody).position) is
            ∙ sym (ap (λ (p : PlainSystem). p.position) (staged-meant kinds meaning book (dispatching_in placed before) held.lent held.local_lent number system is))

        local_at : (place : ℕ) → position_at local_positions place ≡ (meant kinds meaning book (dispatching_in placed before) held.lent held.local_lent (length (systems_in before.staging.systems) + place)).position
        local_at place =
            ap (λ l. position_at l place) held.local_positions ∙ position-there (map meaning.plain (map placed before.locals)) place
            ∙ sym (ap (λ (p : PlainSystem). p.position) (behind-meant kinds meaning book (dispatching_in placed before) held.lent held.local_lent place))

        by : (r : Result A DispatchError) → RunsWhole kinds (TakesTurn kinds meaning) batch_meets meaning.plain (λ system left seen later refused turn. turn.same) placed before w r after w_after
            → Answered kinds meaning book positions local_positions (dispatching_in placed before) w r (dispatching_in placed after) w_after
        by (Ok a) runs = all-come kinds meaning book (dispatching_in placed before) held.lent held.local_lent w whole ready (dispatching_in placed after) w_after runs
        by (Err (System id why)) runs =
            let there = plan-refuser kinds (map meaning.plain (systems_in before.staging.systems)) (TakesTurn kinds meaning) before.staging.planning.stages held.lent _ _ (Some (id.0, why)) (id.0, why) refl runs.0 in
            one-stops kinds meaning book (dispatching_in placed before) held.lent held.local_lent w whole ready id.0 _ why _ (staged_at id.0 there.0 there.1) runs.1
        by (Err (Local place why)) runs =
            one-stops kinds meaning book (dispatching_in placed before) held.lent held.local_lent w whole ready (length (systems_in before.staging.systems) + place) _ why _ (local_at place) runs
        by (Err Memory) runs = tt
        by (Err Threads) runs = tt
