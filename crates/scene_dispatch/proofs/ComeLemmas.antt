-- What comes of a dispatch of placed systems over the world in which a scene stands.
use Rattle.std.proofs.Common.{◌≡◌, ℕ, ◌+◌, zero, suc, List, [], ◌∷◌, ◌++◌, length, map, Option, Some, None, refl, ap, sym, ◌∙◌, subst}
use Rattle.std.specs.Prelude.{slice_get}
use Rattle.std.specs.Option.{option_map, unwrap_or}
use Rattle.std.specs.String.{string_bytes}
use Rattle.std.proofs.lemmas.List.{map-append, length-map}
use Rattle.std.proofs.lemmas.Option.{slice_get-map}
use Rattle.shred_world.specs.declared.resource_id.ResourceId.{ResourceId}
use Rattle.shred_world.specs.Bundles.{Holding}
use Rattle.shred_plan.specs.Plan.{Stage}
use Rattle.shred_stages.specs.declared.stop.Stop.{Stop}
use Rattle.shred_stages.specs.declared.stop.Stop.TheVariants as stop
use Rattle.shred_stages.specs.Runs.{State, StagesRun}
use Rattle.shred.specs.Dispatching.{Dispatching}
use Rattle.scene_model.specs.Rulebook.{Book}
use Rattle.scene_model.specs.Scenes.{PlainSystem}
use Rattle.scene_model.specs.Frames.{SystemsRefuse}
use Rattle.scene_world.specs.Standing.{Kinds, seen_in, plain_of, IsWhole}
use Rattle.scene_world.specs.Turns.{Meaning, IsOfBook, TakesTurn}
use Rattle.scene_world.specs.Chains.{plan_order, PlanIsLent, IsReady, AreStopped, Comes}
use Rattle.scene_world.proofs.ChainLemmas.{plan-comes}
use Rattle.scene_dispatch.specs.Orders.{nobody, plain_at, positions_of, turn_order}
use Rattle.scene_dispatch.specs.Lent.{PlanIsThere, EachIsLent}
use Rattle.scene_dispatch.specs.Frames.{told_as, position_at, AreRefused, AreReady, HaveTakenTurns}
use Rattle.scene_dispatch.proofs.PlaceLemmas.{get-front, get-behind, all-at, at-all, both-at}
use Rattle.scene_dispatch.proofs.LocalLemmas.{group_of}
use Rattle.scene_dispatch.proofs.LentLemmas.{plan-lent, plan-same, each-lent, each-order, lent-append, order-append}

-- the position that is noted of a number is that of what is meant by it
pub position-there : (systems : List PlainSystem) (number : ℕ) → position_at (positions_of systems) number ≡ (plain_at systems number).position
position-there [] number = refl
position-there (system ∷ systems) zero = refl
position-there (system ∷ systems) (suc number) = position-there systems number

module _ {V P : Type 0} (kinds : Kinds V) (meaning : Meaning P) (book : Book) (systems : Dispatching P P)
    (lent : PlanIsThere kinds (map meaning.plain systems.staging.systems) systems.staging.planning.stages) (local_lent : EachIsLent kinds (map meaning.plain systems.locals)) where
  -- what is meant by a number: a staged system, or a local one behind them
  abbrev pub meant : ℕ → PlainSystem
  meant = plain_at (map meaning.plain systems.staging.systems ++ map meaning.plain systems.locals)

  -- the plan with the local systems as its last stage
  abbrev pub joined_plan : List (Stage ResourceId)
  joined_plan = systems.staging.planning.stages ++ (group_of kinds (length systems.staging.systems) (map meaning.plain systems.locals) ∷ []) ∷ []

  pub staged-meant : (n : ℕ) (system : PlainSystem) → slice_get (map meaning.plain systems.staging.systems) n ≡ Some system → meant n ≡ system
  staged-meant n system is = ap (λ o. unwrap_or o nobody) (get-front (map meaning.plain systems.staging.systems) (map meaning.plain systems.locals) n system is)

  pub behind-meant : (n : ℕ) → meant (length systems.staging.systems + n) ≡ plain_at (map meaning.plain systems.locals) n
  behind-meant n = ap (λ o. unwrap_or o nobody) (get-behind (map meaning.plain systems.staging.systems) (map meaning.plain systems.locals) n (length systems.staging.systems + n)
      (ap (λ k. k + n) (sym (length-map systems.staging.systems meaning.plain))))

  local-meant : (n : ℕ) (system : PlainSystem) → slice_get (map meaning.plain systems.locals) n ≡ Some system → meant (length systems.staging.systems + n) ≡ system
  local-meant n system is = behind-meant n ∙ ap (λ o. unwrap_or o nobody) is

  -- each is lent what it declares
  pub joined-lent : PlanIsLent kinds meant joined_plan
  joined-lent = lent-append kinds meant systems.staging.planning.stages _ (plan-lent kinds (map meaning.plain systems.staging.systems) meant staged-meant systems.staging.planning.stages lent)
      (((each-lent kinds meant (map meaning.plain systems.locals) (length systems.staging.systems) local_lent local-meant, tt), tt))

  -- the order of their turns
  pub joined-order : plan_order meant joined_plan ≡ turn_order meaning.plain systems
  joined-order =
      order-append kinds meant systems.staging.planning.stages _
      ∙ ap (λ l. plan_order meant systems.staging.planning.stages ++ l) (each-order kinds meant (map meaning.plain systems.locals) (length systems.staging.systems) local-meant)
      ∙ ap (λ l. l ++ map meaning.plain systems.locals) (plan-same kinds (map meaning.plain systems.staging.systems) meant staged-meant systems.staging.planning.stages lent)

  -- the systems stand ready where each is the rules'
  pub joined-ready : (w : Holding V) → IsWhole w → AreReady kinds meaning book systems w → IsReady kinds meaning book meant (record { systems = systems.staging.systems ++ systems.locals; held = w })
  joined-ready w whole ready = record {
    whole = whole;
    world = ready.world;
    systems = λ number system is. (
      both-at (IsOfBook meaning book) systems.staging.systems systems.locals (all-at (IsOfBook meaning book) systems.staging.systems ready.staged) (all-at (IsOfBook meaning book) systems.locals ready.locals) number system is,
      sym (ap (λ o. unwrap_or o nobody) (ap (λ l. slice_get l number) (sym (map-append meaning.plain systems.staging.systems systems.locals)) ∙ slice_get-map meaning.plain (systems.staging.systems ++ systems.locals) number ∙ ap (option_map meaning.plain) is)),
    );
  }

  -- and afterwards each is
  left-ready : (after : Dispatching P P) (w : Holding V) → IsReady kinds meaning book meant (record { systems = after.staging.systems ++ after.locals; held = w }) → AreReady kinds meaning book after w
  left-ready after w ready = record {
    world = ready.world;
    staged = at-all (IsOfBook meaning book) after.staging.systems (λ n system is. (ready.systems n system (get-front after.staging.systems after.locals n system is)).0);
    locals = at-all (IsOfBook meaning book) after.locals (λ n system is. (ready.systems (length after.staging.systems + n) system (get-behind after.staging.systems after.locals n _ refl ∙ is)).0);
  }

  module _ (w : Holding V) (whole : IsWhole w) (ready : AreReady kinds meaning book systems w) where
    joined-comes : (refused : Option (ℕ × Stop)) (after : State V P) → StagesRun (TakesTurn kinds meaning) joined_plan (record { systems = systems.staging.systems ++ systems.locals; held = w }) refused after
        → Comes kinds meaning book meant (turn_order meaning.plain systems) (record { systems = systems.staging.systems ++ systems.locals; held = w }) refused after
    joined-comes refused after runs = subst (λ order. Comes kinds meaning book meant order (record { systems = systems.staging.systems ++ systems.locals; held = w }) refused after) joined-order
        (plan-comes kinds meaning book meant (TakesTurn kinds meaning) (λ system left seen later why is turn. turn) joined_plan joined-lent (record { systems = systems.staging.systems ++ systems.locals; held = w }) after refused (joined-ready w whole ready) runs)

    -- the run of all of them, where none refuses
    pub all-come : (after : Dispatching P P) (w_after : Holding V) → StagesRun (TakesTurn kinds meaning) joined_plan (record { systems = systems.staging.systems ++ systems.locals; held = w }) None (record { systems = after.staging.systems ++ after.locals; held = w_after })
        → HaveTakenTurns kinds meaning book systems w after w_after
    all-come after w_after runs = let run = joined-comes None (record { systems = after.staging.systems ++ after.locals; held = w_after }) runs in record {
      ready = left-ready after w_after run.ready;
      queues = run.queues;
      systems = run.systems;
      queued = run.queued;
      shown = run.shown;
      markers = run.markers;
      rolls = run.rolls;
    }

    -- and where one does, at a number whose position is known
    pub one-stops : (number position : ℕ) (why : Stop) (after : State V P) → position ≡ (meant number).position
        → StagesRun (TakesTurn kinds meaning) joined_plan (record { systems = systems.staging.systems ++ systems.locals; held = w }) (Some (number, why)) after
        → AreRefused book (turn_order meaning.plain systems) (plain_of kinds (seen_in w)) (told_as position why)
    one-stops number position why after is runs = by why (joined-comes (Some (number, why)) after runs)
      where
        by : (why : Stop) → AreStopped kinds meaning book meant (turn_order meaning.plain systems) (plain_of kinds (seen_in w)) (number, why) → AreRefused book (turn_order meaning.plain systems) (plain_of kinds (seen_in w)) (told_as position why)
        by (stop.Refused text) stopped = subst (λ p. SystemsRefuse book (turn_order meaning.plain systems) (plain_of kinds (seen_in w)) p (string_bytes text)) (sym is) stopped
        by stop.Memory stopped = tt
        by stop.Full stopped = stopped
