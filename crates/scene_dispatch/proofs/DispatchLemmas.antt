-- A dispatch of placed systems, staged and local, as a run of one plan: the local ones are a group of their own behind its stages.
use Rattle.std.proofs.Common.{◌≡◌, ℕ, ◌+◌, List, [], ◌∷◌, ◌++◌, length, map, take, Option, Some, None, refl, ap, sym, ◌∙◌, subst, arith}
use Rattle.std.specs.Prelude.{Result, Ok, Err}
use Rattle.std.proofs.lemmas.List.{length-map}
use Rattle.shred_world.specs.declared.resource_id.ResourceId.{ResourceId}
use Rattle.shred_world.specs.Bundles.{Holding}
use Rattle.shred_plan.specs.Plan.{Stage}
use Rattle.shred_stages.specs.declared.stop.Stop.{Stop}
use Rattle.shred_stages.specs.declared.error.DispatchError.{DispatchError}
use Rattle.shred_stages.specs.declared.error.DispatchError.TheVariants.{System, Local, Memory, Threads}
use Rattle.shred_stages.specs.Runs.{State, StagesRun}
use Rattle.shred_stages.specs.Staging.{Staging}
use Rattle.shred_stages.specs.Ends.{RunsApart}
use Rattle.shred.specs.declared.work.Work.{Work}
use Rattle.shred.specs.Works.{WorkMeets}
use Rattle.shred.specs.Locals.{LocalsRun}
use Rattle.shred.specs.Dispatching.{Dispatching, TellsLocal, ThenLocals, DispatchesLocals, DispatchesAll}
use Rattle.scene_model.specs.Scenes.{PlainSystem}
use Rattle.scene_world.specs.Standing.{Kinds}
use Rattle.scene_dispatch.specs.Works.{systems_in, HasNoBatch}
use Rattle.scene_dispatch.proofs.AlikeLemmas.{stages-append, group-plan}
use Rattle.scene_dispatch.proofs.WorkLemmas.{IsSeen, plan-seen}
use Rattle.scene_dispatch.proofs.LocalLemmas.{group_of, TakesOwn, numbered, RunsGroup, locals-group}

module _ {V P B L : Type 0} (kinds : Kinds V) (meets : P → Holding V → Option Stop → P → Holding V → Type 0) (batch_meets : B → Holding V → Option Stop → B → Holding V → Type 0)
    (plain : P → PlainSystem) (stays : (system left : P) (seen after : Holding V) (refused : Option Stop) → meets system seen refused left after → plain left ≡ plain system)
    (placed : L → P) where
  -- the local systems as the last stage of a plan, and the systems by number, with what is held
  abbrev pub whole_plan : Dispatching (Work P B) L → List (Stage ResourceId)
  whole_plan d = d.staging.planning.stages ++ (group_of kinds (length (systems_in d.staging.systems)) (map plain (map placed d.locals)) ∷ []) ∷ []

  abbrev pub whole : Dispatching (Work P B) L → Holding V → State V P
  whole d w = record { systems = systems_in d.staging.systems ++ map placed d.locals; held = w }

  -- what a dispatch leaves of what it began with
  pub record Stays (before after : Dispatching (Work P B) L) : Type 0 where
    pub no_batch : HasNoBatch after.staging.systems
    pub staged : map plain (systems_in after.staging.systems) ≡ map plain (systems_in before.staging.systems)
    pub locals : map plain (map placed after.locals) ≡ map plain (map placed before.locals)
    pub plan : after.staging.planning ≡ before.staging.planning
    pub workers : after.workers ≡ before.workers

  -- the run of the whole plan, by how the dispatch ended; where a staged system refused, that of the stages too
  abbrev pub RunsWhole : {A : Type 0} → Dispatching (Work P B) L → Holding V → Result A DispatchError → Dispatching (Work P B) L → Holding V → Type 0
  RunsWhole before w (Ok a) after w_after = StagesRun meets (whole_plan before) (whole before w) None (whole after w_after)
  RunsWhole before w (Err (System id stop)) after w_after =
      StagesRun meets before.staging.planning.stages (whole before w) (Some (id.0, stop)) (whole after w_after) × StagesRun meets (whole_plan before) (whole before w) (Some (id.0, stop)) (whole after w_after)
  RunsWhole before w (Err (Local place stop)) after w_after = StagesRun meets (whole_plan before) (whole before w) (Some (length (systems_in before.staging.systems) + place, stop)) (whole after w_after)
  RunsWhole before w (Err Memory) after w_after = Unit {0}
  RunsWhole before w (Err Threads) after w_after = Unit {0}

  -- the staged systems have run, with the local ones behind them
  pub record StagedRun (stages : List (Stage ResourceId)) (before : Dispatching (Work P B) L) (w : Holding V) (refused : Option (ℕ × Stop)) (after : Staging (Work P B)) (w_after : Holding V) : Type 0 where
    pub runs : StagesRun meets stages (whole before w) refused (record { systems = systems_in after.systems ++ map placed before.locals; held = w_after })
    pub no_batch : HasNoBatch after.systems
    pub same : map plain (systems_in after.systems) ≡ map plain (systems_in before.staging.systems)

  staged-run : (stages : List (Stage ResourceId)) (before : Dispatching (Work P B) L) (w : Holding V) (refused : Option (ℕ × Stop)) (after : Staging (Work P B)) (w_after : Holding V) → HasNoBatch before.staging.systems
      → StagesRun (WorkMeets meets batch_meets) stages (record { systems = before.staging.systems; held = w }) refused (record { systems = after.systems; held = w_after }) → StagedRun stages before w refused after w_after
  staged-run stages before w refused after w_after none runs = record {
    runs = subst (λ s. StagesRun meets stages (whole before w) refused s) at_end seen.1;
    no_batch = seen.2.no_batch;
    same = seen.2.same;
  }
    where
      seen : (left : State V P) × StagesRun meets stages (whole before w) refused left × IsSeen meets batch_meets plain stays (map placed before.locals) (map plain (systems_in before.staging.systems)) (record { systems = after.systems; held = w_after }) left
      seen = plan-seen meets batch_meets plain stays (map placed before.locals) (map plain (systems_in before.staging.systems)) stages _ _ (whole before w) refused
          (record { no_batch = none; systems = refl; held = refl; same = refl }) runs

      at_end : seen.0 ≡ record { systems = systems_in after.systems ++ map placed before.locals; held = w_after }
      at_end = ap (λ (l : List P). let s : State V P = record { systems = l; held = seen.0.held } in s) seen.2.systems
          ∙ ap (λ (h : Holding V). let s : State V P = record { systems = systems_in after.systems ++ map placed before.locals; held = h } in s) seen.2.held

  -- what is known of the staged systems, by how their part of the dispatch ended
  abbrev StagedEnd : {A : Type 0} → Dispatching (Work P B) L → Holding V → Result A DispatchError → Staging (Work P B) → Holding V → Type 0
  StagedEnd before w (Ok a) after w_after = StagedRun before.staging.planning.stages before w None after w_after
  StagedEnd before w (Err (System id stop)) after w_after = StagedRun before.staging.planning.stages before w (Some (id.0, stop)) after w_after
  StagedEnd before w (Err (Local place stop)) after w_after = ⊥
  StagedEnd before w (Err Memory) after w_after = (done : ℕ) × StagedRun (take done before.staging.planning.stages) before w None after w_after
  StagedEnd before w (Err Threads) after w_after = (done : ℕ) × StagedRun (take done before.staging.planning.stages) before w None after w_after

  staged-end : {A : Type 0} (before : Dispatching (Work P B) L) (w : Holding V) (result : Result A DispatchError) (after : Staging (Work P B)) (w_after : Holding V) → HasNoBatch before.staging.systems
      → RunsApart (WorkMeets meets batch_meets) before.staging w result after w_after → StagedEnd before w result after w_after
  staged-end before w (Ok a) after w_after none (refused, told, runs) = staged-run before.staging.planning.stages before w None after w_after none
      (subst (λ r. StagesRun (WorkMeets meets batch_meets) before.staging.planning.stages (record { systems = before.staging.systems; held = w }) r (record { systems = after.systems; held = w_after })) told runs)
  staged-end before w (Err (System id stop)) after w_after none (refused, told, runs) =
      staged-run before.staging.planning.stages before w (Some (id.0, stop)) after w_after none
      (subst (λ r. StagesRun (WorkMeets meets batch_meets) before.staging.planning.stages (record { systems = before.staging.systems; held = w }) r (record { systems = after.systems; held = w_after })) told runs)
  staged-end before w (Err (Local place stop)) after w_after none runs = runs
  staged-end before w (Err Memory) after w_after none same = (0, staged-run [] before w None after w_after none (refl, same))
  staged-end before w (Err Threads) after w_after none same = (0, staged-run [] before w None after w_after none (refl, same))

  -- the local systems have run behind the staged ones
  pub record LocalsEnd (before between : Dispatching (Work P B) L) (w_between : Holding V) (refused : Option (ℕ × Stop)) (left : List L) (w_after : Holding V) : Type 0 where
    pub runs : StagesRun meets ((group_of kinds (length (systems_in before.staging.systems)) (map plain (map placed before.locals)) ∷ []) ∷ []) (record { systems = systems_in between.staging.systems ++ map placed before.locals; held = w_between })
        (numbered (length (systems_in before.staging.systems)) refused) (record { systems = systems_in between.staging.systems ++ map placed left; held = w_after })
    pub same : map plain (map placed left) ≡ map plain (map placed before.locals)

  locals-end : (before between : Dispatching (Work P B) L) (w_between : Holding V) (refused : Option (ℕ × Stop)) (left : List L) (w_after : Holding V)
      → map plain (systems_in between.staging.systems) ≡ map plain (systems_in before.staging.systems)
      → LocalsRun (TakesOwn kinds meets plain placed) 0 before.locals w_between refused left w_after → LocalsEnd before between w_between refused left w_after
  locals-end before between w_between refused left w_after same runs = record { runs = group-plan meets _ _ _ _ ran.runs; same = ran.same }
    where
      counted : length (systems_in before.staging.systems) ≡ length (systems_in between.staging.systems)
      counted = sym (length-map (systems_in before.staging.systems) plain) ∙ ap length (sym same) ∙ length-map (systems_in between.staging.systems) plain

      ran : RunsGroup kinds meets plain stays placed (length (systems_in before.staging.systems)) (systems_in between.staging.systems) (length (systems_in before.staging.systems)) before.locals w_between refused left w_after
      ran = locals-group kinds meets plain stays placed (length (systems_in before.staging.systems)) before.locals 0 (length (systems_in before.staging.systems)) (systems_in between.staging.systems) counted (omega arith) w_between refused left w_after runs

  -- a dispatch is the run of the whole plan
  pub dispatch-whole : {A : Type 0} (before after : Dispatching (Work P B) L) (w w_after : Holding V) (result : Result A DispatchError) → HasNoBatch before.staging.systems
      → DispatchesAll (WorkMeets meets batch_meets) (TakesOwn kinds meets plain placed) before w result after w_after → Stays before after × RunsWhole before w result after w_after
  dispatch-whole {A} before after w w_after result none all =
      by all.staged_result (staged-end before w all.staged_result all.between.staging all.w_between none all.staged.runs) all.then_locals
    where
      -- all the staged systems have run
      local-by : StagedRun before.staging.planning.stages before w None all.between.staging all.w_between → DispatchesLocals (WorkMeets meets batch_meets) (TakesOwn kinds meets plain placed) all.between all.w_between result after w_after
          → Stays before after × RunsWhole before w result after w_after
      local-by staged rest = (
        record {
          no_batch = subst (λ s. HasNoBatch s.systems) (sym rest.staging) staged.no_batch;
          staged = ap (λ (s : Staging (Work P B)). map plain (systems_in s.systems)) rest.staging ∙ staged.same;
          locals = ended.same;
          plan = ap (λ (s : Staging (Work P B)). s.planning) rest.staging ∙ all.staged.plan;
          workers = rest.workers ∙ all.staged.workers;
        },
        told result rest.refused rest.told joined,
      )
        where
          ended : LocalsEnd before all.between all.w_between rest.refused after.locals w_after
          ended = locals-end before all.between all.w_between rest.refused after.locals w_after staged.same
              (subst (λ l. LocalsRun (TakesOwn kinds meets plain placed) 0 l all.w_between rest.refused after.locals w_after) all.staged.locals rest.runs)

          joined : StagesRun meets (whole_plan before) (whole before w) (numbered (length (systems_in before.staging.systems)) rest.refused) (whole after w_after)
          joined = subst (λ (s : Staging (Work P B)). StagesRun meets (whole_plan before) (whole before w) (numbered (length (systems_in before.staging.systems)) rest.refused) (record { systems = systems_in s.systems ++ map placed after.locals; held = w_after }))
              (sym rest.staging) (stages-append meets before.staging.planning.stages _ (whole before w) _ _ None _ staged.runs ended.runs)

          told : (answer : Result A DispatchError) (refused : Option (ℕ × Stop)) → TellsLocal answer refused
              → StagesRun meets (whole_plan before) (whole before w) (numbered (length (systems_in before.staging.systems)) refused) (whole after w_after) → RunsWhole before w answer after w_after
          told (Ok a) refused tells runs = subst (λ r. StagesRun meets (whole_plan before) (whole before w) (numbered (length (systems_in before.staging.systems)) r) (whole after w_after)) tells runs
          told (Err (System id stop)) refused tells runs = absurd tells
          told (Err (Local place stop)) refused tells runs = subst (λ r. StagesRun meets (whole_plan before) (whole before w) (numbered (length (systems_in before.staging.systems)) r) (whole after w_after)) tells runs
          told (Err Memory) refused tells runs = absurd tells
          told (Err Threads) refused tells runs = absurd tells

      -- what stays where the staged systems did not run to their end
      stays-by : HasNoBatch all.between.staging.systems → map plain (systems_in all.between.staging.systems) ≡ map plain (systems_in before.staging.systems) → after ≡ all.between → Stays before after
      stays-by none_left same is = subst (λ d. Stays before d) (sym is) (record {
        no_batch = none_left;
        staged = same;
        locals = ap (λ l. map plain (map placed l)) all.staged.locals;
        plan = all.staged.plan;
        workers = all.staged.workers;
      })

      refused-by : (number : ℕ) (stop : Stop) → StagedRun before.staging.planning.stages before w (Some (number, stop)) all.between.staging all.w_between → after ≡ all.between → w_after ≡ all.w_between
          → StagesRun meets before.staging.planning.stages (whole before w) (Some (number, stop)) (whole after w_after) × StagesRun meets (whole_plan before) (whole before w) (Some (number, stop)) (whole after w_after)
      refused-by number stop staged is held = (moved, stages-append meets before.staging.planning.stages _ (whole before w) (whole after w_after) (whole after w_after) (Some (number, stop)) (Some (number, stop)) moved (refl, refl))
        where
          moved : StagesRun meets before.staging.planning.stages (whole before w) (Some (number, stop)) (whole after w_after)
          moved = subst (λ d. StagesRun meets before.staging.planning.stages (whole before w) (Some (number, stop)) (whole d w_after)) (sym is)
              (subst (λ h. StagesRun meets before.staging.planning.stages (whole before w) (Some (number, stop)) (whole all.between h)) (sym held)
              (subst (λ l. StagesRun meets before.staging.planning.stages (whole before w) (Some (number, stop)) (record { systems = systems_in all.between.staging.systems ++ map placed l; held = all.w_between })) (sym all.staged.locals) staged.runs))

      Answers : Result A DispatchError → Type 0
      Answers r = Stays before after × RunsWhole before w r after w_after

      by : (staged : Result A DispatchError) → StagedEnd before w staged all.between.staging all.w_between
          → ThenLocals (WorkMeets meets batch_meets) (TakesOwn kinds meets plain placed) all.between all.w_between staged result after w_after → Stays before after × RunsWhole before w result after w_after
      by (Ok a) end rest = local-by end rest
      by (Err (System id stop)) end (told, is, held) = subst Answers (sym told) (stays-by end.no_batch end.same is, refused-by id.0 stop end is held)
      by (Err (Local place stop)) end rest = absurd end
      by (Err Memory) end (told, is, held) = subst Answers (sym told) (stays-by end.1.no_batch end.1.same is, tt)
      by (Err Threads) end (told, is, held) = subst Answers (sym told) (stays-by end.1.no_batch end.1.same is, tt)
