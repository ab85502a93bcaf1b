-- Turns of systems one after another are a run of systems over the scene.
use Rattle.std.proofs.Common.{◌≡◌, ℕ, zero, suc, Bool, true, false, cond, eqb, List, [], ◌∷◌, ◌++◌, Option, Some, None, inl, inr, refl, ap, sym, ◌∙◌, subst}
use Rattle.std.specs.Prelude.{slice_get, slice_set, MatchOption}
use Rattle.std.specs.Option.{option_map, option_or, option_map_or}
use Rattle.std.specs.String.{string_bytes}
use Rattle.std.proofs.lemmas.Bool.{true≢false, eqb-true, eq-eqb}
use Rattle.shred_world.specs.declared.resource_id.ResourceId.{ResourceId}
use Rattle.shred_world.specs.Bundles.{Holding, readable}
use Rattle.shred_plan.specs.Plan.{Placing, Group, Stage}
use Rattle.shred_stages.specs.declared.stop.Stop.{Stop}
use Rattle.shred_stages.specs.declared.stop.Stop.TheVariants as stop
use Rattle.shred_stages.specs.Runs.{Step, State, Turn, GroupRuns, StageRuns, StagesRun}
use Rattle.scene_model.specs.Rulebook.{refuses, Book, Command}
use Rattle.scene_model.specs.Scenes.{PlainScene, PlainSystem, fragment, Steps, StepFills}
use Rattle.scene_model.specs.Frames.{Queues, SystemsRun, SystemsRefuse, SystemsFill}
use Rattle.scene_world.specs.Standing.{Kinds, seen_in, plain_of, commands_of, column_in, events_in, emits_in}
use Rattle.scene_world.specs.Lent.{IsLent}
use Rattle.specs_layouts.proofs.CallerLemmas.{shows-refl, shows-trans}
use Rattle.scene_world.specs.Turns.{Meaning, TakesTurn}
use Rattle.scene_world.specs.Chains.{left_at, group_order, stage_order, plan_order, GroupIsLent, StageIsLent, PlanIsLent, EachAt, IsMeant, IsReady, HaveRun, AreStopped, Comes}
use Rattle.scene_world.proofs.StandingLemmas.{back-unwritten}
use Rattle.scene_world.proofs.StepLemmas.{Stepped, Stopped, step-lemma, stop-lemma}

-- one of a list is another, and holds too
each-set : {S : Type 0} (holds : ℕ → S → Type 0) (xs : List S) (n : ℕ) (y : S) → EachAt holds xs → holds n y → EachAt holds (slice_set xs n y)
each-set holds [] n y each p m z e = each m z e
each-set holds (x ∷ xs) zero y each p zero z e = let same : y ≡ z = cc in subst (holds zero) same p
each-set holds (x ∷ xs) zero y each p (suc m) z e = each (suc m) z e
each-set holds (x ∷ xs) (suc n) y each p zero z e = each zero z e
each-set holds (x ∷ xs) (suc n) y each p (suc m) z e = each-set (λ k. holds (suc k)) xs n y (λ k. each (suc k)) p m z e

left-append : (position : ℕ) (one other : Queues) (before : List Command) → left_at position (one ++ other) before ≡ left_at position other (left_at position one before)
left-append position [] other before = refl
left-append position (queue ∷ one) other before = left-append position one other (cond (eqb queue.0 position) queue.1 before)

-- ---- systems over a scene, and then others

module _ (book : Book) where
  run-append : (xs ys : List PlainSystem) (a b c : PlainScene) (q r : Queues) → SystemsRun book xs a b q → SystemsRun book ys b c r → SystemsRun book (xs ++ ys) a c (q ++ r)
  run-append [] ys a b c q r first second =
      subst (λ s. SystemsRun book ys s c (q ++ r)) first.0 (subst (λ p. SystemsRun book ys b c (p ++ r)) (sym first.1) second)
  run-append (x ∷ xs) ys a b c q r (mid, commands, rest, step, later, is) second =
      (mid, commands, rest ++ r, step, run-append xs ys mid b c rest r later second, ap (λ p. p ++ r) is)

  refuse-more : (xs ys : List PlainSystem) (a : PlainScene) (position : ℕ) (text : List ℕ) → SystemsRefuse book xs a position text → SystemsRefuse book (xs ++ ys) a position text
  refuse-more [] ys a position text refused = absurd refused
  refuse-more (x ∷ xs) ys a position text (inl here) = inl here
  refuse-more (x ∷ xs) ys a position text (inr (mid, commands, step, later)) = inr (mid, commands, step, refuse-more xs ys mid position text later)

  fill-more : (xs ys : List PlainSystem) (a : PlainScene) → SystemsFill book xs a → SystemsFill book (xs ++ ys) a
  fill-more [] ys a refused = absurd refused
  fill-more (x ∷ xs) ys a (inl here) = inl here
  fill-more (x ∷ xs) ys a (inr (mid, commands, step, later)) = inr (mid, commands, step, fill-more xs ys mid later)

  refuse-later : (xs ys : List PlainSystem) (a b : PlainScene) (q : Queues) (position : ℕ) (text : List ℕ) → SystemsRun book xs a b q → SystemsRefuse book ys b position text → SystemsRefuse book (xs ++ ys) a position text
  refuse-later [] ys a b q position text ran refused = subst (λ s. SystemsRefuse book ys s position text) ran.0 refused
  refuse-later (x ∷ xs) ys a b q position text (mid, commands, rest, step, later, is) refused = inr (mid, commands, step, refuse-later xs ys mid b rest position text later refused)

  fill-later : (xs ys : List PlainSystem) (a b : PlainScene) (q : Queues) → SystemsRun book xs a b q → SystemsFill book ys b → SystemsFill book (xs ++ ys) a
  fill-later [] ys a b q ran refused = subst (λ s. SystemsFill book ys s) ran.0 refused
  fill-later (x ∷ xs) ys a b q (mid, commands, rest, step, later, is) refused = inr (mid, commands, step, fill-later xs ys mid b rest later refused)

-- ---- the same over a world

module _ {V S : Type 0} (kinds : Kinds V) (meaning : Meaning S) (book : Book) (at : ℕ → PlainSystem) where
  stopped-more : (xs ys : List PlainSystem) (a : PlainScene) (why : ℕ × Stop) → AreStopped kinds meaning book at xs a why → AreStopped kinds meaning book at (xs ++ ys) a why
  stopped-more xs ys a (number, stop.Refused text) stopped = refuse-more book xs ys a (at number).position (string_bytes text) stopped
  stopped-more xs ys a (number, stop.Memory) stopped = tt
  stopped-more xs ys a (number, stop.Full) stopped = fill-more book xs ys a stopped

  stopped-later : (xs ys : List PlainSystem) (a b : PlainScene) (q : Queues) (why : ℕ × Stop) → SystemsRun book xs a b q → AreStopped kinds meaning book at ys b why → AreStopped kinds meaning book at (xs ++ ys) a why
  stopped-later xs ys a b q (number, stop.Refused text) ran stopped = refuse-later book xs ys a b q (at number).position (string_bytes text) ran stopped
  stopped-later xs ys a b q (number, stop.Memory) ran stopped = tt
  stopped-later xs ys a b q (number, stop.Full) ran stopped = fill-later book xs ys a b q ran stopped

  have-run-append : (xs ys : List PlainSystem) (a b c : State V S) → HaveRun kinds meaning book at xs a b → HaveRun kinds meaning book at ys b c → HaveRun kinds meaning book at (xs ++ ys) a c
  have-run-append xs ys a b c one other = record {
    ready = other.ready;
    queues = one.queues ++ other.queues;
    systems = run-append book xs ys _ _ _ one.queues other.queues one.systems other.systems;
    queued = λ position. other.queued position ∙ ap (left_at position other.queues) (one.queued position)
        ∙ sym (left-append position one.queues other.queues (commands_of kinds (seen_in a.held) position));
    shown = λ kind known. shows-trans (column_in kinds kind) (events_in kinds kind) (emits_in kinds kind) (seen_in a.held (kinds.part_id kind)) (seen_in b.held (kinds.part_id kind)) (seen_in c.held (kinds.part_id kind)) (one.shown kind known) (other.shown kind known);
    markers = other.markers ∙ one.markers;
    rolls = other.rolls ∙ one.rolls;
  }

  comes-append : (xs ys : List PlainSystem) (a b c : State V S) (first later : Option (ℕ × Stop)) → Comes kinds meaning book at xs a first b
      → (IsReady kinds meaning book at b → Comes kinds meaning book at ys b later c) → Comes kinds meaning book at (xs ++ ys) a (option_or first later) c
  comes-append xs ys a b c (Some why) later one other = stopped-more xs ys _ why one
  comes-append xs ys a b c None None one other = have-run-append xs ys a b c one (other one.ready)
  comes-append xs ys a b c None (Some why) one other = stopped-later xs ys _ _ one.queues why one.systems (other one.ready)

  comes-none : (a c : State V S) (refused : Option (ℕ × Stop)) → IsReady kinds meaning book at a → (refused ≡ None) × (c ≡ a) → Comes kinds meaning book at [] a refused c
  comes-none a c refused ready (none, same) =
      subst (λ r. Comes kinds meaning book at [] a r c) (sym none)
      (subst (λ s. HaveRun kinds meaning book at [] a s) (sym same)
      (record {
        ready = ready;
        queues = [];
        systems = (refl, refl);
        queued = λ position. refl;
        shown = λ kind known. shows-refl (column_in kinds kind) (events_in kinds kind) (emits_in kinds kind) (seen_in a.held (kinds.part_id kind));
        markers = refl;
        rolls = refl;
      }))

  module _ (meets : S → Holding V → Option Stop → S → Holding V → Type 0)
      (turns : (system left : S) (seen after : Holding V) (refused : Option Stop) → meaning.is_system system → meets system seen refused left after → TakesTurn kinds meaning system seen refused left after) where
    module _ (one : Placing ResourceId) (lent : IsLent kinds (at one.number).access (at one.number).position one.reads one.writes) (a c : State V S) (ready : IsReady kinds meaning book at a) where
      module _ (system left : S) (is : IsMeant kinds meaning book at one.number system) where
        lent-it : IsLent kinds (meaning.plain system).access (meaning.plain system).position one.reads one.writes
        lent-it = subst (λ p. IsLent kinds p.access p.position one.reads one.writes) (sym is.1) lent

        turning : (refused : Option Stop) → Step meets one.reads one.writes system a.held refused left c.held → Step (TakesTurn kinds meaning) one.reads one.writes system a.held refused left c.held
        turning refused step = record { after = step.after; runs = turns system left _ step.after refused is.0.is step.runs; leaves = step.leaves; comes_back = step.comes_back }

        turn-run : Step meets one.reads one.writes system a.held None left c.held → c.systems ≡ slice_set a.systems one.number left → HaveRun kinds meaning book at (at one.number ∷ []) a c
        turn-run step sets = record {
          ready = record {
            whole = stepped.whole;
            world = stepped.world;
            systems = subst (EachAt (IsMeant kinds meaning book at)) (sym sets)
                (each-set (IsMeant kinds meaning book at) a.systems one.number left ready.systems (stepped.ours, stepped.same ∙ is.1));
          };
          queues = ((at one.number).position, stepped.commands) ∷ [];
          systems = (plain_of kinds (seen_in c.held), stepped.commands, [], subst (λ p. Steps book p (plain_of kinds (seen_in a.held)) (plain_of kinds (seen_in c.held)) stepped.commands) is.1 stepped.steps, (refl, refl), refl);
          queued = λ position. queue position (eqb (at one.number).position position) refl;
          shown = stepped.shown;
          markers = stepped.markers;
          rolls = stepped.rolls;
        }
          where
            stepped : Stepped kinds meaning book system left a.held c.held
            stepped = step-lemma kinds meaning book system one.reads one.writes lent-it is.0 a.held ready.whole ready.world left c.held (turning None step)

            here : commands_of kinds (seen_in c.held) (at one.number).position ≡ stepped.commands
            here = subst (λ p. commands_of kinds (seen_in c.held) p.position ≡ stepped.commands) is.1 stepped.queued

            queue : (position : ℕ) (b : Bool) → eqb (at one.number).position position ≡ b
                → commands_of kinds (seen_in c.held) position ≡ cond (eqb (at one.number).position position) stepped.commands (commands_of kinds (seen_in a.held) position)
            queue position true same =
                subst (λ p. commands_of kinds (seen_in c.held) p ≡ stepped.commands) (eqb-true (at one.number).position position same) here
                ∙ ap (λ t. cond t stepped.commands (commands_of kinds (seen_in a.held) position)) (sym same)
            queue position false other =
                ap (λ s. option_map_or kinds.queued (readable s) []) (back-unwritten one.reads one.writes a.held ready.whole step.after c.held step.leaves step.comes_back (kinds.queue_id position)
                (lent.other_queues position (λ e. true≢false (sym (eq-eqb (at one.number).position position (sym e)) ∙ other))))
                ∙ ap (λ t. cond t stepped.commands (commands_of kinds (seen_in a.held) position)) (sym other)

        turn-stops : (why : Stop) → Step meets one.reads one.writes system a.held (Some why) left c.held
            → AreStopped kinds meaning book at (at one.number ∷ []) (plain_of kinds (seen_in a.held)) (one.number, why)
        turn-stops why step = by why (stop-lemma kinds meaning book system one.reads one.writes lent-it is.0 a.held ready.whole ready.world why left c.held (turning (Some why) step))
          where
            by : (why : Stop) → Stopped kinds meaning book system a.held why → AreStopped kinds meaning book at (at one.number ∷ []) (plain_of kinds (seen_in a.held)) (one.number, why)
            by (stop.Refused text) stopped = inl (refl, subst (λ p. book.meets p.kind p.config (fragment p.access (plain_of kinds (seen_in a.held))) (refuses (string_bytes text))) is.1 stopped)
            by stop.Memory stopped = tt
            by stop.Full (commands, filled) = inl (commands, subst (λ p. StepFills book p (plain_of kinds (seen_in a.held)) commands) is.1 filled)

      turn-comes : (refused : Option Stop) → Turn meets one a refused c → Comes kinds meaning book at (at one.number ∷ []) a (option_map (λ why. (one.number, why)) refused) c
      turn-comes refused (left, step, sets) = by (slice_get a.systems one.number) refl step
        where
          come : (system : S) → IsMeant kinds meaning book at one.number system → (refused : Option Stop) → Step meets one.reads one.writes system a.held refused left c.held
              → Comes kinds meaning book at (at one.number ∷ []) a (option_map (λ why. (one.number, why)) refused) c
          come system is None step = turn-run system left is step sets
          come system is (Some why) step = turn-stops system left is why step

          by : (there : Option S) → slice_get a.systems one.number ≡ there → MatchOption there ⊥ (λ system. Step meets one.reads one.writes system a.held refused left c.held)
              → Comes kinds meaning book at (at one.number ∷ []) a (option_map (λ why. (one.number, why)) refused) c
          by None is step = absurd step
          by (Some system) is step = come system (ready.systems one.number system is) refused step

    group-comes : (group : Group ResourceId) → GroupIsLent kinds at group → (a c : State V S) (refused : Option (ℕ × Stop)) → IsReady kinds meaning book at a
        → GroupRuns meets group a refused c → Comes kinds meaning book at (group_order at group) a refused c
    group-comes [] lent a c refused ready runs = comes-none a c refused ready runs
    group-comes (one ∷ group) lent a c refused ready (between, why, turn, rest) = by why turn rest (λ next runs. group-comes group lent.1 between c refused next runs)
      where
        by : (why : Option Stop) → Turn meets one a why between → MatchOption why (GroupRuns meets group between refused c) (λ why. (refused ≡ Some (one.number, why)) × (c ≡ between))
            → (IsReady kinds meaning book at between → GroupRuns meets group between refused c → Comes kinds meaning book at (group_order at group) between refused c)
            → Comes kinds meaning book at (group_order at (one ∷ group)) a refused c
        by None turn rest later = comes-append (at one.number ∷ []) (group_order at group) a between c None refused (turn-comes one lent.0 a between ready None turn) (λ next. later next rest)
        by (Some why) turn rest later = subst (λ r. Comes kinds meaning book at (group_order at (one ∷ group)) a r c) (sym rest.0)
            (stopped-more (at one.number ∷ []) (group_order at group) _ (one.number, why) (turn-comes one lent.0 a between ready (Some why) turn))

    stage-comes : (stage : Stage ResourceId) → StageIsLent kinds at stage → (a c : State V S) (refused : Option (ℕ × Stop)) → IsReady kinds meaning book at a
        → StageRuns meets stage a refused c → Comes kinds meaning book at (stage_order at stage) a refused c
    stage-comes [] lent a c refused ready runs = comes-none a c refused ready runs
    stage-comes (group ∷ stage) lent a c refused ready (between, first, later, ran, rest, both) =
        subst (λ r. Comes kinds meaning book at (stage_order at (group ∷ stage)) a r c) (sym both)
        (comes-append (group_order at group) (stage_order at stage) a between c first later (group-comes group lent.0 a between first ready ran) (λ next. stage-comes stage lent.1 between c later next rest))

    -- the plan's run is the chain of its systems' turns over the scene, or stops at one of them
    pub plan-comes : (stages : List (Stage ResourceId)) → PlanIsLent kinds at stages → (a c : State V S) (refused : Option (ℕ × Stop)) → IsReady kinds meaning book at a
        → StagesRun meets stages a refused c → Comes kinds meaning book at (plan_order at stages) a refused c
    plan-comes [] lent a c refused ready runs = comes-none a c refused ready runs
    plan-comes (stage ∷ stages) lent a c refused ready (between, why, ran, rest) = by why ran rest (λ next runs. plan-comes stages lent.1 between c refused next runs)
      where
        by : (why : Option (ℕ × Stop)) → StageRuns meets stage a why between → MatchOption why (StagesRun meets stages between refused c) (λ why. (refused ≡ Some why) × (c ≡ between))
            → (IsReady kinds meaning book at between → StagesRun meets stages between refused c → Comes kinds meaning book at (plan_order at stages) between refused c)
            → Comes kinds meaning book at (plan_order at (stage ∷ stages)) a refused c
        by None ran rest later = comes-append (stage_order at stage) (plan_order at stages) a between c None refused (stage-comes stage lent.0 a between None ready ran) (λ next. later next rest)
        by (Some why) ran rest later = subst (λ r. Comes kinds meaning book at (plan_order at (stage ∷ stages)) a r c) (sym rest.0)
            (stopped-more (stage_order at stage) (plan_order at stages) _ why (stage-comes stage lent.0 a between (Some why) ready ran))

-- ---- the order of a plan
