-- Lemmas on the frames of a scene that stands in a world: how far it has come, and how it ends.
use Rattle.std.proofs.Common.{◌≡◌, ◌<◌, ◌≤◌, ◌+◌, ◌∙◌, ℕ, ltb, Bool, true, false, List, Result, Ok, Err, inl, refl, sym, ap, subst, arith}
use Rattle.std.specs.Result.{OnOk, IfErr, IsOk}
use Rattle.shred_world.specs.Worlds.{Slots}
use Rattle.shred_world.specs.Bundles.{holding_of}
use Rattle.shred.specs.Dispatching.{Dispatching}
use Rattle.std.proofs.lemmas.Bool.{false≢true, ltb-true, ltb-false}
use Rattle.scene_model.specs.declared.refusals.FrameRefusal.{FrameRefusal}
use Rattle.scene_model.specs.declared.refusals.FrameRefusal.TheVariants.{System, GoneReference, IdsSpent, IndicesSpent, GenerationsSpent, TooManyCommands, Memory, Threads}
use Rattle.scene_model.specs.Bounds.{FrameLimit}
use Rattle.scene_model.specs.Frames.{SystemsRun, Refuses}
use Rattle.scene_model.specs.Scenes.{PlainScene, PlainFrame}
use Rattle.scene_model.specs.Parts.{Json, Part}
use Rattle.scene_model.specs.Rulebook.{Book, Command}
use Rattle.scene_world.specs.Ages.{Ages}
use Rattle.scene_world.specs.Standing.{Kinds, roll_of, plain_of}
use Rattle.scene_world.proofs.CallerLemmas.{ages-none, markers-stay}
use Rattle.scene_world.specs.Turns.{Meaning}
use Rattle.scene_world.specs.Chains.{left_at}
use Rattle.scene_world.specs.declared.placed.Placed.{Placed}
use Rattle.scene_dispatch.specs.Orders.{turn_order}
use Rattle.scene_dispatch.specs.Frames.{AreRefused, Come, WantsThread}
use Rattle.scene_commands.specs.Acts.{seen_of, GoesOn}
use Rattle.scene.specs.Waiting.{NoneWaits}
use Rattle.scene.specs.Refusals.{RefusedIn}
use Rattle.scene_world.specs.Rolls.{Roll}
use Rattle.scene_commands.specs.Bounds.{GrowsByIds, IsBounded}
use Rattle.scene_commands.proofs.CallerLemmas.{goes-nowhere, grows-none, bounded-on}
use Rattle.scene.specs.Coming.{HaveCome, HaveTurned, IsUnder, StaysUnder}
use Rattle.scene.specs.Turns.{frames_left, Advances, Stays}
use Rattle.scene.specs.Running.{rules_of, shown_of, course_of, IsReady, MayBegin, IsGoing, HasRunOut}
use Rattle.scene.specs.declared.frame.Scene.{Scene}
use Rattle.scene.proofs.TurnLemmas.{going_start, going_on, ended_all, ended_refused}

module _ {V P : Type 0} (kinds : Kinds V) (meaning : Meaning P) (book : Book) where
  -- systems that have run over a world in which a scene stood and no command waited have come to their outcome over that scene
  pub have-come : (before after : Dispatching P P) (w later : Slots V) (scene : PlainScene) (outcome : Result (Unit {0}) FrameRefusal)
      → NoneWaits kinds (seen_of w) → plain_of kinds (seen_of w) ≡ scene → turn_order meaning.plain after ≡ turn_order meaning.plain before
      → Come kinds meaning book before (holding_of w) outcome after (holding_of later) → HaveCome kinds meaning book after later scene outcome
  have-come before after w later scene (Ok a) none same order turns = record {
    ready = turns.ready;
    queues = turns.queues;
    systems_ran = subst (λ list. SystemsRun book list scene (plain_of kinds (seen_of later)) turns.queues) (sym order)
        (subst (λ start. SystemsRun book (turn_order meaning.plain before) start (plain_of kinds (seen_of later)) turns.queues) same turns.systems);
    queued = λ position. turns.queued position ∙ ap (left_at position turns.queues) (none position);
  }
  have-come before after w later scene (Err cause) none same order refused =
      subst (λ list. AreRefused book list scene cause) (sym order) (subst (λ start. AreRefused book (turn_order meaning.plain before) start cause) same refused)

  -- what they made of the world is shown, and time went on, where they came to a good end
  pub come-goes : (before after : Dispatching P P) (w later : Slots V) (outcome : Result (Unit {0}) FrameRefusal) → Come kinds meaning book before (holding_of w) outcome after (holding_of later) → OnOk outcome (GoesOn kinds w later)
  come-goes before after w later (Ok a) turns = record {
    shown = record { parts = turns.shown; markers = markers-stay kinds (seen_of w) (seen_of later) turns.markers };
    ages = subst (λ roll. Ages (roll_of kinds (seen_of w)) roll) (sym turns.rolls) (ages-none (roll_of kinds (seen_of w)));
    grows = subst (λ roll. GrowsByIds (roll_of kinds (seen_of w)) roll) (sym turns.rolls) (grows-none (roll_of kinds (seen_of w)).births (roll_of kinds (seen_of w)).noting.next);
  }
  come-goes before after w later (Err cause) refused = tt

  -- systems that have come to a good end have taken their turns
  pub turned : {A : Type 0} (systems : Dispatching P P) (w : Slots V) (scene : PlainScene) (outcome : Result A FrameRefusal) {a : A} → outcome ≡ Ok a → HaveCome kinds meaning book systems w scene outcome → HaveTurned kinds meaning book systems w scene
  turned systems w scene outcome is come = subst (HaveCome kinds meaning book systems w scene) is come

  -- what refuses the systems of a frame refuses the frame
  pub refused-turns : (limit : ℕ) (start : Roll) (frame : PlainFrame) (scene : PlainScene) (cause : FrameRefusal) → AreRefused book frame.order scene cause → RefusedIn kinds book limit start frame scene cause
  refused-turns limit start frame scene (System position text) why = why
  refused-turns limit start frame scene (GoneReference id) why = absurd why
  refused-turns limit start frame scene IdsSpent why = absurd why
  refused-turns limit start frame scene IndicesSpent why = absurd why
  refused-turns limit start frame scene GenerationsSpent why = absurd why
  refused-turns limit start frame scene TooManyCommands why = inl why
  refused-turns limit start frame scene Memory why = tt
  refused-turns limit start frame scene Threads why = tt

  -- and refuses it for the scene
  turns-refuse : (limit : FrameLimit) (frame : PlainFrame) (scene : PlainScene) (cause : FrameRefusal) → (WantsThread cause → 2 ≤ limit.workers) → AreRefused book frame.order scene cause → Refuses book limit frame scene cause
  turns-refuse limit frame scene (System position text) wants why = why
  turns-refuse limit frame scene (GoneReference id) wants why = absurd why
  turns-refuse limit frame scene IdsSpent wants why = absurd why
  turns-refuse limit frame scene IndicesSpent wants why = absurd why
  turns-refuse limit frame scene GenerationsSpent wants why = absurd why
  turns-refuse limit frame scene TooManyCommands wants why = inl why
  turns-refuse limit frame scene Memory wants why = tt
  turns-refuse limit frame scene Threads wants why = wants tt

  -- a frame is refused under a limit, by its systems, or once these have come to a good end
  pub refused-under : (limit : FrameLimit) (systems : Dispatching P P) (w : Slots V) (commands : List Command) (scene : PlainScene) (outcome : Result (Unit {0}) FrameRefusal) (cause : FrameRefusal)
      → ((under : IsBounded limit.indices limit.generation limit.unlisted (roll_of kinds (seen_of w))) → (WantsThread cause → 2 ≤ limit.workers)
      → RefusedIn kinds book limit.commands (roll_of kinds (seen_of w)) (record { order = turn_order meaning.plain systems; commands = commands }) scene cause → Refuses book limit (record { order = turn_order meaning.plain systems; commands = commands }) scene cause)
      → HaveCome kinds meaning book systems w scene outcome → StaysUnder kinds limit w outcome → IfErr outcome (λ why. cause ≡ why) → (IfErr outcome (λ why. ¬ (WantsThread why)) → ¬ (WantsThread cause))
      → RefusedIn kinds book limit.commands (roll_of kinds (seen_of w)) (record { order = turn_order meaning.plain systems; commands = commands }) scene cause
      → Refuses book limit (record { order = turn_order meaning.plain systems; commands = commands }) scene cause
  refused-under limit systems w commands scene (Ok a) cause law come under told threads why = law under (λ wants. absurd (threads tt wants)) why
  refused-under limit systems w commands scene (Err because) cause law come under told threads why =
      subst (λ one. Refuses book limit (record { order = turn_order meaning.plain systems; commands = commands }) scene one) (sym told)
      (turns-refuse limit (record { order = turn_order meaning.plain systems; commands = commands }) scene because under come)

  -- the entities stay under a limit while systems run
  pub come-under : (before after : Dispatching P P) (limit : FrameLimit) (w later : Slots V) (outcome : Result (Unit {0}) FrameRefusal) → Come kinds meaning book before (holding_of w) outcome after (holding_of later) → IsUnder kinds limit w
      → IfErr outcome (λ cause. WantsThread cause → 2 ≤ limit.workers) → StaysUnder kinds limit later outcome
  come-under before after limit w later (Ok a) turns under wants = subst (IsBounded limit.indices limit.generation limit.unlisted) (sym turns.rolls) under
  come-under before after limit w later (Err cause) turns under wants = wants

  -- what refuses a frame once its systems have come to an outcome refuses it since they began
  pub refused-since : (before after : Dispatching P P) (w later : Slots V) (limit : ℕ) (commands : List Command) (scene : PlainScene) (outcome : Result (Unit {0}) FrameRefusal) (cause : FrameRefusal)
      → Come kinds meaning book before (holding_of w) outcome after (holding_of later) → HaveCome kinds meaning book after later scene outcome → IfErr outcome (λ why. cause ≡ why)
      → RefusedIn kinds book limit (roll_of kinds (seen_of later)) (record { order = turn_order meaning.plain after; commands = commands }) scene cause
      → RefusedIn kinds book limit (roll_of kinds (seen_of w)) (record { order = turn_order meaning.plain after; commands = commands }) scene cause
  refused-since before after w later limit commands scene (Ok a) cause turns come told why =
      subst (λ roll. RefusedIn kinds book limit roll (record { order = turn_order meaning.plain after; commands = commands }) scene cause) turns.rolls why
  refused-since before after w later limit commands scene (Err because) cause turns come told why =
      subst (RefusedIn kinds book limit (roll_of kinds (seen_of w)) (record { order = turn_order meaning.plain after; commands = commands }) scene) (sym told)
      (refused-turns limit (roll_of kinds (seen_of w)) (record { order = turn_order meaning.plain after; commands = commands }) scene because come)

-- the entities stay under a limit while commands are carried out, which they are once the systems have come to a good end
pub under-on : {V : Type 0} (kinds : Kinds V) (limit : FrameLimit) (w later : Slots V) (outcome result : Result (Unit {0}) FrameRefusal) → StaysUnder kinds limit w outcome → IfErr outcome (λ why. result ≡ Err why) → IsOk result
    → (OnOk outcome (GoesOn kinds w w) → GoesOn kinds w later) → IsUnder kinds limit later
under-on kinds limit w later (Ok a) result under told is goes = bounded-on limit.indices limit.generation limit.unlisted (roll_of kinds (seen_of w)) (roll_of kinds (seen_of later)) under (goes (goes-nowhere kinds w)).grows
under-on kinds limit w later (Err why) result under told is goes = absurd (false≢true (subst (λ r. IsOk r) told is))

-- what is told as it is, is that
pub told-as : {T : Type 0} (outcome result : Result T FrameRefusal) → IfErr outcome (λ why. result ≡ Err why) → IfErr result (λ cause. IfErr outcome (λ why. cause ≡ why))
told-as (Ok a) (Ok b) told = tt
told-as (Ok a) (Err cause) told = tt
told-as (Err why) (Ok b) told = tt
told-as (Err why) (Err cause) told = cc

-- what holds in both cases holds of a refusal, by two things that do
pub if_err_two : {T E : Type 0} (r : Result T E) (A B C : E → Type 0) → ((error : E) → A error → B error → C error) → IfErr r A → IfErr r B → IfErr r C
if_err_two (Ok x) A B C f a b = tt
if_err_two (Err y) A B C f a b = f y a b

-- a thread is wanting only with two workers or more
pub wants-two : (outcome : Result (Unit {0}) FrameRefusal) (workers : ℕ) → (workers < 2 → IfErr outcome (λ cause. ¬ (WantsThread cause))) → IfErr outcome (λ cause. WantsThread cause → 2 ≤ workers)
wants-two (Ok a) workers few = tt
wants-two (Err cause) workers few = λ wants. by (ltb workers 2) refl wants
  where
    by : (b : Bool) → ltb workers 2 ≡ b → WantsThread cause → 2 ≤ workers
    by true less wants = absurd (few (ltb-true workers 2 less) wants)
    by false more wants = let many = ltb-false workers 2 more in omega (arith, many)

-- where none is wanting at all, neither
pub wants-none : (outcome : Result (Unit {0}) FrameRefusal) (workers : ℕ) → IfErr outcome (λ cause. ¬ (WantsThread cause)) → IfErr outcome (λ cause. WantsThread cause → 2 ≤ workers)
wants-none (Ok a) workers none = tt
wants-none (Err cause) workers none = λ wants. absurd (none wants)

-- a scene with other systems and another world
abbrev with_world : {R V D G S : Type 0} → Scene R V D G S → Dispatching (Placed R V D G S) (Placed R V D G S) → Slots V → Scene R V D G S
with_world scene systems w = record { rules = scene.rules; limit = scene.limit; world = w; dispatcher = systems; places = scene.places; commands = scene.commands; asked = scene.asked; watchers = scene.watchers; kept = scene.kept; report = scene.report }

module _ {R V D G S : Type 0} (kinds : Kinds V) (part_of : D → Part) (global_of : G → Json) (meaning : Meaning (Placed R V D G S)) (book_of : R → Book) where
  -- a scene before any of its frames
  pub first-going : (start : Scene R V D G S) → MayBegin kinds part_of global_of meaning book_of start → IsGoing kinds part_of global_of meaning book_of start start
  first-going start may = record {
    rules = refl;
    ready = may.ready;
    going = going_start (book_of (rules_of start)) (shown_of kinds part_of global_of meaning book_of start) may.start;
  }

  -- one more frame was accepted
  pub more-going : (start now after : Scene R V D G S) → IsGoing kinds part_of global_of meaning book_of start now → 0 < frames_left (shown_of kinds part_of global_of meaning book_of now)
      → rules_of after ≡ rules_of now → IsReady kinds part_of global_of meaning book_of after
      → Advances (book_of (rules_of now)) (shown_of kinds part_of global_of meaning book_of now) (shown_of kinds part_of global_of meaning book_of after)
      → IsGoing kinds part_of global_of meaning book_of start after
  more-going start now after so_far left same ready advances =
      let shown = shown_of kinds part_of global_of meaning book_of in
      record {
        rules = same ∙ so_far.rules;
        ready = ready;
        going = going_on (book_of (rules_of start)) (shown start) (shown now) (shown after) so_far.going left (subst (λ rules. Advances (book_of rules) (shown now) (shown after)) so_far.rules advances);
      }

  -- the end, where no frame is left
  pub all-ran : (start now : Scene R V D G S) → IsGoing kinds part_of global_of meaning book_of start now → frames_left (shown_of kinds part_of global_of meaning book_of now) ≡ 0
      → HasRunOut kinds part_of global_of meaning book_of start now
  all-ran start now so_far none =
      let shown = shown_of kinds part_of global_of meaning book_of in
      record { rules = so_far.rules; ready = so_far.ready; end = ended_all (book_of (rules_of start)) (shown start) (shown now) so_far.going none }

  -- the end, where the next frame is refused
  pub ran-to-refusal : (start now after : Scene R V D G S) → IsGoing kinds part_of global_of meaning book_of start now → 0 < frames_left (shown_of kinds part_of global_of meaning book_of now)
      → rules_of after ≡ rules_of now → IsReady kinds part_of global_of meaning book_of after
      → Stays (book_of (rules_of now)) (shown_of kinds part_of global_of meaning book_of now) (shown_of kinds part_of global_of meaning book_of after)
      → HasRunOut kinds part_of global_of meaning book_of start after
  ran-to-refusal start now after so_far left same ready stays =
      let shown = shown_of kinds part_of global_of meaning book_of in
      record {
        rules = same ∙ so_far.rules;
        ready = ready;
        end = ended_refused (book_of (rules_of start)) (shown start) (shown now) (shown after) so_far.going left (subst (λ rules. Stays (book_of rules) (shown now) (shown after)) so_far.rules stays);
      }

  -- what is shown of a scene stays where its systems keep their order
  pub same-shown : (scene : Scene R V D G S) (systems : Dispatching (Placed R V D G S) (Placed R V D G S)) (w : Slots V)
      → turn_order meaning.plain systems ≡ turn_order meaning.plain scene.dispatcher → systems.workers ≡ scene.dispatcher.workers
      → shown_of kinds part_of global_of meaning book_of (with_world scene systems w) ≡ shown_of kinds part_of global_of meaning book_of scene
  same-shown scene systems w order workers = λ i. record {
    scene = (shown_of kinds part_of global_of meaning book_of scene).scene;
    frames = course_of part_of (order i) scene.commands.items;
    limit = record { commands = scene.limit.commands; indices = scene.limit.indices; generation = scene.limit.generation; unlisted = scene.limit.unlisted; workers = workers i };
    asked = scene.asked;
    report = scene.report;
  }
