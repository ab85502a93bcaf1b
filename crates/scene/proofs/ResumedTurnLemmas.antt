-- Lemmas on runs where each system allows one outcome.
use Rattle.std.proofs.Common.{◌≡◌, ◌<◌, ◌≤◌, ℕ, zero, suc, Bool, true, false, cond, List, [], ◌∷◌, ◌++◌, length, Option, Some, None, unwrap_or, MatchOption, ◌⊎◌, inl, inr, refl, sym, ◌∙◌, ap, subst, ⊎_elim, arith, All}
use Rattle.std.specs.Prelude.{nat_lt}
use Rattle.std.proofs.Math.Path.{fun_ext}
use Rattle.std.proofs.lemmas.Bool.{cases_lt, cases_eq}
use Rattle.std.proofs.lemmas.Bool.Decides.{nat_tests}
use Rattle.std.proofs.lemmas.Option.{none-some}
use Rattle.scene_model.specs.declared.refusals.FrameRefusal.{FrameRefusal}
use Rattle.scene_model.specs.declared.refusals.FrameRefusal.TheVariants.{System, GoneReference, IdsSpent, IndicesSpent, GenerationsSpent, TooManyCommands, Memory, Threads}
use Rattle.scene_model.specs.declared.refusals.Report.{Report}
use Rattle.scene_model.specs.declared.refusals.Skip.{Skip}
use Rattle.std.proofs.lemmas.List.Elements.{All-head, All-tail}
use Rattle.scene_model.specs.Parts.{Name, is_among}
use Rattle.scene_model.specs.Bounds.{FrameLimit, commands_only}
use Rattle.scene_model.specs.Rulebook.{Book, owning_kinds, Access, Fragment, Outcome, Command, leaves, refuses, fills}
use Rattle.scene_model.specs.Scenes.{PlainScene, PlainSystem, PlainFrame, Steps, fragment, with_left}
use Rattle.scene_model.specs.Commands.{Played, played, spent, play, first_gone, CommandsAccepted, CommandsRefused, skips_of}
use Rattle.scene_model.specs.Frames.{Queues, SystemsRun, SystemsRefuse, SystemsFill, all_commands, Accepts, Refuses, Reaches, Ended}
use Rattle.scene.specs.OneOutcome.{SameLeft, SameOutcome, IsOfScene, HadMeans}
use Rattle.scene_model.proofs.CallerLemmas.{led_to}
use Rattle.scene.proofs.GivenIdLemmas.{skipped_in}

-- a scene that one of two leavings is put into is that of the other, where they are one under what is written
same-put : (access : Access) (one other : Fragment) (scene : PlainScene) → SameLeft access one other → with_left access one scene ≡ with_left access other scene
same-put access one other scene same =
    let parts : (with_left access one scene).part ≡ (with_left access other scene).part = fun_ext (λ id. fun_ext (λ kind. part id kind (is_among kind access.writes) refl)) in
    let globals : (with_left access one scene).global ≡ (with_left access other scene).global = fun_ext (λ name. global name (is_among name access.written_globals) refl) in
    λ i. record { next = scene.next; ids = scene.ids; part = parts i; global = globals i }
  where
    part : (id : ℕ) (kind : Name) (b : Bool) → is_among kind access.writes ≡ b → cond b (one.part id kind) (scene.part id kind) ≡ cond b (other.part id kind) (scene.part id kind)
    part id kind true is = same.parts id kind is
    part id kind false is = refl

    global : (name : Name) (b : Bool) → is_among name access.written_globals ≡ b → cond b (one.global name) (scene.global name) ≡ cond b (other.global name) (scene.global name)
    global name true is = same.globals name is
    global name false is = refl

-- the cause of refusal of commands that are done
abbrev pub gone_cause : Option ℕ → Option FrameRefusal
gone_cause None = None
gone_cause (Some id) = Some (GoneReference id)

-- the cause of refusal of commands: that there are too many, or what comes of them
abbrev pub cause_in : Bool → Book → Played → Option FrameRefusal
cause_in true book end = Some TooManyCommands
cause_in false book (played after places) = gone_cause (first_gone book after)
cause_in false book spent = Some IdsSpent

abbrev pub cause_of : Book → ℕ → List Command → PlainScene → Option FrameRefusal
cause_of book limit commands scene = cause_in (nat_lt limit (length commands)) book (play (owning_kinds book) 1 commands scene)

-- no number within a limit is past it, and each other is
not-past : (limit n : ℕ) → n ≤ limit → nat_lt limit n ≡ false
not-past limit n within = grind (arith, nat_tests, within)

is-past : (limit n : ℕ) → limit < n → nat_lt limit n ≡ true
is-past limit n past = grind (arith, nat_tests, past)

-- two tests and two ends of commands that are the same have one cause
same-cause : (book : Book) (b c : Bool) (one other : Played) → b ≡ c → one ≡ other → cause_in b book one ≡ cause_in c book other
same-cause book b c one other e f = ap (λ x. cause_in x book one) e ∙ ap (cause_in c book) f

-- commands that are accepted have no cause of refusal
accepted-cause : (book : Book) (limit : ℕ) (commands : List Command) (scene after : PlainScene) (places : List ℕ) → CommandsAccepted book limit commands scene after places → cause_of book limit commands scene ≡ None
accepted-cause book limit commands scene after places done = same-cause book (nat_lt limit (length commands)) false (play (owning_kinds book) 1 commands scene) (played after places) (not-past limit (length commands) done.within) done.played_on ∙ ap gone_cause done.none_gone

-- commands that are refused for a cause of the scene have that cause
refused-cause : (book : Book) (limit : ℕ) (commands : List Command) (scene : PlainScene) (cause : FrameRefusal) → IsOfScene cause → CommandsRefused book (commands_only limit) commands scene cause → cause_of book limit commands scene ≡ Some cause
refused-cause book limit commands scene (System position text) other told = absurd told
refused-cause book limit commands scene (GoneReference id) other told = same-cause book (nat_lt limit (length commands)) false (play (owning_kinds book) 1 commands scene) (played told.0 told.1) (not-past limit (length commands) told.2) told.3 ∙ ap gone_cause told.4
refused-cause book limit commands scene IdsSpent other told = same-cause book (nat_lt limit (length commands)) false (play (owning_kinds book) 1 commands scene) spent (not-past limit (length commands) told.0) told.1
refused-cause book limit commands scene IndicesSpent other told = absurd other
refused-cause book limit commands scene GenerationsSpent other told = absurd other
refused-cause book limit commands scene TooManyCommands other told = ap (λ x. cause_in x book (play (owning_kinds book) 1 commands scene)) (is-past limit (length commands) told)
refused-cause book limit commands scene Memory other told = absurd other
refused-cause book limit commands scene Threads other told = absurd other

-- the end of a run that had means
abbrev pub HadMeansFor : Option (ℕ × FrameRefusal) → Type 0
HadMeansFor end = MatchOption end (Unit {0}) (λ refused. IsOfScene refused.1)

-- why a frame is refused: a system refuses, or fills its queue, or the commands after the systems have a cause
abbrev pub Why : Book → ℕ → PlainFrame → PlainScene → FrameRefusal → Type 0
Why book limit frame scene cause = ((position : ℕ) × (text : List ℕ) × SystemsRefuse book frame.order scene position text × (cause ≡ System position text)) ⊎ ((SystemsFill book frame.order scene × (cause ≡ TooManyCommands)) ⊎ ((mid : PlainScene) × (queues : Queues) × SystemsRun book frame.order scene mid queues × (cause_of book limit (all_commands frame queues) mid ≡ Some cause)))

-- a frame that is refused for a cause of the scene is refused for one of these reasons
why : (book : Book) (limit : ℕ) (frame : PlainFrame) (scene : PlainScene) (cause : FrameRefusal) → IsOfScene cause → Refuses book (commands_only limit) frame scene cause → Why book limit frame scene cause
why book limit frame scene (System position text) other told = inl (position, text, told, refl)
why book limit frame scene (GoneReference id) other told = inr (inr (told.0, told.1, told.2, refused-cause book limit (all_commands frame told.1) told.0 (GoneReference id) other told.3))
why book limit frame scene IdsSpent other told = inr (inr (told.0, told.1, told.2, refused-cause book limit (all_commands frame told.1) told.0 IdsSpent other told.3))
why book limit frame scene IndicesSpent other told = absurd other
why book limit frame scene GenerationsSpent other told = absurd other
why book limit frame scene TooManyCommands other (inl told) = inr (inl (told, refl))
why book limit frame scene TooManyCommands other (inr told) = inr (inr (told.0, told.1, told.2, refused-cause book limit (all_commands frame told.1) told.0 TooManyCommands other told.3))
why book limit frame scene Memory other told = absurd other
why book limit frame scene Threads other told = absurd other

-- a refusal for a cause of the scene says nothing of other limits than that on commands
means-refuse : (book : Book) (limit : FrameLimit) (frame : PlainFrame) (scene : PlainScene) (cause : FrameRefusal) → IsOfScene cause → Refuses book limit frame scene cause → Refuses book (commands_only limit.commands) frame scene cause
means-refuse book limit frame scene (System position text) means told = told
means-refuse book limit frame scene (GoneReference id) means told = told
means-refuse book limit frame scene IdsSpent means told = told
means-refuse book limit frame scene IndicesSpent means told = absurd means
means-refuse book limit frame scene GenerationsSpent means told = absurd means
means-refuse book limit frame scene TooManyCommands means told = told
means-refuse book limit frame scene Memory means told = absurd means
means-refuse book limit frame scene Threads means told = absurd means

-- nor does the end of a run that had means
pub ended-means : (book : Book) (limit : FrameLimit) (frames : ℕ → PlainFrame) (asked : ℕ) (report : Report) (scene : PlainScene) → HadMeans report → Ended book limit frames asked report scene → Ended book (commands_only limit.commands) frames asked report scene
ended-means book limit frames asked report scene = here report.refused
  where
    here : (o : Option (ℕ × FrameRefusal)) → HadMeansFor o → MatchOption o (report.frames ≡ asked) (λ refused. (report.frames < asked) × (refused.0 ≡ suc report.frames) × Refuses book limit (frames (suc report.frames)) scene refused.1)
        → MatchOption o (report.frames ≡ asked) (λ refused. (report.frames < asked) × (refused.0 ≡ suc report.frames) × Refuses book (commands_only limit.commands) (frames (suc report.frames)) scene refused.1)
    here None means all = all
    here (Some refused) means told = (told.0, told.1, means-refuse book limit (frames (suc report.frames)) scene refused.1 means told.2)

-- Where good scenes stay good, and what is asked of a known system on a good scene is one outcome, runs are one.
module _ (book : Book) (Good : PlainScene → Type 0) (Known : PlainSystem → Type 0)
    (lone : (system : PlainSystem) (scene : PlainScene) → Known system → Good scene → (one other : Outcome) → book.meets system.kind system.config (fragment system.access scene) one → book.meets system.kind system.config (fragment system.access scene) other → SameOutcome system.access one other)
    (turned : (system : PlainSystem) (scene after : PlainScene) (commands : List Command) → Known system → Good scene → Steps book system scene after commands → Good after) where
  -- a system's turn leads to one scene, with the same commands
  steps-one : (system : PlainSystem) (scene one other : PlainScene) (commands more : List Command) → Known system → Good scene → Steps book system scene one commands → Steps book system scene other more → (one ≡ other) × (commands ≡ more)
  steps-one system scene one other commands more known good first second =
      let same = lone system scene known good (leaves first.0 commands) (leaves second.0 more) first.1 second.1 in
      (first.3 ∙ (same-put system.access first.0 second.0 scene same.0 ∙ sym second.3), same.1)

  -- so do systems one after another
  systems-one : (order : List PlainSystem) (scene one other : PlainScene) (queues more : Queues) → All Known order → Good scene → SystemsRun book order scene one queues → SystemsRun book order scene other more → (one ≡ other) × (queues ≡ more)
  systems-one [] scene one other queues more known good first second = (first.0 ∙ sym second.0, first.1 ∙ sym second.1)
  systems-one (system ∷ order) scene one other queues more known good first second =
      let turn = steps-one system scene first.0 second.0 first.1 second.1 (All-head Known system order known) good first.3 second.3 in
      let rest = systems-one order first.0 one other first.2 second.2 (All-tail Known system order known) (turned system scene first.0 first.1 (All-head Known system order known) good first.3) first.4 (subst (λ s. SystemsRun book order s other second.2) (sym turn.0) second.4) in
      (rest.0, first.5 ∙ (ap (λ commands. (system.position, commands) ∷ first.2) turn.1 ∙ (ap (λ queue. (system.position, second.1) ∷ queue) rest.1 ∙ sym second.5)))

  -- systems that run are not refused
  run-refuse : (order : List PlainSystem) (scene after : PlainScene) (queues : Queues) (position : ℕ) (text : List ℕ) → All Known order → Good scene → SystemsRun book order scene after queues → SystemsRefuse book order scene position text → ⊥
  run-refuse [] scene after queues position text known good ran refused = refused
  run-refuse (system ∷ order) scene after queues position text known good ran (inl refused) = lone system scene (All-head Known system order known) good (leaves ran.3.0 ran.1) (refuses text) ran.3.1 refused.1
  run-refuse (system ∷ order) scene after queues position text known good ran (inr refused) =
      let first = All-head Known system order known in
      run-refuse order ran.0 after ran.2 position text (All-tail Known system order known) (turned system scene ran.0 ran.1 first good ran.3) ran.4 (subst (λ s. SystemsRefuse book order s position text) (sym (steps-one system scene ran.0 refused.0 ran.1 refused.1 first good ran.3 refused.2).0) refused.3)

  -- and fill no queue
  run-fill : (order : List PlainSystem) (scene after : PlainScene) (queues : Queues) → All Known order → Good scene → SystemsRun book order scene after queues → SystemsFill book order scene → ⊥
  run-fill [] scene after queues known good ran filled = filled
  run-fill (system ∷ order) scene after queues known good ran (inl filled) = lone system scene (All-head Known system order known) good (leaves ran.3.0 ran.1) (fills filled.0) ran.3.1 filled.1.0
  run-fill (system ∷ order) scene after queues known good ran (inr filled) =
      let first = All-head Known system order known in
      run-fill order ran.0 after ran.2 (All-tail Known system order known) (turned system scene ran.0 ran.1 first good ran.3) ran.4 (subst (λ s. SystemsFill book order s) (sym (steps-one system scene ran.0 filled.0 ran.1 filled.1 first good ran.3 filled.2).0) filled.3)

  -- systems that are refused fill no queue
  refuse-fill : (order : List PlainSystem) (scene : PlainScene) (position : ℕ) (text : List ℕ) → All Known order → Good scene → SystemsRefuse book order scene position text → SystemsFill book order scene → ⊥
  refuse-fill [] scene position text known good refused filled = refused
  refuse-fill (system ∷ order) scene position text known good (inl refused) (inl filled) = lone system scene (All-head Known system order known) good (refuses text) (fills filled.0) refused.1 filled.1.0
  refuse-fill (system ∷ order) scene position text known good (inl refused) (inr filled) = lone system scene (All-head Known system order known) good (refuses text) (leaves filled.2.0 filled.1) refused.1 filled.2.1
  refuse-fill (system ∷ order) scene position text known good (inr refused) (inl filled) = lone system scene (All-head Known system order known) good (leaves refused.2.0 refused.1) (fills filled.0) refused.2.1 filled.1.0
  refuse-fill (system ∷ order) scene position text known good (inr refused) (inr filled) =
      let first = All-head Known system order known in
      refuse-fill order refused.0 position text (All-tail Known system order known) (turned system scene refused.0 refused.1 first good refused.2) refused.3 (subst (λ s. SystemsFill book order s) (sym (steps-one system scene refused.0 filled.0 refused.1 filled.1 first good refused.2 filled.2).0) filled.3)

  -- and are refused once
  refuse-one : (order : List PlainSystem) (scene : PlainScene) (position place : ℕ) (text other : List ℕ) → All Known order → Good scene → SystemsRefuse book order scene position text → SystemsRefuse book order scene place other → (position ≡ place) × (text ≡ other)
  refuse-one [] scene position place text other known good first second = absurd first
  refuse-one (system ∷ order) scene position place text other known good (inl first) (inl second) = (sym first.0 ∙ second.0, lone system scene (All-head Known system order known) good (refuses text) (refuses other) first.1 second.1)
  refuse-one (system ∷ order) scene position place text other known good (inl first) (inr second) = absurd (lone system scene (All-head Known system order known) good (refuses text) (leaves second.2.0 second.1) first.1 second.2.1)
  refuse-one (system ∷ order) scene position place text other known good (inr first) (inl second) = absurd (lone system scene (All-head Known system order known) good (leaves first.2.0 first.1) (refuses other) first.2.1 second.1)
  refuse-one (system ∷ order) scene position place text other known good (inr first) (inr second) =
      let begin = All-head Known system order known in
      refuse-one order first.0 position place text other (All-tail Known system order known) (turned system scene first.0 first.1 begin good first.2) first.3 (subst (λ s. SystemsRefuse book order s place other) (sym (steps-one system scene first.0 second.0 first.1 second.1 begin good first.2 second.2).0) second.3)

  -- the cause of the commands behind systems that run is one
  cause-one : (limit : ℕ) (frame : PlainFrame) (scene one other : PlainScene) (queues more : Queues) → All Known frame.order → Good scene → SystemsRun book frame.order scene one queues → SystemsRun book frame.order scene other more → cause_of book limit (all_commands frame queues) one ≡ cause_of book limit (all_commands frame more) other
  cause-one limit frame scene one other queues more known good first second =
      let same = systems-one frame.order scene one other queues more known good first second in
      ap (λ some. cause_of book limit (all_commands frame some) one) same.1 ∙ ap (λ s. cause_of book limit (all_commands frame more) s) same.0

  -- a frame is refused for one cause
  why-one : (limit : ℕ) (frame : PlainFrame) (scene : PlainScene) (one other : FrameRefusal) → All Known frame.order → Good scene → Why book limit frame scene one → Why book limit frame scene other → one ≡ other
  why-one limit frame scene one other known good (inl first) (inl second) = let same = refuse-one frame.order scene first.0 second.0 first.1 second.1 known good first.2 second.2 in first.3 ∙ (ap (λ place. System place first.1) same.0 ∙ (ap (λ text. System second.0 text) same.1 ∙ sym second.3))
  why-one limit frame scene one other known good (inl first) (inr (inl second)) = absurd (refuse-fill frame.order scene first.0 first.1 known good first.2 second.0)
  why-one limit frame scene one other known good (inl first) (inr (inr second)) = absurd (run-refuse frame.order scene second.0 second.1 first.0 first.1 known good second.2 first.2)
  why-one limit frame scene one other known good (inr (inl first)) (inl second) = absurd (refuse-fill frame.order scene second.0 second.1 known good second.2 first.0)
  why-one limit frame scene one other known good (inr (inl first)) (inr (inl second)) = first.1 ∙ sym second.1
  why-one limit frame scene one other known good (inr (inl first)) (inr (inr second)) = absurd (run-fill frame.order scene second.0 second.1 known good second.2 first.0)
  why-one limit frame scene one other known good (inr (inr first)) (inl second) = absurd (run-refuse frame.order scene first.0 first.1 second.0 second.1 known good first.2 second.2)
  why-one limit frame scene one other known good (inr (inr first)) (inr (inl second)) = absurd (run-fill frame.order scene first.0 first.1 known good first.2 second.0)
  why-one limit frame scene one other known good (inr (inr first)) (inr (inr second)) = ap (λ o. unwrap_or o one) (sym first.3 ∙ (cause-one limit frame scene first.0 second.0 first.1 second.1 known good first.2 second.2 ∙ second.3))

  -- a frame that is accepted is refused for no cause
  accepts-why : (limit : ℕ) (frame : PlainFrame) (scene after : PlainScene) (places : List ℕ) (cause : FrameRefusal) → All Known frame.order → Good scene → Accepts book limit frame scene after places → Why book limit frame scene cause → ⊥
  accepts-why limit frame scene after places cause known good accepts (inl told) = run-refuse frame.order scene accepts.0 accepts.1 told.0 told.1 known good accepts.2 told.2
  accepts-why limit frame scene after places cause known good accepts (inr (inl told)) = run-fill frame.order scene accepts.0 accepts.1 known good accepts.2 told.0
  accepts-why limit frame scene after places cause known good accepts (inr (inr told)) = none-some cause (sym (accepted-cause book limit (all_commands frame accepts.1) accepts.0 after places accepts.3) ∙ (cause-one limit frame scene accepts.0 told.0 accepts.1 told.1 known good accepts.2 told.2 ∙ told.3))

  -- an accepted frame leads to one scene, with the same skips
  accepts-one : (limit : ℕ) (frame : PlainFrame) (scene one other : PlainScene) (places more : List ℕ) → All Known frame.order → Good scene → Accepts book limit frame scene one places → Accepts book limit frame scene other more → (one ≡ other) × (places ≡ more)
  accepts-one limit frame scene one other places more known good first second =
      let same = systems-one frame.order scene first.0 second.0 first.1 second.1 known good first.2 second.2 in
      let end : played one places ≡ played other more = sym first.3.played_on ∙ (ap (λ queues. play (owning_kinds book) 1 (all_commands frame queues) first.0) same.1 ∙ (ap (play (owning_kinds book) 1 (all_commands frame second.1)) same.0 ∙ second.3.played_on)) in
      (ap (led_to one) end, ap skipped_in end)

  -- So are frames that keep good scenes good.
  module _ (limit : ℕ) (frames : ℕ → PlainFrame) (each : (number : ℕ) → All Known (frames number).order)
      (framed : (number : ℕ) (scene after : PlainScene) (places : List ℕ) → Good scene → Accepts book limit (frames number) scene after places → Good after) where
    -- frames lead from a good scene to a good one
    reaches-good : (count : ℕ) (scene after : PlainScene) (skips : List Skip) → Good scene → Reaches book limit frames count scene after skips → Good after
    reaches-good zero scene after skips good reached = subst Good (sym reached.0) good
    reaches-good (suc count) scene after skips good reached = framed (suc count) reached.0 after reached.2 (reaches-good count scene reached.0 reached.1 good reached.3) reached.4

    -- and to one scene
    reaches-one : (count : ℕ) (scene one other : PlainScene) (skips more : List Skip) → Good scene → Reaches book limit frames count scene one skips → Reaches book limit frames count scene other more → (one ≡ other) × (skips ≡ more)
    reaches-one zero scene one other skips more good first second = (first.0 ∙ sym second.0, first.1 ∙ sym second.1)
    reaches-one (suc count) scene one other skips more good first second =
        let early = reaches-one count scene first.0 second.0 first.1 second.1 good first.3 second.3 in
        let last = accepts-one limit (frames (suc count)) first.0 one other first.2 second.2 (each (suc count)) (reaches-good count scene first.0 first.1 good first.3) first.4 (subst (λ s. Accepts book limit (frames (suc count)) s other second.2) (sym early.0) second.4) in
        (last.0, first.5 ∙ (ap (λ some. some ++ skips_of (suc count) first.2) early.1 ∙ (ap (λ places. second.1 ++ skips_of (suc count) places) last.1 ∙ sym second.5)))

    -- of frames that are accepted, each was
    reaches-through : (count less : ℕ) (scene after : PlainScene) (skips : List Skip) → less < count → Reaches book limit frames count scene after skips → (mid : PlainScene) × (next : PlainScene) × (some : List Skip) × (places : List ℕ) × Reaches book limit frames less scene mid some × Accepts book limit (frames (suc less)) mid next places
    reaches-through zero less scene after skips below reached = absurd (omega (arith, below))
    reaches-through (suc count) less scene after skips below reached = ⊎_elim
        (λ same. (reached.0, after, reached.1, reached.2, subst (λ n. Reaches book limit frames n scene reached.0 reached.1) same reached.3, subst (λ n. Accepts book limit (frames (suc n)) reached.0 after reached.2) same reached.4))
        (λ apart. reaches-through count less scene reached.0 reached.1 (omega (arith, below, apart)) reached.3)
        (cases_eq count less)

    -- no run ends before another that goes on
    ends-first : (count more : ℕ) (start one other : PlainScene) (skips some : List Skip) (cause : FrameRefusal) → Good start → IsOfScene cause → count < more → Reaches book limit frames count start one skips → Refuses book (commands_only limit) (frames (suc count)) one cause → Reaches book limit frames more start other some → ⊥
    ends-first count more start one other skips some cause good known below reached refused longer =
        let through = reaches-through more count start other some below longer in
        let same : one ≡ through.0 = (reaches-one count start one through.0 skips through.2 good reached through.4).0 in
        accepts-why limit (frames (suc count)) one through.1 through.3 cause (each (suc count)) (reaches-good count start one skips good reached) (subst (λ s. Accepts book limit (frames (suc count)) s through.1 through.3) (sym same) through.5) (why book limit (frames (suc count)) one cause known refused)

    -- a run's end is at most the last frame asked for
    ended-within : (asked : ℕ) (report : Report) (scene : PlainScene) → Ended book (commands_only limit) frames asked report scene → report.frames ≤ asked
    ended-within asked report scene ended = here report.refused ended
      where
        here : (o : Option (ℕ × FrameRefusal)) → MatchOption o (report.frames ≡ asked) (λ refused. (report.frames < asked) × (refused.0 ≡ suc report.frames) × Refuses book (commands_only limit) (frames (suc report.frames)) scene refused.1) → report.frames ≤ asked
        here None all = omega (arith, all)
        here (Some refused) told = omega (arith, told.0)

    -- of two runs that had means none ends first
    not-less : (asked : ℕ) (start scene after : PlainScene) (one other : Report) → Good start → HadMeans one → Reaches book limit frames one.frames start scene one.skips → Ended book (commands_only limit) frames asked one scene → Reaches book limit frames other.frames start after other.skips → other.frames ≤ asked → one.frames < other.frames → ⊥
    not-less asked start scene after one other good means reached ended longer within below = here one.refused means ended
      where
        here : (o : Option (ℕ × FrameRefusal)) → HadMeansFor o → MatchOption o (one.frames ≡ asked) (λ refused. (one.frames < asked) × (refused.0 ≡ suc one.frames) × Refuses book (commands_only limit) (frames (suc one.frames)) scene refused.1) → ⊥
        here None known all = omega (arith, all, within, below)
        here (Some refused) known told = ends-first one.frames other.frames start scene after one.skips other.skips refused.1 good known below reached told.2 longer

    -- two ends of one run are the same
    ended-one : (asked count : ℕ) (scene : PlainScene) (one other : Option (ℕ × FrameRefusal)) → Good scene → HadMeansFor one → HadMeansFor other → MatchOption one (count ≡ asked) (λ refused. (count < asked) × (refused.0 ≡ suc count) × Refuses book (commands_only limit) (frames (suc count)) scene refused.1) → MatchOption other (count ≡ asked) (λ refused. (count < asked) × (refused.0 ≡ suc count) × Refuses book (commands_only limit) (frames (suc count)) scene refused.1) → one ≡ other
    ended-one asked count scene None None good first_means second_means first second = refl
    ended-one asked count scene None (Some other) good first_means second_means first second = absurd (omega (arith, first, second.0))
    ended-one asked count scene (Some one) None good first_means second_means first second = absurd (omega (arith, first.0, second))
    ended-one asked count scene (Some one) (Some other) good first_means second_means first second =
        let cause : one.1 ≡ other.1 = why-one limit (frames (suc count)) scene one.1 other.1 (each (suc count)) good
        (why book limit (frames (suc count)) scene one.1 first_means first.2)
        (why book limit (frames (suc count)) scene other.1 second_means second.2) in
        ap (λ number. Some (number, one.1)) (first.1 ∙ sym second.1) ∙ ap (λ c. Some (other.0, c)) cause

    -- two runs of the same frames that had means have one report, and reach one scene
    pub runs-one : (asked : ℕ) (start scene after : PlainScene) (one other : Report) → Good start → HadMeans one → HadMeans other → Reaches book limit frames one.frames start scene one.skips → Ended book (commands_only limit) frames asked one scene → Reaches book limit frames other.frames start after other.skips → Ended book (commands_only limit) frames asked other after → (one ≡ other) × (scene ≡ after)
    runs-one asked start scene after one other good first_means second_means reached ended reached_too ended_too =
        let not_below : one.frames < other.frames → ⊥ = not-less asked start scene after one other good first_means reached ended reached_too (ended-within asked other after ended_too) in
        let not_above : other.frames < one.frames → ⊥ = not-less asked start after scene other one good second_means reached_too ended_too reached (ended-within asked one scene ended) in
        let count : one.frames ≡ other.frames = ⊎_elim (λ below. absurd (not_below below)) (λ above. ⊎_elim (λ past. absurd (not_above past)) (λ within. omega (arith, above, within)) (cases_lt other.frames one.frames)) (cases_lt one.frames other.frames) in
        let end = reaches-one one.frames start scene after one.skips other.skips good reached (subst (λ n. Reaches book limit frames n start after other.skips) (sym count) reached_too) in
        let refused : one.refused ≡ other.refused = ended-one asked one.frames scene one.refused other.refused (reaches-good one.frames start scene one.skips good reached) first_means second_means ended
        (subst (λ s. MatchOption other.refused (one.frames ≡ asked) (λ told. (one.frames < asked) × (told.0 ≡ suc one.frames) × Refuses book (commands_only limit) (frames (suc one.frames)) s told.1)) (sym end.0)
        (subst (λ n. MatchOption other.refused (n ≡ asked) (λ told. (n < asked) × (told.0 ≡ suc n) × Refuses book (commands_only limit) (frames (suc n)) after told.1)) (sym count) ended_too)) in
        ((λ i. record { frames = count i; skips = end.1 i; refused = refused i }), end.0)
