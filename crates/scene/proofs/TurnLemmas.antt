-- Lemmas on the frames of a scene, one after another.
use Rattle.std.proofs.lemmas.Bool.{true≢false}
use Rattle.std.proofs.Common.{◌≡◌, ◌<◌, ◌++◌, MatchOption, ℕ, suc, List, [], Option, Some, None, is_some, false, refl, sym, ◌∙◌, ap, subst, arith}
use Rattle.std.proofs.lemmas.Option.{MatchOption-at_none, none-some}
use Rattle.scene_model.specs.declared.refusals.FrameRefusal.{FrameRefusal}
use Rattle.scene_model.specs.declared.refusals.Report.{Report}
use Rattle.scene_model.specs.declared.refusals.Skip.{Skip}
use Rattle.scene_model.specs.Bounds.{FrameLimit}
use Rattle.scene_model.specs.Rulebook.{Book}
use Rattle.scene_model.specs.Commands.{skips_of}
use Rattle.scene_document.specs.Drafts.{Draft}
use Rattle.scene_document.specs.Openings.{first_scene, frames_of}
use Rattle.scene_model.specs.Frames.{Accepts, Refuses, Reaches, Ended}
use Rattle.scene_commands.specs.Bounds.{unlisted_in}
use Rattle.scene.specs.Limits.{Bounds, limit_of}
use Rattle.scene.specs.Turns.{Shown, opening, nothing_yet, frames_left, next_frame, SameCourse, Advances, IsRefused, Stays, Going, RunsOut}

-- a scene before any of its frames
pub going_start : (book : Book) (start : Shown) → start.report ≡ nothing_yet → Going book start start
going_start book start same = record {
  going = ap (λ report. report.refused) same;
  reached = subst (λ report. Reaches book start.limit.commands start.frames report.frames start.scene start.scene report.skips) (sym same) (refl, refl);
  course = record { frames = refl; limit = refl; asked = refl };
  within = let none : start.report.frames ≡ 0 = ap (λ report. report.frames) same in omega (arith, none);
}

-- the course stays over two steps
then_course : {one two three : Shown} → SameCourse one two → SameCourse two three → SameCourse one three
then_course early late = record { frames = late.frames ∙ early.frames; limit = late.limit ∙ early.limit; asked = late.asked ∙ early.asked }

-- the next frame of a scene, by the course of its start
next_by_start : (start now : Shown) → SameCourse start now → next_frame now ≡ start.frames (suc now.report.frames)
next_by_start start now course = ap (λ frames. frames (suc now.report.frames)) course.frames

-- one more frame was accepted
pub going_on : (book : Book) (start now after : Shown) → Going book start now → 0 < frames_left now → Advances book now after → Going book start after
going_on book start now after going left advances =
    let places : List ℕ = advances.accepted.0 in
    let report : after.report ≡ record { frames = suc now.report.frames; skips = now.report.skips ++ skips_of (suc now.report.frames) places; refused = None } = advances.accepted.2 in
    let accepted : Accepts book start.limit.commands (start.frames (suc now.report.frames)) now.scene after.scene places =
    subst (λ (limit : FrameLimit). Accepts book limit.commands (start.frames (suc now.report.frames)) now.scene after.scene places) going.course.limit
    (subst (λ frame. Accepts book now.limit.commands frame now.scene after.scene places) (next_by_start start now going.course) advances.accepted.1) in
    let reached : Reaches book start.limit.commands start.frames (suc now.report.frames) start.scene after.scene (now.report.skips ++ skips_of (suc now.report.frames) places) = (now.scene, now.report.skips, places, going.reached, accepted, refl) in
    record {
      going = ap (λ some. some.refused) report;
      reached = subst (λ some. Reaches book start.limit.commands start.frames some.frames start.scene after.scene some.skips) (sym report) reached;
      course = then_course going.course advances.course;
      within = let frames : after.report.frames ≡ suc now.report.frames = ap (λ some. some.frames) report in omega (arith, frames, advances.course.asked, left, going.within);
    }

-- the end, where no frame is left
pub ended_all : (book : Book) (start now : Shown) → Going book start now → frames_left now ≡ 0 → RunsOut book start now
ended_all book start now going none = record {
  reached = going.reached;
  ended = subst (λ refused. MatchOption refused (now.report.frames ≡ start.asked) (λ some. (now.report.frames < start.asked) × (some.0 ≡ suc now.report.frames) × Refuses book start.limit (start.frames (suc now.report.frames)) now.scene some.1)) (sym going.going) (omega (arith, going.course.asked, going.within, none));
}

-- the end, where the next frame is refused
pub ended_refused : (book : Book) (start now after : Shown) → Going book start now → 0 < frames_left now → Stays book now after → RunsOut book start after
ended_refused book start now after going left stays =
    let told : (cause : FrameRefusal) × IsRefused book now after cause = MatchOption-at_none ((cause : FrameRefusal) × IsRefused book now after cause) (λ _. after.report ≡ now.report) going.going stays.told in
    let report : after.report ≡ record { frames = now.report.frames; skips = now.report.skips; refused = Some (suc now.report.frames, told.0) } = told.1.report in
    let refuses : Refuses book start.limit (start.frames (suc now.report.frames)) now.scene told.0 =
    subst (λ limit. Refuses book limit (start.frames (suc now.report.frames)) now.scene told.0) going.course.limit
    (subst (λ frame. Refuses book now.limit frame now.scene told.0) (next_by_start start now going.course) told.1.refused) in
    let before : now.report.frames < start.asked = omega (arith, left, going.course.asked) in
    let ended : Ended book start.limit start.frames start.asked (record { frames = now.report.frames; skips = now.report.skips; refused = Some (suc now.report.frames, told.0) }) now.scene = (before, refl, refuses) in
    subst (λ scene. RunsOut book start (record { scene = scene; frames = after.frames; limit = after.limit; asked = after.asked; report = after.report })) (sym stays.scene)
    (subst (λ some. RunsOut book start (record { scene = now.scene; frames = after.frames; limit = after.limit; asked = after.asked; report = some })) (sym report) (record { reached = going.reached; ended = ended }))

-- a limit of these numbers is that of a document
abbrev pub limit_with : (commands indices generation unlisted workers : ℕ) → FrameLimit
limit_with commands indices generation unlisted workers = record { commands = commands; indices = indices; generation = generation; unlisted = unlisted; workers = workers }

pub limit_is : (bounds : Bounds) (draft : Draft) (generation unlisted workers : ℕ) → generation ≡ bounds.generation → unlisted ≡ unlisted_in draft → workers ≡ draft.workers → limit_with bounds.commands bounds.indices generation unlisted workers ≡ limit_of bounds draft
limit_is bounds draft generation unlisted workers births ids threads = λ i. record { commands = bounds.commands; indices = bounds.indices; generation = births i; unlisted = ids i; workers = threads i }

-- what shows a document's scene and frames before any frame is its opening
pub is_opening : (bounds : Bounds) (draft : Draft) (shown : Shown) → shown.scene ≡ first_scene draft → shown.frames ≡ frames_of draft → shown.limit ≡ limit_of bounds draft → shown.asked ≡ draft.frames → shown.report ≡ nothing_yet → shown ≡ opening bounds draft
is_opening bounds draft shown scene frames same_limit asked report = λ i. record { scene = scene i; frames = frames i; limit = same_limit i; asked = asked i; report = report i }

-- a report with no frame and no refusal
abbrev pub record_of : List Skip → Report
record_of skips = record { frames = 0; skips = skips; refused = None }

-- a report with no frame, no skip and no refusal is that before any frame
pub is_nothing_yet : (skips : List Skip) → skips ≡ [] → record_of skips ≡ nothing_yet
is_nothing_yet skips none = ap record_of none

-- what is not there is nothing
pub none_there : {X : Type 0} (o : Option X) → is_some o ≡ false → o ≡ None
none_there None gone = refl
none_there (Some x) gone = absurd (true≢false gone)

-- where nothing is there, what is asked of that case is enough
pub told_first : {X A : Type 0} (B : X → Type 0) (o : Option X) → o ≡ None → A → MatchOption o A B
told_first B None gone a = a
told_first B (Some x) gone a = absurd (none-some x (sym gone))
