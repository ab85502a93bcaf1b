-- Lemmas on frames in which drift is alone.
use Rattle.std.proofs.Common.{◌≡◌, ℕ, zero, suc, List, [], ◌∷◌, refl, sym, ap, ◌∙◌, subst}
use Rattle.std.specs.Prelude.{Result, Ok, Err, IfOk}
use Rattle.scene_model.specs.declared.refusals.DocRefusal.{DocRefusal}
use Rattle.scene_model.specs.declared.refusals.Report.{Report}
use Rattle.scene_model.specs.declared.refusals.Skip.{Skip}
use Rattle.scene_model.specs.Rulebook.{owning_kinds, Command}
use Rattle.scene_model.specs.Scenes.{PlainScene, PlainFrame, Steps}
use Rattle.scene_model.specs.Commands.{play}
use Rattle.scene_model.specs.Frames.{all_commands, Accepts, Reaches}
use Rattle.scene_model.proofs.CallerLemmas.{led_to}
use Rattle.scene_document.specs.Drafts.{Draft}
use Rattle.scene_document.specs.Openings.{first_scene, frames_of}
use Rattle.scene.specs.Outcomes.{Bounds, IsRunOf, full_bounds}
use Rattle.scene_cases.specs.Drifting.{drifting_book, moved_part, pos_name, vel_name}
use Rattle.scene_tests.specs.Alone.{drift_at, drift_frame, IsDriftAlone, moved_times, DriftsFor, IsDriftedText}

-- what one turn leaves
drifts-once : (place : ℕ) (scene after : PlainScene) (commands : List Command) → Steps drifting_book (drift_at place) scene after commands → DriftsFor 1 scene after
drifts-once place scene after commands (left, (drifted, none), lawful, is) = record {
  next = ap (λ (s : PlainScene). s.next) is;
  ids = ap (λ (s : PlainScene). s.ids) is;
  positions = λ id. ap (λ (s : PlainScene). s.part id pos_name) is ∙ drifted.positions id;
  velocities = λ id. ap (λ (s : PlainScene). s.part id vel_name) is;
}

-- so many frames and one more
drifts-then : (count : ℕ) (scene mid after : PlainScene) → DriftsFor count scene mid → DriftsFor 1 mid after → DriftsFor (suc count) scene after
drifts-then count scene mid after early late = record {
  next = late.next ∙ early.next;
  ids = late.ids ∙ early.ids;
  positions = λ id. late.positions id ∙ (ap (λ position. moved_part position (mid.part id vel_name)) (early.positions id) ∙ ap (moved_part (moved_times count (scene.part id pos_name) (scene.part id vel_name))) (early.velocities id));
  velocities = λ id. late.velocities id ∙ early.velocities id;
}

-- an accepted frame of drift alone
frame-drifts : (limit place : ℕ) (scene after : PlainScene) (places : List ℕ) → Accepts drifting_book limit (drift_frame place) scene after places → DriftsFor 1 scene after
frame-drifts limit place scene after places (last, queues, (mid, commands, rest, step, (same, none), are), accepted) =
    let asked : commands ≡ [] = step.1.1 in
    let queue : queues ≡ (place, []) ∷ [] = are ∙ (ap (λ more. (place, commands) ∷ more) none ∙ ap (λ some. (place, some) ∷ []) asked) in
    let ends : after ≡ last = ap (led_to after) (sym accepted.played_on) ∙ ap (λ some. led_to after (play (owning_kinds drifting_book) 1 (all_commands (drift_frame place) some) last)) queue in
    subst (DriftsFor 1 scene) (sym (ends ∙ same)) (drifts-once place scene mid commands step)

-- accepted frames, one after another
frames-drift : (limit place : ℕ) (frames : ℕ → PlainFrame) → ((number : ℕ) → frames (suc number) ≡ drift_frame place) → (count : ℕ) (scene after : PlainScene) (skips : List Skip) → Reaches drifting_book limit frames count scene after skips → DriftsFor count scene after
frames-drift limit place frames alone zero scene after skips (same, none) = subst (DriftsFor zero scene) (sym same) (record { next = refl; ids = refl; positions = λ id. refl; velocities = λ id. refl })
frames-drift limit place frames alone (suc count) scene after skips (mid, earlier, places, reached, accepts, are) =
    drifts-then count scene mid after (frames-drift limit place frames alone count scene mid earlier reached)
    (frame-drifts limit place mid after places (subst (λ frame. Accepts drifting_book limit frame mid after places) (alone count) accepts))

-- the draft that is a document, or another
abbrev pub draft_or : Draft → Result Draft DocRefusal → Draft
draft_or other (Ok draft) = draft
draft_or other (Err refusal) = other

-- the text of a run of a document in which drift is alone
pub run-drifts : (bounds : Bounds) (input : List ℕ) (draft : Draft) (report : Report) (text : List ℕ) → IsDriftAlone bounds.indices input draft → IsRunOf drifting_book bounds input report text → IsDriftedText draft report text
run-drifts bounds input draft report text is run =
    let same : run.draft ≡ draft = ap (draft_or draft) (sym run.document ∙ is.document) in
    let reached : Reaches drifting_book bounds.commands (frames_of draft) report.frames (first_scene draft) run.scene report.skips = subst (λ one. Reaches drifting_book bounds.commands (frames_of one) report.frames (first_scene one) run.scene report.skips) same run.ran.0 in
    (run.scene, frames-drift bounds.commands is.place (frames_of draft) is.alone report.frames (first_scene draft) run.scene report.skips reached, run.written)

-- so it is of an answer that tells a run
pub drifted-if : {T E : Type 0} (result : Result T E) (report_of : T → Report) (text_in : T → List ℕ) (input : List ℕ) → IfOk result (λ told. IsRunOf drifting_book full_bounds input (report_of told) (text_in told))
    → IfOk result (λ told. (draft : Draft) → IsDriftAlone 16777216 input draft → IsDriftedText draft (report_of told) (text_in told))
drifted-if (Ok told) report_of text_in input run = λ draft is. run-drifts full_bounds input draft (report_of told) (text_in told) is run
drifted-if (Err error) report_of text_in input run = tt
