-- Lemmas on frames in which nothing happens.
use Rattle.std.proofs.Common.{arith, ◌≡◌, ◌<◌, ◌≤◌, ◌+◌, ◌-◌, ◌++◌, append-nil, length, ℕ, zero, suc, true, false, List, [], ◌∷◌, None, refl, sym, ◌∙◌, ap, subst, All}
use Rattle.std.specs.Global.{Vec}
use Rattle.std.proofs.lemmas.Option.{slice_get_past}
use Rattle.std.proofs.lemmas.Bool.{false≢true}
use Rattle.std.proofs.lemmas.List.Elements.{All-head}
use Rattle.scene_model.specs.declared.command.Command.{Command}
use Rattle.scene_model.specs.declared.refusals.Skip.{Skip}
use Rattle.scene_model.specs.Parts.{Part, Json}
use Rattle.scene_model.specs.Rulebook.{Book}
use Rattle.scene_model.specs.Scenes.{PlainScene, PlainSystem, PlainFrame, IsProper, lives}
use Rattle.scene_model.specs.Frames.{Accepts, Reaches}
use Rattle.scene_document.specs.Loading.{commands_at, commands_found}
use Rattle.scene_world.specs.Standing.{Kinds}
use Rattle.scene_world.specs.Turns.{Meaning}
use Rattle.scene_world.specs.declared.placed.Placed.{Placed}
use Rattle.scene.specs.Turns.{Shown, Going, IsAtRest, at_end, frames_left}
use Rattle.scene.specs.Waiting.{AreTheirPlaces}
use Rattle.scene.specs.Running.{rules_of, shown_of, IsReady, IsGoing, HasRunOut}
use Rattle.scene.specs.declared.frame.Scene.{Scene}
use Rattle.scene.proofs.SpareLemmas.{none-found, proper-none}
use Rattle.scene.proofs.TurnLemmas.{ended_all}

-- the frame in which nothing happens
abbrev idle : PlainFrame
idle = record { order = []; commands = [] }

-- it is accepted over a proper scene, and leaves it as it was
idle-frame : (book : Book) (limit : ℕ) (scene : PlainScene) → IsProper book scene → Accepts book limit idle scene scene []
idle-frame book limit scene proper = (scene, [], (refl, refl), record { within = omega arith; played_on = refl; none_gone = none-found book scene (proper-none book scene proper) })

-- so are any number of such frames, one after another
idle-frames : (book : Book) (limit : ℕ) (frames : ℕ → PlainFrame) (start scene : PlainScene) (skips : List Skip) (done more : ℕ) → IsProper book scene
    → ((number : ℕ) → done < number → frames number ≡ idle) → Reaches book limit frames done start scene skips → Reaches book limit frames (more + done) start scene skips
idle-frames book limit frames start scene skips done zero proper rest reached = subst (λ n. Reaches book limit frames n start scene skips) (omega arith) reached
idle-frames book limit frames start scene skips done (suc more) proper rest reached =
    let next : suc (more + done) ≡ suc more + done = omega arith in
    let later : done < suc (more + done) = omega arith in
    let accepted : Accepts book limit (frames (suc (more + done))) scene scene [] = subst (λ frame. Accepts book limit frame scene scene []) (sym (rest (suc (more + done)) later)) (idle-frame book limit scene proper) in
    let one : Reaches book limit frames (suc (more + done)) start scene skips = (scene, skips, [], idle-frames book limit frames start scene skips done more proper rest reached, accepted, sym (append-nil skips)) in
    subst (λ n. Reaches book limit frames n start scene skips) next one

-- a scene at rest has gone on to its end
pub rested : (book : Book) (start now : Shown) → Going book start now → IsProper book now.scene → IsAtRest now → Going book start (at_end now)
rested book start now going proper rest = record {
  going = going.going;
  reached =
      let total : (now.asked - now.report.frames) + now.report.frames ≡ now.asked = omega (arith, going.within) in
      subst (λ n. Reaches book start.limit.commands start.frames n start.scene now.scene now.report.skips) total
      (idle-frames book start.limit.commands start.frames start.scene now.scene now.report.skips now.report.frames (now.asked - now.report.frames) proper
      (λ number later. sym (ap (λ frames. frames number) going.course.frames) ∙ rest number later) going.reached);
  course = record { frames = going.course.frames; limit = going.course.limit; asked = going.course.asked };
  within = omega arith;
}

-- where no place is listed, no system runs
pub no-system : (order : List PlainSystem) → AreTheirPlaces [] order → order ≡ []
no-system [] places = refl
no-system (system ∷ order) places = absurd (false≢true (All-head (λ one. lives one.position [] ≡ true) system order places.there))

-- past the end of a document's lists no command is given
pub none-given : {D : Type 0} (part_of : D → Part) (lists : List (Vec (Command D))) (frames number : ℕ) → length lists ≤ frames → frames < number → commands_at part_of lists number ≡ []
none-given part_of lists frames zero within later = refl
none-given part_of lists frames (suc place) within later = ap (commands_found part_of) (slice_get_past lists place (omega (arith, within, later)))

module _ {R V D G S : Type 0} (kinds : Kinds V) (part_of : D → Part) (global_of : G → Json) (meaning : Meaning (Placed R V D G S)) (book_of : R → Book) where
  -- the end, where all frames that were left are counted at once
  pub ran-at-rest : (start now after : Scene R V D G S) → IsGoing kinds part_of global_of meaning book_of start now
      → IsAtRest (shown_of kinds part_of global_of meaning book_of now) → rules_of after ≡ rules_of now → IsReady kinds part_of global_of meaning book_of after
      → shown_of kinds part_of global_of meaning book_of after ≡ at_end (shown_of kinds part_of global_of meaning book_of now)
      → HasRunOut kinds part_of global_of meaning book_of start after
  ran-at-rest start now after so_far rest same ready is =
      let shown = shown_of kinds part_of global_of meaning book_of in
      let book = book_of (rules_of start) in
      let proper : IsProper book (shown now).scene = subst (λ rules. IsProper (book_of rules) (shown now).scene) so_far.rules so_far.ready.proper in
      let going : Going book (shown start) (shown after) = subst (Going book (shown start)) (sym is) (rested book (shown start) (shown now) so_far.going proper rest) in
      record { rules = same ∙ so_far.rules; ready = ready; end = ended_all book (shown start) (shown after) going (subst (λ some. frames_left some ≡ 0) (sym is) (omega arith)) }
