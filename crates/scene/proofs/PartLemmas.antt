-- Lemmas on runs in two parts.
use Rattle.std.proofs.Common.{◌≡◌, ◌<◌, ◌+◌, ℕ, zero, suc, List, [], ◌∷◌, ◌++◌, drop, slice_get, Option, Some, None, option_map, MatchOption, refl, sym, ◌∙◌, ap, subst, arith}
use Rattle.std.proofs.lemmas.List.{append-nil, append_assoc}
use Rattle.std.proofs.lemmas.Option.{MatchOption-at_none}
use Rattle.scene_model.specs.declared.refusals.FrameRefusal.{FrameRefusal}
use Rattle.scene_model.specs.declared.refusals.Report.{Report}
use Rattle.scene_model.specs.declared.refusals.Skip.{Skip}
use Rattle.scene_model.specs.Parts.{Json, Name}
use Rattle.scene_model.specs.Rulebook.{Book, Facts, known}
use Rattle.scene_model.specs.Laws.{DeclaresKnown}
use Rattle.scene_model.specs.Scenes.{PlainScene, PlainFrame}
use Rattle.scene_model.specs.Commands.{skips_of}
use Rattle.scene_document.specs.Drafts.{Draft}
use Rattle.scene_document.specs.Openings.{first_scene, frames_of, commands_in}
use Rattle.scene_model.specs.Frames.{Accepts, Refuses, Reaches, Ended}
use Rattle.scene_model.specs.Bounds.{commands_only}
use Rattle.scene.specs.Limits.{Bounds, limit_of}
use Rattle.scene.specs.Runs.{CanBegin, Ran}
use Rattle.scene.specs.OneOutcome.{OneOutcome, HadMeans}
use Rattle.scene.specs.TwoParts.{frames_behind, later_skip, later_skips, later_refused, joined, IsInTwoParts}
use Rattle.scene.proofs.ResumedTurnLemmas.{HadMeansFor, ended-means}
use Rattle.scene.proofs.OneOutcomeLemmas.{reached-one, ran-means}

-- later skips of both of two lists
later-both : (count : ℕ) (one other : List Skip) → later_skips count (one ++ other) ≡ later_skips count one ++ later_skips count other
later-both count [] other = refl
later-both count (skip ∷ one) other = ap (λ rest. later_skip count skip ∷ rest) (later-both count one other)

-- the later skips of a frame are those of the later frame
later-frame : (count frame : ℕ) (places : List ℕ) → later_skips count (skips_of frame places) ≡ skips_of (count + frame) places
later-frame count frame [] = refl
later-frame count frame (place ∷ places) = ap (λ rest. record { frame = count + frame; place = place } ∷ rest) (later-frame count frame places)

-- frames and then more of them
pub reaches-then : (book : Book) (limit : ℕ) (frames : ℕ → PlainFrame) (count more : ℕ) (scene mid after : PlainScene) (skips rest : List Skip) → Reaches book limit frames count scene mid skips → Reaches book limit (frames_behind count frames) more mid after rest → Reaches book limit frames (count + more) scene after (skips ++ later_skips count rest)
reaches-then book limit frames count zero scene mid after skips rest first second =
    let same : count + 0 ≡ count = omega arith in
    subst (λ n. Reaches book limit frames n scene after (skips ++ later_skips count rest)) (sym same)
    (subst (λ some. Reaches book limit frames count scene after (skips ++ later_skips count some)) (sym second.1)
    (subst (λ s. Reaches book limit frames count scene s (skips ++ [])) (sym second.0)
    (subst (λ some. Reaches book limit frames count scene mid some) (sym (append-nil skips)) first)))
reaches-then book limit frames count (suc more) scene mid after skips rest first second =
    let next : count + suc more ≡ suc (count + more) = omega arith in
    let accepts : Accepts book limit (frames (suc (count + more))) second.0 after second.2 = subst (λ n. Accepts book limit (frames n) second.0 after second.2) next second.4 in
    let told : skips ++ later_skips count rest ≡ (skips ++ later_skips count second.1) ++ skips_of (suc (count + more)) second.2 =
    ap (λ some. skips ++ later_skips count some) second.5 ∙ (ap (λ some. skips ++ some) (later-both count second.1 (skips_of (suc more) second.2) ∙ ap (λ some. later_skips count second.1 ++ some) (later-frame count (suc more) second.2 ∙ ap (λ n. skips_of n second.2) next)) ∙ sym (append_assoc skips (later_skips count second.1) (skips_of (suc (count + more)) second.2))) in
    subst (λ n. Reaches book limit frames n scene after (skips ++ later_skips count rest)) (sym next)
    (second.0, skips ++ later_skips count second.1, second.2, reaches-then book limit frames count more scene mid second.0 skips second.1 first second.3, accepts, told)

-- frames that are the same by their numbers from 1 reach the same
pub reaches-same : (book : Book) (limit : ℕ) (frames others : ℕ → PlainFrame) (count : ℕ) (scene after : PlainScene) (skips : List Skip) → ((number : ℕ) → frames (suc number) ≡ others (suc number)) → Reaches book limit frames count scene after skips → Reaches book limit others count scene after skips
reaches-same book limit frames others zero scene after skips same reached = reached
reaches-same book limit frames others (suc count) scene after skips same reached = (reached.0, reached.1, reached.2, reaches-same book limit frames others count scene reached.0 reached.1 same reached.3, subst (λ frame. Accepts book limit frame reached.0 after reached.2) (same count) reached.4, reached.5)

-- what stands at a place behind the first ones
get-drop : {X : Type 0} (count place : ℕ) (xs : List X) → slice_get (drop count xs) place ≡ slice_get xs (count + place)
get-drop zero place xs = let same : 0 + place ≡ place = omega arith in ap (slice_get xs) (sym same)
get-drop (suc count) place [] = refl
get-drop (suc count) place (x ∷ xs) = let next : suc count + place ≡ suc (count + place) = omega arith in get-drop count place xs ∙ ap (slice_get (x ∷ xs)) (sym next)

-- a document with the frames, systems and commands of another
abbrev pub with_course : Draft → Draft → Draft
with_course other draft = record { next = draft.next; entities = draft.entities; globals = draft.globals; entries = other.entries; frames = draft.frames; commands = other.commands; workers = draft.workers; store = draft.store }

-- frames are those of any document with the same systems and commands
same-frames : (one other : Draft) → one.entries ≡ other.entries → one.commands ≡ other.commands → frames_of one ≡ frames_of other
same-frames one other entries commands = λ i. frames_of (record { next = one.next; entities = one.entities; globals = one.globals; entries = entries i; frames = one.frames; commands = commands i; workers = one.workers; store = one.store })

-- and the first scene is that of any document with the same entities, globals and next id
same-scene : (one other : Draft) → one.next ≡ other.next → one.entities ≡ other.entities → one.globals ≡ other.globals → first_scene one ≡ first_scene other
same-scene one other next entities globals = λ i. first_scene (record { next = next i; entities = entities i; globals = globals i; entries = one.entries; frames = one.frames; commands = one.commands; workers = one.workers; store = one.store })

-- the frames of the rest are those of the whole behind the first ones
rest-frames : (whole first second : Draft) → IsInTwoParts whole first second → (number : ℕ) → frames_of second (suc number) ≡ frames_behind first.frames (frames_of whole) (suc number)
rest-frames whole first second parts number =
    let order : frames_of (with_course (record { next = second.next; entities = second.entities; globals = second.globals; entries = whole.entries; frames = second.frames; commands = second.commands; workers = second.workers; store = second.store }) second) (suc number) ≡ frames_of second (suc number) = ap (λ frames. frames (suc number)) (same-frames (with_course (record { next = second.next; entities = second.entities; globals = second.globals; entries = whole.entries; frames = second.frames; commands = second.commands; workers = second.workers; store = second.store }) second) second (parts.entries ∙ sym parts.same_entries) refl) in
    let next : first.frames + suc number ≡ suc (first.frames + number) = omega arith in
    let commands : commands_in (slice_get second.commands number) ≡ commands_in (slice_get whole.commands (first.frames + number)) = ap (λ some. commands_in (slice_get some number)) parts.rest ∙ (ap commands_in (get-drop first.frames number first.commands) ∙ ap (λ some. commands_in (slice_get some (first.frames + number))) (sym parts.commands)) in
    sym order ∙ ((λ i. record { order = (frames_of whole (suc number)).order; commands = commands i }) ∙ ap (frames_of whole) (sym next))

-- the end of the rest is the end of the whole
joined-ended : (book : Book) (limit : ℕ) (frames others : ℕ → PlainFrame) (count asked more : ℕ) (report : ℕ) (scene : PlainScene) (refused : Option (ℕ × FrameRefusal)) → ((number : ℕ) → others (suc number) ≡ frames_behind count frames (suc number)) → asked ≡ count + more → MatchOption refused (report ≡ more) (λ told. (report < more) × (told.0 ≡ suc report) × Refuses book (commands_only limit) (others (suc report)) scene told.1) → MatchOption (option_map (later_refused count) refused) (count + report ≡ asked) (λ told. (count + report < asked) × (told.0 ≡ suc (count + report)) × Refuses book (commands_only limit) (frames (suc (count + report))) scene told.1)
joined-ended book limit frames others count asked more report scene None same total ended = omega (arith, total, ended)
joined-ended book limit frames others count asked more report scene (Some told) same total ended =
    let next : count + suc report ≡ suc (count + report) = omega arith in
    (omega (arith, total, ended.0), ap (λ n. count + n) ended.1 ∙ next, subst (λ frame. Refuses book (commands_only limit) frame scene told.1) (same report ∙ ap frames next) ended.2)

-- a report of two parts had means where the later had
joined-means : (count : ℕ) (refused : Option (ℕ × FrameRefusal)) → HadMeansFor refused → HadMeansFor (option_map (later_refused count) refused)
joined-means count None means = tt
joined-means count (Some told) means = means

-- the whole leads where its two parts lead, with the report of both
pub parts-one : (book : Book) → ((kind : Name) (config : Json) (facts : Facts) → book.system kind config ≡ known facts → DeclaresKnown book facts.access) → (bounds : Bounds) (whole first second : Draft) (all one other : Report) (mid after end : PlainScene) → OneOutcome book → CanBegin book whole → HadMeans all → HadMeans other → IsInTwoParts whole first second → Ran book bounds first one mid → one.refused ≡ None → first_scene second ≡ mid → Ran book bounds second other after → Ran book bounds whole all end → (all ≡ joined one other) × (end ≡ after)
parts-one book declares bounds whole first second all one other mid after end lone begins_whole all_means means parts ran none begins rest ran_all =
    let count : one.frames ≡ first.frames = MatchOption-at_none (one.frames ≡ first.frames) (λ refused. (one.frames < first.frames) × (refused.0 ≡ suc one.frames) × Refuses book (limit_of bounds first) (frames_of first (suc one.frames)) mid refused.1) none ran.1 in
    let frames : frames_of whole ≡ frames_of first = same-frames whole first parts.entries parts.commands in
    let start : first_scene whole ≡ first_scene first = same-scene whole first parts.next parts.entities parts.globals in
    let early : Reaches book bounds.commands (frames_of whole) one.frames (first_scene whole) mid one.skips = subst (λ s. Reaches book bounds.commands (frames_of whole) one.frames s mid one.skips) (sym start) (subst (λ f. Reaches book bounds.commands f one.frames (first_scene first) mid one.skips) (sym frames) ran.0) in
    let behind : (number : ℕ) → frames_of second (suc number) ≡ frames_behind one.frames (frames_of whole) (suc number) = λ number. subst (λ n. frames_of second (suc number) ≡ frames_behind n (frames_of whole) (suc number)) (sym count) (rest-frames whole first second parts number) in
    let late : Reaches book bounds.commands (frames_behind one.frames (frames_of whole)) other.frames mid after other.skips = reaches-same book bounds.commands (frames_of second) (frames_behind one.frames (frames_of whole)) other.frames mid after other.skips behind (subst (λ s. Reaches book bounds.commands (frames_of second) other.frames s after other.skips) begins rest.0) in
    let reached : Reaches book bounds.commands (frames_of whole) (one.frames + other.frames) (first_scene whole) after (one.skips ++ later_skips one.frames other.skips) = reaches-then book bounds.commands (frames_of whole) one.frames other.frames (first_scene whole) mid after one.skips other.skips early late in
    let ended : Ended book (commands_only bounds.commands) (frames_of whole) whole.frames (joined one other) after = joined-ended book bounds.commands (frames_of whole) (frames_of second) one.frames whole.frames second.frames other.frames after other.refused behind (parts.frames ∙ ap (λ n. n + second.frames) (sym count)) (ended-means book (limit_of bounds second) (frames_of second) second.frames other after means rest.1) in
    reached-one book declares bounds.commands whole all (joined one other) end after lone begins_whole all_means (joined-means one.frames other.refused means) (ran-means book bounds whole all end all_means ran_all) (reached, ended)
