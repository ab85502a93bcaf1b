-- Lemmas on a run that is printed, put back and run on.
use Rattle.std.proofs.Common.{◌≡◌, ℕ, List, Some, None, sym, ◌∙◌, ap, subst}
use Rattle.std.proofs.lemmas.Option.{same_Some}
use Rattle.scene_document.specs.declared.loaded.Limits.{Limits}
use Rattle.scene_model.specs.declared.refusals.Report.{Report}
use Rattle.scene_model.specs.Parts.{Json, Name}
use Rattle.scene_model.specs.Rulebook.{Book, Facts, known}
use Rattle.scene_model.specs.Laws.{Ascend, DeclaresKnown}
use Rattle.scene_document.specs.Drafts.{Draft, draft_from}
use Rattle.scene_document.specs.Texts.{json_of, scene_json, text_of}
use Rattle.scene.specs.Limits.{bounds_of}
use Rattle.scene.specs.Runs.{CanBegin, Ran}
use Rattle.scene.specs.OneOutcome.{OneOutcome}
use Rattle.scene.specs.TwoParts.{IsInTwoParts}
use Rattle.scene.specs.Printed.{with_course, document_json}
use Rattle.scene.specs.Resumed.{IsFinished, GoesOn}
use Rattle.scene.proofs.OneOutcomeLemmas.{draft_or}
use Rattle.scene.proofs.PartLemmas.{parts-one}
use Rattle.scene.proofs.PrintedLemmas.{course_read, course-back, scene-back}
use Rattle.scene.proofs.ReadyLemmas.{from_document}

-- a run at once, and one that was printed after its first frames, read, put back and run on, have one text
pub parts-text : (book : Book) → ((kind : Name) (config : Json) (facts : Facts) → book.system kind config ≡ known facts → DeclaresKnown book facts.access) → (kinds : Ascend book.part_names) (names : Ascend book.global_names) (limits : Limits) (whole first systems frames commands scene document : Json) (at_once early late : Report) (text middle last : List ℕ)
    → OneOutcome book → GoesOn book limits.indices whole first systems frames commands
    → IsFinished book limits whole at_once text → IsFinished book limits first early middle → early.refused ≡ None
    → json_of middle ≡ Some scene → document ≡ with_course systems frames commands scene
    → IsFinished book limits document late last → text ≡ last
parts-text book declares kinds names limits whole first systems frames commands scene document at_once early late text middle last lone goes one two none reads put three =
    let all : one.draft ≡ goes.all = ap (draft_or one.draft) (sym one.document ∙ goes.is_all) in
    let begin : two.draft ≡ goes.begin = ap (draft_or two.draft) (sym two.document ∙ goes.is_begin) in
    let printed : scene ≡ scene_json book two.scene = two.reads.only scene reads in
    let third : Draft = course_read book two.scene kinds names two.readable goes.entries goes.asked goes.lists in
    let made : draft_from book (document_json book two.scene systems frames commands) ≡ Some third =
    course-back book two.scene kinds names two.readable systems frames commands goes.entries goes.asked goes.lists goes.are_entries goes.are_frames goes.are_lists in
    let json : document ≡ document_json book two.scene systems frames commands = put ∙ ap (with_course systems frames commands) printed in
    let draft : three.draft ≡ third = same_Some three.draft third (sym (from_document book limits.indices document three.draft three.document) ∙ (ap (draft_from book) json ∙ made)) in
    let parts : IsInTwoParts goes.all goes.begin third = record {
      next = goes.next;
      entities = goes.entities;
      globals = goes.globals;
      entries = goes.entries_of_both;
      same_entries = goes.same_systems;
      commands = goes.lists_of_both;
      rest = goes.rest;
      frames = goes.total;
    } in
    let end = parts-one book declares (bounds_of limits) goes.all goes.begin third at_once early late two.scene three.scene one.scene lone
    (subst (CanBegin book) all one.begins) one.means three.means parts
    (subst (λ some. Ran book (bounds_of limits) some early two.scene) begin two.ran) none
    (scene-back book two.scene kinds names two.readable)
    (subst (λ some. Ran book (bounds_of limits) some late three.scene) draft three.ran)
    (subst (λ some. Ran book (bounds_of limits) some at_once one.scene) all one.ran) in
    one.written ∙ (ap (text_of book) end.1 ∙ sym three.written)
