use Rattle.std.proofs.Common.{◌≡◌, Some, refl, sym, ap, ◌∙◌}
use Rattle.std.proofs.lemmas.Option.{same_Some}
use Rattle.scene_document.specs.Drafts.{draft_from}
use Rattle.scene_document.specs.Texts.{scene_json}
use Rattle.scene_document.specs.Openings.{first_scene}
use Rattle.scene.proofs.ReadyLemmas.{from_document, from_bytes}
use Rattle.scene.proofs.PrintedLemmas.{draft_read, draft-back, scene-back, course_read, course-back}
use Rattle.scene.proofs.LoadLemmas.{document-back}
use Rattle.scene.proofs.laws.printed.a_printed_scene_is_read_again.Goals as goal

pub returns-clause-read : goal.returns-clause-read
returns-clause-read g c = λ scene sound.
    let book = g.R.DocumentRules.book c.args.rules.now in
    let kinds = g.met.R.DocumentRules.kinds_ascend c.args.rules.now in
    let names = g.met.R.DocumentRules.globals_ascend c.args.rules.now in
    (draft_read book scene kinds names sound, draft-back book scene kinds names sound, scene-back book scene kinds names sound)

pub returns-clause-document : goal.returns-clause-document
returns-clause-document g c = λ indices scene sound ready within.
    let book = g.R.DocumentRules.book c.args.rules.now in
    let kinds = g.met.R.DocumentRules.kinds_ascend c.args.rules.now in
    let names = g.met.R.DocumentRules.globals_ascend c.args.rules.now in
    (draft_read book scene kinds names sound, document-back book scene kinds names sound ready indices within, scene-back book scene kinds names sound)

pub returns-clause-course : goal.returns-clause-course
returns-clause-course g c = λ scene systems frames commands entries asked lists sound one two three.
    let book = g.R.DocumentRules.book c.args.rules.now in
    let kinds = g.met.R.DocumentRules.kinds_ascend c.args.rules.now in
    let names = g.met.R.DocumentRules.globals_ascend c.args.rules.now in
    (course_read book scene kinds names sound entries asked lists, course-back book scene kinds names sound systems frames commands entries asked lists one two three, scene-back book scene kinds names sound, record { same_entries = refl; same_frames = refl; same_commands = refl })

pub returns-clause-text : goal.returns-clause-text
returns-clause-text g c = λ indices scene text draft sound reads document.
    let book = g.R.DocumentRules.book c.args.rules.now in
    let kinds = g.met.R.DocumentRules.kinds_ascend c.args.rules.now in
    let names = g.met.R.DocumentRules.globals_ascend c.args.rules.now in
    from_bytes book indices text draft document (λ json found made.
    let shaped : draft_from book (scene_json book scene) ≡ Some draft = ap (draft_from book) (sym (reads.only json found)) ∙ from_document book indices json draft made in
    ap first_scene (same_Some draft (draft_read book scene kinds names sound) (sym shaped ∙ draft-back book scene kinds names sound)) ∙ scene-back book scene kinds names sound)
