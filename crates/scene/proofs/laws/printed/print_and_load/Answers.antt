use Rattle.std.proofs.Common.{◌≡◌, ℕ, List, Some, Ok, sym, ap, ◌∙◌, subst}
use Rattle.scene.specs.Outcomes.{IsNoDocument, bounds_of}
use Rattle.scene_document.specs.Texts.{json_of, scene_json}
use Rattle.scene_document.specs.Documents.{document_from}
use Rattle.scene.proofs.ReadyLemmas.{if_opened, if_refused, refused-alike, can-be-read, read-again}
use Rattle.scene.specs.Running.{listed_scene}
use Rattle.scene.proofs.laws.printed.print_and_load.Goals as goal

pub returns-clause-same : goal.returns-clause-same
returns-clause-same g c =
    let rules = c.args.scene.now.rules in
    let book = g.R.DocumentRules.book rules in
    let kept = c.args.scene.now.kept in
    let indices = c.args.limits.indices in
    let scene = listed_scene g.R.DocumentRules.part_of g.R.DocumentRules.global_of book kept in
    let readable = can-be-read g.R.DocumentRules.part_of g.R.DocumentRules.global_of book kept c.requires.ready.proper (g.met.R.DocumentRules.reads_back rules) in
    if_opened c.open.result _ _ _ (λ again opened.
    let text : json_of c.in-Ok.text.items ≡ Some opened.0 = ap json_of (sym c.as_slice.ensures.value) ∙ opened.1 in
    let json : opened.0 ≡ scene_json book scene = c.in-Ok.ensures.reads.only opened.0 text in
    let document = opened.2.document in
    let made : document_from book indices (scene_json book scene) ≡ Ok document.0 =
    sym (c.requires.book indices (scene_json book scene)) ∙ (ap (document_from (g.R.DocumentRules.book c.args.rules) indices) (sym json) ∙ document.1) in
    ap (λ shown. shown.scene) document.2
    ∙ read-again book scene readable (g.met.R.DocumentRules.kinds_ascend rules) (g.met.R.DocumentRules.globals_ascend rules) indices document.0 made)
    c.open.ensures

pub returns-clause-err : goal.returns-clause-err
returns-clause-err g c =
    let bounds = bounds_of c.args.limits in
    let scene = c.args.scene.now in
    let text = c.in-Ok.text.items in
    let same = c.as_slice.ensures.value ∙ c.in-Ok.ensures.text in
    if_refused c.open.result _ (IsNoDocument (g.R.DocumentRules.book c.args.rules) bounds c.as_slice.result.now) _
    (λ error not. subst (λ (bytes : List ℕ). IsNoDocument (g.R.DocumentRules.book scene.rules) bounds bytes error) same
    (refused-alike (g.R.DocumentRules.book c.args.rules) (g.R.DocumentRules.book scene.rules) c.requires.book bounds c.as_slice.result.now error not))
    c.open.ensures
