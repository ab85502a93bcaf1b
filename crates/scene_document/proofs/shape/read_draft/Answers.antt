use Rattle.std.proofs.Common.{◌≡◌, codes, ap, ◌∙◌, Err, Option, map, option_and_then, Some, sym, subst, arith}
use Rattle.std.specs.List.{All}
use Rattle.serde_json.specs.Find.{get}
use Rattle.serde_json.specs.View.{view, members_view}
use Rattle.scene_model.specs.Parts.{Json}
use Rattle.scene_document.specs.Drafts.{Draft, entities_from, draft_from}
use Rattle.scene_document.specs.DraftViews.{plain_entity, IsEntity}
use Rattle.scene_document.specs.ShapeWords.{draft_in, AreRead, ReadsDraft}
use Rattle.scene_document.proofs.ShapeLemmas.{draft_from-in, no_listed}
use Rattle.scene_document.proofs.shape.read_draft.Goals as goal

pub returns-in_err-entities : goal.returns-in_err-entities
returns-in_err-entities g c =
    let book = g.R.DocumentRules.book c.args.rules.now in
    let json = view c.args.value.now in
    let whole_document : draft_from book json ≡ draft_in book json = draft_from-in book json (members_view c.in-Some.members.now.entries) c.in-Some.ensures (sym c.has_document_keys.ensures ∙ c.if-not-has_document_keys.false) in
    let failed : c.from_residual.result ≡ Err c.in_err-entities.field-0.0 = grind arith in
    rw failed (λ shape. whole_document ∙ no_listed book (get (codes "next") json) (get (codes "entities") json) (get (codes "globals") json) (get (codes "systems") json) (get (codes "frames") json) (get (codes "commands") json) (get (codes "workers") json) (get (codes "store") json) (ap (λ found. option_and_then (entities_from book) found) {x = get (codes "entities") json} (sym c.get.ensures) ∙ c.in_err-entities.ensures shape))

pub returns : goal.returns
returns g c =
    let book = g.R.DocumentRules.book c.args.rules.now in
    let json = view c.args.value.now in
    let part_of = g.R.DocumentRules.part_of in
    let whole_document : draft_from book json ≡ draft_in book json = draft_from-in book json (members_view c.in-Some.members.now.entries) c.in-Some.ensures (sym c.has_document_keys.ensures ∙ c.if-not-has_document_keys.false) in
    let are_entities = subst (λ (found : Option Json). (option_and_then (entities_from book) found ≡ Some (map (plain_entity part_of book.part_names) c.in_ok-entities.entities.items)) × All (IsEntity part_of book) c.in_ok-entities.entities.items) {y = get (codes "entities") json} c.get.ensures c.in_ok-entities.ensures in
    let are : AreRead part_of book (get (codes "entities") json) c.in_ok-entities.entities.items = record { read = are_entities.0; known = are_entities.1 } in
    subst (λ (expected : Option Draft). ReadsDraft part_of g.R.DocumentRules.global_of g.R.DocumentRules.kind_of g.R.DocumentRules.config_of g.R.DocumentRules.declared g.R.DocumentRules.said_time (g.R.DocumentRules.made_by c.args.rules.now) book expected c.read_around.result) (sym whole_document)
    (c.read_around.ensures (get (codes "entities") json) are)
