use Rattle.std.proofs.Common.{Option, Some, sym, subst, ◌∙◌}
use Rattle.serde_json.specs.Data.{array}
use Rattle.serde_json.specs.View.{view, members_view}
use Rattle.scene_document.specs.Drafts.{Draft}
use Rattle.scene_document.specs.ShapeWords.{ReadsDraft}
use Rattle.scene_document.proofs.ApartLemmas.{apart-object, apart-read, apart-draft, apart-no-draft}
use Rattle.scene_document.proofs.shape.read_draft_with.Goals as goal

pub returns-in_default : goal.returns-in_default
returns-in_default g c = λ json apart. λ shape.
    absurd (apart-object g.R.DocumentRules.part_of (g.R.DocumentRules.book c.args.rules.now) json (view c.args.rest.now) c.args.entities.items apart c.in_default.ensures)

pub returns-then-not-has_document_keys : goal.returns-then-not-has_document_keys
returns-then-not-has_document_keys g c = λ json apart. λ shape.
    apart-no-draft g.R.DocumentRules.part_of (g.R.DocumentRules.book c.args.rules.now) json (view c.args.rest.now) c.args.entities.items apart (members_view c.in-Some.members.now.entries) c.in-Some.ensures
    (sym c.has_document_keys.ensures ∙ c.if-not-has_document_keys.true)

pub returns : goal.returns
returns g c = λ json apart.
    let book = g.R.DocumentRules.book c.args.rules.now in
    let part_of = g.R.DocumentRules.part_of in
    let same = apart-draft part_of book json (view c.args.rest.now) c.args.entities.items apart (members_view c.in-Some.members.now.entries) c.in-Some.ensures (sym c.has_document_keys.ensures ∙ c.if-not-has_document_keys.false) in
    subst (λ (expected : Option Draft). ReadsDraft part_of g.R.DocumentRules.global_of g.R.DocumentRules.kind_of g.R.DocumentRules.config_of g.R.DocumentRules.declared g.R.DocumentRules.said_time (g.R.DocumentRules.made_by c.args.rules.now) book expected c.read_around.result) (sym same)
    (c.read_around.ensures (Some (array apart.items)) (apart-read part_of book json (view c.args.rest.now) c.args.entities.items apart))
