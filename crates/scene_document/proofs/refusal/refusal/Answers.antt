use Rattle.std.proofs.Common.{◌≡◌, sym, ◌∙◌}
use Rattle.std.proofs.lemmas.Result.{IfOk-weaker}
use Rattle.scene_document.specs.Drafts.{Draft}
use Rattle.scene_document.specs.Documents.{refusal_of}
use Rattle.scene_document.specs.DraftViews.{IsDraft}
use Rattle.scene_document.specs.Refusals.{draft_refusal}
use Rattle.scene_document.proofs.RefusalLemmas.{refusal-plain}
use Rattle.scene_document.proofs.refusal.refusal.Goals as goal

pub returns : goal.returns
returns g c =
    let rules = g.R.DocumentRules in
    let book = rules.book c.args.rules.now in
    let indices = c.args.limits.indices in
    let draft = c.args.draft.now in
    IfOk-weaker c.draft_refusal.result (λ found. found ≡ draft_refusal rules.part_of book.global_names indices draft)
    (λ found. (plain : Draft) → IsDraft rules.part_of rules.global_of rules.kind_of rules.config_of book plain draft → found ≡ refusal_of indices plain)
    (λ found e plain is. e ∙ sym (refusal-plain rules.part_of rules.global_of rules.kind_of rules.config_of book indices plain draft is))
    c.draft_refusal.ensures
