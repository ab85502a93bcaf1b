use Rattle.std.proofs.Common.{◌≡◌, None, ap, sym, ◌∙◌}
use Rattle.std.proofs.lemmas.Result.{IfOk-weaker}
use Rattle.scene_document.specs.Refusals.{entity_refusal, later_refusal}
use Rattle.scene_document.proofs.RefusalLemmas.{later_refusal-none}
use Rattle.scene_document.proofs.refusal.draft_refusal.Goals as goal

pub returns-in-None : goal.returns-in-None
returns-in-None g c =
    let draft = c.args.draft.now in
    let indices = c.args.limits.indices in
    let names = (g.R.DocumentRules.book c.args.rules.now).global_names in
    let none : entity_refusal g.R.DocumentRules.part_of draft ≡ None = sym c.in_ok-found.ensures ∙ c.in-None.is in
    IfOk-weaker c.later_refusal.result _ _
    (λ found e. e ∙ ap (λ all. later_refusal all indices draft) c.global_names.ensures ∙ later_refusal-none (entity_refusal g.R.DocumentRules.part_of draft) (later_refusal names indices draft) none)
    c.later_refusal.ensures
