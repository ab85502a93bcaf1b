use Rattle.std.proofs.Common.{◌≡◌, ◌∙◌, false, Option, Some, None, is_some, refl, sym, ap, subst}
use Rattle.std.proofs.lemmas.Bool.{false≢true}
use Rattle.serde_json.specs.View.{view}
use Rattle.scene_document.specs.Texts.{json_of}
use Rattle.scene.specs.Resumed.{IsFinished}
use Rattle.scene.proofs.ResumeLemmas.{parts-text}
use Rattle.scene.proofs.laws.resumed.run_in_parts.Goals as goal

-- what isn't there is none
is_none : {X : Type 0} (o : Option X) → is_some o ≡ false → o ≡ None
is_none None e = refl
is_none (Some x) e = absurd (false≢true (sym e))

pub returns-clause-same : goal.returns-clause-same
returns-clause-same g c = λ lone goes.
    let book = g.R.DocumentRules.book in
    let rules = c.args.rules in
    let limits = c.args.limits in
    let first_rules = c.in_ok-rules.ensures.rules in
    let second_rules = c.in_ok-rules-2.ensures.rules ∙ first_rules in
    parts-text (book rules) c.rules_are_lawful.ensures.declares c.rules_are_lawful.ensures.kinds c.rules_are_lawful.ensures.globals limits
    (view c.args.whole.now) (view c.args.first.now) (view c.args.rest.systems) (view c.args.rest.frames) (view c.args.rest.commands) (view c.in_ok-scene.scene) (view c.in_ok-document.document)
    c.in_ok-rules.field-0.report c.in_ok-rules-2.field-0.report c.in_ok-in_parts.field-0.report
    c.in_ok-rules.field-0.text.items c.in_ok-rules-2.field-0.text.items c.in_ok-in_parts.field-0.text.items
    lone goes
    c.in_ok-rules.ensures.done
    (subst (λ one. IsFinished (book one) limits (view c.args.first.now) c.in_ok-rules-2.field-0.report c.in_ok-rules-2.field-0.text.items) first_rules c.in_ok-rules-2.ensures.done)
    (is_none c.in_ok-rules-2.field-0.report.refused (sym c.is_some.ensures ∙ c.if-is_some.false))
    (ap json_of (sym c.as_slice.ensures.value) ∙ c.in_ok-scene.ensures)
    c.in_ok-document.ensures
    (subst (λ one. IsFinished (book one) limits (view c.in_ok-document.document) c.in_ok-in_parts.field-0.report c.in_ok-in_parts.field-0.text.items) second_rules c.in_ok-in_parts.ensures.done)
