use Rattle.std.proofs.Common.{◌≡◌, ◌+◌, ◌∷◌, ◌||◌, drop, ap, sym, ◌∙◌}
use Rattle.std.proofs.lemmas.List.{drop_more}
use Rattle.scene_model.specs.Declaring.{texts}
use Rattle.scene_document.specs.Documents.{has_unknown_dependency}
use Rattle.scene_document.specs.DraftViews.{systems_in}
use Rattle.scene_document.proofs.NameLemmas.{with_name, depends_more, alike_more}
use Rattle.scene_document.proofs.names.has_unknown_dependency.Goals as goal

pub loop-entry-preserved : goal.loop-entry-preserved
loop-entry-preserved g c =
    let entries = c.args.entries.now in
    let i = c.loop-entry.entry-index in
    let one = c.entry-item.result in
    let names = c.loop-entry.invariant.0 in
    let kept = texts c.loop-entry.earlier.keys in
    let turn : drop i entries ≡ one ∷ drop (i + 1) entries = drop_more entries i one c.loop-entry-test.true ∙ ap (λ first. first ∷ drop (i + 1) entries) (sym c.entry-item.is) in (
      with_name names one,
      alike_more names kept (texts c.learn_entry.new.names.keys) one c.loop-entry.invariant.1 c.in_ok-learn_entry.ensures,
      c.loop-entry.invariant.2 ∙ ap (λ list. has_unknown_dependency names (systems_in list)) turn ∙ depends_more names kept one (drop (i + 1) entries) c.loop-entry.invariant.1
          ∙ ap (λ b. b || has_unknown_dependency (with_name names one) (systems_in (drop (i + 1) entries))) (sym c.comes_after_other.ensures ∙ c.if-comes_after_other.false),
    )

pub returns-then-comes_after_other : goal.returns-then-comes_after_other
returns-then-comes_after_other g c =
    let entries = c.args.entries.now in
    let i = c.loop-entry.entry-index in
    let one = c.entry-item.result in
    let names = c.loop-entry.invariant.0 in
    let kept = texts c.loop-entry.earlier.keys in
    let turn : drop i entries ≡ one ∷ drop (i + 1) entries = drop_more entries i one c.loop-entry-test.true ∙ ap (λ first. first ∷ drop (i + 1) entries) (sym c.entry-item.is) in
    sym (c.loop-entry.invariant.2 ∙ ap (λ list. has_unknown_dependency names (systems_in list)) turn ∙ depends_more names kept one (drop (i + 1) entries) c.loop-entry.invariant.1
    ∙ ap (λ b. b || has_unknown_dependency (with_name names one) (systems_in (drop (i + 1) entries))) (sym c.comes_after_other.ensures ∙ c.if-comes_after_other.true))
