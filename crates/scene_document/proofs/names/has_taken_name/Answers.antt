use Rattle.std.proofs.Common.{◌≡◌, ◌-◌, ◌∷◌, ◌||◌, true, drop, get_or, ap, sym, ◌∙◌, arith}
use Rattle.scene_model.specs.Declaring.{texts}
use Rattle.scene_document.specs.Documents.{has_taken_name}
use Rattle.scene_document.specs.DraftViews.{systems_in}
use Rattle.scene_document.proofs.IdLemmas.{drop_last}
use Rattle.scene_document.proofs.NameLemmas.{keeps_more, taken_more, taken_within}
use Rattle.scene_document.proofs.names.has_taken_name.Goals as goal

pub loop-index-preserved : goal.loop-index-preserved
loop-index-preserved g c =
    let entries = c.args.entries.now in
    let item = get_or entries (c.loop-index.index - 1) c.index-entries-index.result in
    let rest = drop c.loop-index.index entries in
    let kept = c.loop-index.invariant.0 in
    let same : c.index-entries-index.result ≡ item = c.index-entries-index.is in
    let names = texts c.loop-index.later.keys in
    rw (drop_last entries c.loop-index.index c.index-entries-index.result (omega arith) (omega arith), ← same) (
      keeps_more names (texts c.learn_entry.new.names.keys) c.index-entries-index.result rest kept c.in_ok-learn_entry.ensures,
      taken_more names c.index-entries-index.result rest kept ∙ ap (λ b. b || has_taken_name (systems_in rest)) (sym c.takes_name.ensures ∙ c.if-takes_name.false) ∙ c.loop-index.invariant.1,
    )

pub returns-then-takes_name : goal.returns-then-takes_name
returns-then-takes_name g c =
    let entries = c.args.entries.now in
    let item = get_or entries (c.loop-index.index - 1) c.index-entries-index.result in
    let rest = drop c.loop-index.index entries in
    let same : c.index-entries-index.result ≡ item = c.index-entries-index.is in
    let names = texts c.loop-index.later.keys in
    let here : has_taken_name (systems_in (c.index-entries-index.result ∷ rest)) ≡ true =
    taken_more names c.index-entries-index.result rest c.loop-index.invariant.0 ∙ ap (λ b. b || has_taken_name (systems_in rest)) (sym c.takes_name.ensures ∙ c.if-takes_name.true) in
    sym (taken_within (c.loop-index.index - 1) entries (ap (λ list. has_taken_name (systems_in list)) (drop_last entries c.loop-index.index c.index-entries-index.result (omega arith) (omega arith) ∙ ap (λ first. first ∷ rest) (sym same)) ∙ here))
