use Rattle.std.proofs.Common.{◌≡◌, None, Some, Option, ap, sym, subst, ◌∙◌, if◌then◌else◌, Err}
use Rattle.scene_model.specs.declared.refusals.DocRefusal.TheVariants.{NotWhole}
use Rattle.scene_document.specs.Drafts.{draft_from}
use Rattle.scene_document.specs.Documents.{of_shape, unless_refused, refusal_of}
use Rattle.scene_document.proofs.load.read_document_with.Goals as goal

pub returns-in-Err-Shape : goal.returns-in-Err-Shape
returns-in-Err-Shape g c = λ json apart.
    let book = g.R.DocumentRules.book c.args.rules.now in
    let none = c.in-Err-Shape.ensures json apart c.in-Err-Shape.field-0-is in
    ap (λ b. if b then Err NotWhole else of_shape c.args.limits.indices (draft_from book json)) apart.whole ∙ ap (of_shape c.args.limits.indices) none

pub returns-in-Some : goal.returns-in-Some
returns-in-Some g c = λ json apart.
    let book = g.R.DocumentRules.book c.args.rules.now in
    let indices = c.args.limits.indices in
    let read = c.in-Ok.ensures json apart in
    let refused : refusal_of indices read.0 ≡ Some c.in-Some.found = sym (c.in_ok-found.ensures read.0 read.2) ∙ c.in-Some.is in
    ap (λ b. if b then Err NotWhole else of_shape indices (draft_from book json)) apart.whole ∙ ap (of_shape indices) read.1 ∙ ap (unless_refused read.0) refused

-- the rest and its entities read as a draft that no refusal stands against
pub returns : goal.returns
returns g c = λ json apart.
    let book = g.R.DocumentRules.book c.args.rules.now in
    let indices = c.args.limits.indices in
    let read = c.in-Ok.ensures json apart in
    let plain = read.0 in
    let passed : refusal_of indices plain ≡ None = sym (c.in_ok-found.ensures plain read.2) ∙ c.in-None.is in (
      plain,
      ap (λ b. if b then Err NotWhole else of_shape indices (draft_from book json)) apart.whole ∙ ap (of_shape indices) read.1 ∙ ap (unless_refused plain) passed,
      read.2,
      read.3,
    )
