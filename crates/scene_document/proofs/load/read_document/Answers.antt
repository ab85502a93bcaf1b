use Rattle.std.proofs.Common.{◌≡◌, false, None, ap, sym, ◌∙◌, if◌then◌else◌, Err}
use Rattle.serde_json.specs.View.{view}
use Rattle.serde_json.specs.Written.{has_float}
use Rattle.scene_model.specs.declared.refusals.DocRefusal.TheVariants.{NotWhole}
use Rattle.scene_document.specs.Drafts.{draft_from}
use Rattle.scene_document.specs.Documents.{of_shape, unless_refused, refusal_of}
use Rattle.scene_document.proofs.load.read_document.Goals as goal

-- the value reads as a draft that no refusal stands against
pub returns : goal.returns
returns g c =
    let book = g.R.DocumentRules.book c.args.rules.now in
    let json = view c.args.value.now in
    let indices = c.args.limits.indices in
    let plain = c.in-Ok.ensures.0 in
    let passed : refusal_of indices plain ≡ None = sym (c.in_ok-found.ensures plain c.in-Ok.ensures.2) ∙ c.in-None.is in
    let whole : has_float json ≡ false = sym c.has_float.ensures ∙ c.if-has_float.false in (
      plain,
      ap (λ b. if b then Err NotWhole else of_shape indices (draft_from book json)) whole ∙ ap (of_shape indices) c.in-Ok.ensures.1 ∙ ap (unless_refused plain) passed,
      c.in-Ok.ensures.2,
      c.in-Ok.ensures.3,
    )
