use Rattle.std.proofs.Common.{◌≡◌, false, Err, subst, arith}
use Rattle.scene_model.specs.Parts.{is_among}
use Rattle.scene_document.specs.ShapeWords.{IsKnownAt}
use Rattle.scene_document.proofs.shape.entities.read_one_global.Goals as goal

pub returns-in_default : goal.returns-in_default
returns-in_default g c =
    let unknown : is_among c.args.name.now (g.R.DocumentRules.book c.args.rules.now).global_names ≡ false = subst (λ names. is_among c.args.name.now names ≡ false) c.global_names.ensures c.in_default.ensures in
    (rw unknown, tt)

pub returns-in_err-global : goal.returns-in_err-global
returns-in_err-global g c =
    let at : IsKnownAt c.args.name.now (g.R.DocumentRules.book c.args.rules.now).global_names c.in-Some.place = subst (λ names. IsKnownAt c.args.name.now names c.in-Some.place) c.global_names.ensures c.in-Some.ensures in
    let failed : c.from_residual.result ≡ Err c.in_err-global.field-0.0 = grind arith in
    rw (failed, at.known) (λ shape. rw (c.in_err-global.ensures at.known shape))

pub returns : goal.returns
returns g c =
    let at : IsKnownAt c.args.name.now (g.R.DocumentRules.book c.args.rules.now).global_names c.in-Some.place = subst (λ names. IsKnownAt c.args.name.now names c.in-Some.place) c.global_names.ensures c.in-Some.ensures in
    (rw (at.known, c.in_ok-global.ensures at.known, at.is_name), at.within)
