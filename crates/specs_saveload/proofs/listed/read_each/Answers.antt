use Rattle.std.proofs.Common.{◌≡◌, Err, ap, arith, is_ok, sym, ◌∙◌}
use Rattle.specs_saveload.specs.declared.form.FormError.TheVariants as refusal
use Rattle.specs_saveload.proofs.ReadLemmas.{first-refused, fits-next, forms-next, read-next, same-refusal}
use Rattle.specs_saveload.proofs.listed.read_each.Goals as goal

pub loop-number-preserved : goal.loop-number-preserved
loop-number-preserved g c = record {
  read = read-next c.args.items.now c.loop-number.number c.index-items-number.result c.loop-number-test.true c.index-items-number.is g.T.JsonForm.form _ _ _ (is_ok c.push.result) c.loop-number.invariant.read c.in_ok-value.ensures.ok c.push.ensures.items (ap is_ok c.in-Ok.is);
  fits = fits-next g.T.JsonForm.is_value _ _ _ (is_ok c.push.result) c.loop-number.invariant.fits c.in_ok-value.ensures.fits c.push.ensures.items (ap is_ok c.in-Ok.is);
  forms = forms-next c.args.items.now c.loop-number.number c.index-items-number.result c.loop-number-test.true c.index-items-number.is g.T.JsonForm.is_form c.loop-number.invariant.forms c.in_ok-value.ensures.known;
}

pub returns-in_err-value-clause-first : goal.returns-in_err-value-clause-first
returns-in_err-value-clause-first g c place refused =
    let failed : c.from_residual.result ≡ Err c.in_err-value.field-0.0 = grind arith in
    let here = same-refusal c.in_err-value.field-0.0 (refusal.Shape place) (sym failed ∙ refused) in
    (c.loop-number.number, first-refused c.args.items.now c.loop-number.number c.index-items-number.result c.loop-number-test.true c.index-items-number.is g.T.JsonForm.is_form g.T.JsonForm.place_in place c.loop-number.invariant.forms (c.in_err-value.ensures.shape place here) (c.in_err-value.ensures.place place here))
