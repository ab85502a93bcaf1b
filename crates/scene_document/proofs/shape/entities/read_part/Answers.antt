use Rattle.std.proofs.Common.{◌≡◌, false, Err, subst, arith}
use Rattle.serde_json.specs.View.{view}
use Rattle.scene_model.specs.Parts.{is_among}
use Rattle.scene_document.specs.ShapeWords.{IsKnownAt}
use Rattle.scene_document.proofs.shape.entities.read_part.Goals as goal

pub returns-in_default : goal.returns-in_default
returns-in_default g c =
    let unknown : is_among c.args.kind.now (g.R.DocumentRules.book c.args.rules.now).part_names ≡ false = subst (λ names. is_among c.args.kind.now names ≡ false) c.part_names.ensures c.in_default.ensures in
    (rw unknown, record { placed = tt; admitted = tt })

pub read_data-requires : goal.read_data-requires
read_data-requires g c =
    let at : IsKnownAt c.args.kind.now (g.R.DocumentRules.book c.args.rules.now).part_names c.in-Some.place = subst (λ names. IsKnownAt c.args.kind.now names c.in-Some.place) c.part_names.ensures c.in-Some.ensures in
    at.known

pub returns-in_err-datum : goal.returns-in_err-datum
returns-in_err-datum g c =
    let at : IsKnownAt c.args.kind.now (g.R.DocumentRules.book c.args.rules.now).part_names c.in-Some.place = subst (λ names. IsKnownAt c.args.kind.now names c.in-Some.place) c.part_names.ensures c.in-Some.ensures in
    let failed : c.from_residual.result ≡ Err c.in_err-datum.field-0.0 = grind arith in
    rw (failed, at.known) (λ shape. rw (c.in_err-datum.ensures shape))

pub returns : goal.returns
returns g c =
    let at : IsKnownAt c.args.kind.now (g.R.DocumentRules.book c.args.rules.now).part_names c.in-Some.place = subst (λ names. IsKnownAt c.args.kind.now names c.in-Some.place) c.part_names.ensures c.in-Some.ensures in (
      rw (at.known, c.in_ok-datum.ensures, at.is_name),
      record {
        placed = at.within;
        admitted = rw at.is_name (g.met.R.DocumentRules.reads_admitted c.args.rules.now c.args.kind.now (view c.args.value.now) (g.R.DocumentRules.part_of c.in_ok-datum.datum) c.in_ok-datum.ensures);
      },
    )
