use Rattle.std.proofs.Common.{◌≡◌, Some, Err, subst, arith}
use Rattle.std.proofs.lemmas.Result.{MatchResult-weaker}
use Rattle.scene_document.specs.Texts.{json_of}
use Rattle.scene.specs.Outcomes.{IsNoDocument, bounds_of}
use Rattle.scene.proofs.OutcomeLemmas.{not-loaded}
use Rattle.scene.proofs.frame.Scene.open_owned.Goals as goal

pub load_read-requires : goal.load_read-requires
load_read-requires g c = record { limits = c.requires; read = (c.in_ok-read.ensures.0, c.in_ok-read.ensures.2) }

pub returns-in_err-read : goal.returns-in_err-read
returns-in_err-read g c =
    let failed : c.from_residual.result ≡ Err c.in_err-read.field-0.0 = grind arith in
    rw failed (subst (λ list. IsNoDocument (g.R.DocumentRules.book c.args.rules) (bounds_of c.args.limits) list c.in_err-read.field-0.0) c.as_slice.ensures.value (c.in_err-read.ensures (bounds_of c.args.limits)))

pub returns : goal.returns
returns g c =
    let read = c.in_ok-read.ensures in
    let is : json_of c.args.bytes.items ≡ Some read.0 = subst (λ list. json_of list ≡ Some read.0) c.as_slice.ensures.value read.1 in
    MatchResult-weaker c.load_read.result (c.load_read.ensures read.0 read.2)
    (λ scene opened. (read.0, is, opened))
    (not-loaded (g.R.DocumentRules.book c.args.rules) (bounds_of c.args.limits) c.args.bytes.items read.0 is)
