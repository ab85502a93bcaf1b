use Rattle.std.proofs.Common.{◌≡◌, Err, arith}
use Rattle.std.proofs.lemmas.Result.{MatchResult-weaker}
use Rattle.scene_document.specs.Texts.{json_of}
use Rattle.scene.specs.Outcomes.{bounds_of}
use Rattle.scene.proofs.OutcomeLemmas.{not-loaded}
use Rattle.scene.proofs.frame.Scene.open.Goals as goal

pub load_read-requires : goal.load_read-requires
load_read-requires g c = record { limits = c.requires; read = (c.in_ok-read.ensures.0, c.in_ok-read.ensures.2) }

pub returns-in_err-read : goal.returns-in_err-read
returns-in_err-read g c =
    let failed : c.from_residual.result ≡ Err c.in_err-read.field-0.0 = grind arith in
    rw failed (c.in_err-read.ensures (bounds_of c.args.limits))

pub returns : goal.returns
returns g c =
    let read = c.in_ok-read.ensures in
    MatchResult-weaker c.load_read.result (c.load_read.ensures read.0 read.2)
    (λ scene opened. (read.0, read.1, opened))
    (not-loaded (g.R.DocumentRules.book c.args.rules) (bounds_of c.args.limits) c.args.bytes.now read.0 read.1)
