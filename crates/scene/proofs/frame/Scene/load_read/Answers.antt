use Rattle.std.proofs.Common.{◌≡◌, Err, sym, subst, arith}
use Rattle.std.proofs.lemmas.Result.{MatchResult-weaker}
use Rattle.scene_document.specs.Loading.{IsNotLoaded}
use Rattle.scene.proofs.frame.Scene.load_read.Goals as goal

pub place_document-requires : goal.place_document-requires
place_document-requires g c = record { limits = c.requires.limits; prepared = (c.requires.read.0, c.in_ok-prepared.ensures c.requires.read.0 c.requires.read.1) }

pub keeping-requires : goal.keeping-requires
keeping-requires g c = record { limits = c.requires.limits; placed = (c.requires.read.0, c.in_ok-opened.ensures c.requires.read.0 (c.in_ok-prepared.ensures c.requires.read.0 c.requires.read.1)) }

pub returns-in_err-prepared : goal.returns-in_err-prepared
returns-in_err-prepared g c = λ json is_read.
    let failed : c.from_residual.result ≡ Err c.in_err-prepared.field-0.0 = grind arith in
    rw failed (c.in_err-prepared.ensures json is_read)

pub returns : goal.returns
returns g c = λ json is_read.
    MatchResult-weaker c.keeping.result c.keeping.ensures
    (λ scene says. says json (c.in_ok-opened.ensures json (c.in_ok-prepared.ensures json is_read)))
    (λ error is. subst (IsNotLoaded (g.R.DocumentRules.book c.args.rules) c.args.limits.indices json) (sym is) tt)
