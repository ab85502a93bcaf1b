use Rattle.std.proofs.Common.{sym, subst}
use Rattle.std.proofs.lemmas.Result.{MatchResult-weaker}
use Rattle.serde_json.specs.View.{view}
use Rattle.scene_document.specs.Loading.{IsNotLoaded}
use Rattle.scene.proofs.frame.Scene.load.Goals as goal

pub place_document-requires : goal.place_document-requires
place_document-requires g c = record { limits = c.requires; prepared = (view c.args.value.now, c.in_ok-prepared.ensures) }

pub keeping-requires : goal.keeping-requires
keeping-requires g c = record { limits = c.requires; placed = (view c.args.value.now, c.in_ok-opened.ensures (view c.args.value.now) c.in_ok-prepared.ensures) }

pub returns : goal.returns
returns g c =
    MatchResult-weaker c.keeping.result c.keeping.ensures
    (λ scene says. says (view c.args.value.now) (c.in_ok-opened.ensures (view c.args.value.now) c.in_ok-prepared.ensures))
    (λ error is. subst (IsNotLoaded (g.R.DocumentRules.book c.args.rules) c.args.limits.indices (view c.args.value.now)) (sym is) tt)
