use Rattle.std.proofs.Common.{sym, subst}
use Rattle.std.proofs.lemmas.Result.{MatchResult-weaker}
use Rattle.serde_json.specs.View.{view}
use Rattle.scene_document.specs.Loading.{IsNotLoaded}
use Rattle.scene.proofs.load.prepare_document.Goals as goal

pub prepare_draft-requires : goal.prepare_draft-requires
prepare_draft-requires g c = record { document = record { plain = c.in_ok-draft.ensures.0; indices = c.args.limits.indices; json = view c.args.value.now; is = c.in_ok-draft.ensures.1; says = c.in_ok-draft.ensures.2; made = c.in_ok-draft.ensures.3 } }

pub returns : goal.returns
returns g c =
    let read = c.in_ok-draft.ensures in
    MatchResult-weaker c.prepare_draft.result c.prepare_draft.ensures
    (λ prepared so. so c.args.limits (view c.args.value.now) read.0 read.1 read.2)
    (λ error is. subst (IsNotLoaded (g.R.DocumentRules.book c.args.rules.now) c.args.limits.indices (view c.args.value.now)) (sym is) tt)
