use Rattle.std.proofs.Common.{rules, sym, subst}
use Rattle.std.proofs.lemmas.Result.{MatchResult-weaker}
use Rattle.scene_document.specs.Loading.{IsNotLoaded}
use Rattle.scene.proofs.load.prepare_apart.Goals as goal

pub prepare_draft-requires : goal.prepare_draft-requires
prepare_draft-requires g c =
    let read = c.in_ok-draft.ensures c.requires.0 c.requires.1 in
    record { document = record { plain = read.0; indices = c.args.limits.indices; json = c.requires.0; is = read.1; says = read.2; made = read.3 } }

pub returns : goal.returns
returns g c = λ json apart.
    let read = c.in_ok-draft.ensures json apart in
    MatchResult-weaker c.prepare_draft.result c.prepare_draft.ensures
    (λ prepared so. so c.args.limits json read.0 read.1 read.2)
    (λ error is. subst (IsNotLoaded (g.R.DocumentRules.book c.args.rules.now) c.args.limits.indices json) (sym is) tt)

pub returns-in_err-draft : goal.returns-in_err-draft
returns-in_err-draft g c = λ json apart. let why = c.in_err-draft.ensures json apart in search rules
