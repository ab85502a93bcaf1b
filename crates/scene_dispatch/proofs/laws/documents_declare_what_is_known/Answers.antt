use Rattle.scene_dispatch.proofs.DocumentLemmas.{document-described}
use Rattle.scene_dispatch.proofs.KnownLemmas.{all-known, declares-known}
use Rattle.scene_dispatch.proofs.laws.documents_declare_what_is_known.Goals as goal

pub returns : goal.returns
returns g c kinds indices json draft parts globals is =
    all-known kinds (g.R.DocumentRules.book c.args.rules.now)
    (λ kind config facts said. declares-known kinds (g.R.DocumentRules.book c.args.rules.now) parts globals facts.access (g.met.R.DocumentRules.declares_known c.args.rules.now kind config facts said)) draft.entries
    (document-described (g.R.DocumentRules.book c.args.rules.now) indices json draft is)
