use Rattle.scene_dispatch.proofs.DocumentLemmas.{document-named, document-few, document-described}
use Rattle.scene_dispatch.proofs.laws.documents_name_their_systems.Goals as goal

pub returns-clause-named : goal.returns-clause-named
returns-clause-named g c = document-named (g.R.DocumentRules.book c.args.rules.now)

pub returns-clause-few : goal.returns-clause-few
returns-clause-few g c = document-few (g.R.DocumentRules.book c.args.rules.now)

pub returns-clause-said : goal.returns-clause-said
returns-clause-said g c = document-described (g.R.DocumentRules.book c.args.rules.now)
