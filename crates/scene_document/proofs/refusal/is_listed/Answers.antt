use Rattle.std.proofs.Common.{◌∙◌}
use Rattle.scene_document.proofs.IdLemmas.{searched-lives}
use Rattle.scene_document.proofs.refusal.is_listed.Goals as goal

pub returns : goal.returns
returns c = c.is_ok.ensures.value ∙ searched-lives c.args.ids.now c.args.id c.binary_search.result c.requires c.binary_search.ensures.position
