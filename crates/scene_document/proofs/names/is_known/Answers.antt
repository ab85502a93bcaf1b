use Rattle.std.proofs.Common.{◌∙◌}
use Rattle.scene_document.proofs.NameLemmas.{contains-among}
use Rattle.scene_document.proofs.names.is_known.Goals as goal

pub returns : goal.returns
returns c = c.contains.ensures ∙ contains-among c.args.name.now c.args.names.now.keys
