use Rattle.std.proofs.Common.{◌∙◌, ap, option_and_then}
use Rattle.scene_document.specs.Drafts.{command_under}
use Rattle.scene_document.proofs.ShapeLemmas.{no_only}
use Rattle.scene_document.proofs.shape.commands.read_only.Goals as goal

pub returns-then-len-ne1 : goal.returns-then-len-ne1
returns-then-len-ne1 g c = λ _. ap (option_and_then (command_under (g.R.DocumentRules.book c.args.rules.now))) (no_only c.args.members.now.entries (λ one. c.if-len-ne1.true (c.len.ensures.len ∙ one)))
