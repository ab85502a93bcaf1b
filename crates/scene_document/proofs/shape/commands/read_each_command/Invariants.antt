use Rattle.std.proofs.Common.{drop}
use Rattle.scene_document.specs.Drafts.{command_from}
use Rattle.scene_document.specs.DraftViews.{plain_asked}
use Rattle.scene_document.specs.ShapeWords.{IsAsked}
use Rattle.scene_document.specs.ShapeWords.{items_seen, IsReadUpTo}
use Rattle.scene_document.proofs.shape.commands.read_each_command.Given as goal

abbrev pub invariant-loop-value : goal.invariant-loop-value
invariant-loop-value g l = IsReadUpTo (command_from (g.R.DocumentRules.book l.rules)) (plain_asked g.R.DocumentRules.part_of) (IsAsked g.R.DocumentRules.part_of (g.R.DocumentRules.book l.rules)) (items_seen l.values) (items_seen (drop l.value-index l.values)) l.list.items
