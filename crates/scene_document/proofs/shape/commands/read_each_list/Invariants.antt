use Rattle.std.proofs.Common.{drop}
use Rattle.std.specs.List.{All}
use Rattle.scene_document.specs.Drafts.{command_list_from}
use Rattle.scene_document.specs.DraftViews.{plain_list}
use Rattle.scene_document.specs.ShapeWords.{IsAsked}
use Rattle.scene_document.specs.ShapeWords.{items_seen, IsReadUpTo}
use Rattle.scene_document.proofs.shape.commands.read_each_list.Given as goal

abbrev pub invariant-loop-value : goal.invariant-loop-value
invariant-loop-value g l = IsReadUpTo (command_list_from (g.R.DocumentRules.book l.rules)) (plain_list g.R.DocumentRules.part_of) (λ list. All (IsAsked g.R.DocumentRules.part_of (g.R.DocumentRules.book l.rules)) list.items) (items_seen l.values) (items_seen (drop l.value-index l.values)) l.lists.items
