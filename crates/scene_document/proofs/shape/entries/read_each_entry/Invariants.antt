use Rattle.std.proofs.Common.{drop}
use Rattle.scene_document.specs.Drafts.{entry_from}
use Rattle.scene_document.specs.DraftViews.{plain_draft}
use Rattle.scene_document.specs.ShapeWords.{items_seen, IsEntry, IsReadUpTo}
use Rattle.scene_document.proofs.shape.entries.read_each_entry.Given as goal

abbrev pub invariant-loop-value : goal.invariant-loop-value
invariant-loop-value g l = IsReadUpTo (entry_from (g.R.DocumentRules.book l.rules)) (plain_draft) (IsEntry g.R.DocumentRules.kind_of g.R.DocumentRules.config_of g.R.DocumentRules.declared g.R.DocumentRules.said_time (g.R.DocumentRules.made_by l.rules) (g.R.DocumentRules.book l.rules)) (items_seen l.values) (items_seen (drop l.value-index l.values)) l.entries.items
