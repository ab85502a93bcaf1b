use Rattle.std.proofs.Common.{drop}
use Rattle.scene_document.specs.Drafts.{entity_from}
use Rattle.scene_document.specs.DraftViews.{plain_entity, IsEntity}
use Rattle.scene_document.specs.ShapeWords.{items_seen, IsReadUpTo}
use Rattle.scene_document.proofs.shape.entities.read_each_entity.Given as goal

abbrev pub invariant-loop-value : goal.invariant-loop-value
invariant-loop-value g l = IsReadUpTo (entity_from (g.R.DocumentRules.book l.rules)) (plain_entity g.R.DocumentRules.part_of (g.R.DocumentRules.book l.rules).part_names) (IsEntity g.R.DocumentRules.part_of (g.R.DocumentRules.book l.rules)) (items_seen l.values) (items_seen (drop l.value-index l.values)) l.entities.items
