use Rattle.scene_document.specs.Drafts.{part_under}
use Rattle.scene_document.specs.DraftViews.{named, IsPart}
use Rattle.scene_document.specs.ShapeWords.{members_seen, IsReadUpTo}
use Rattle.scene_document.proofs.shape.entities.read_each_part.Given as goal

abbrev pub invariant-loop-kind : goal.invariant-loop-kind
invariant-loop-kind g l = IsReadUpTo (part_under (g.R.DocumentRules.book l.rules)) (named g.R.DocumentRules.part_of (g.R.DocumentRules.book l.rules).part_names) (IsPart g.R.DocumentRules.part_of (g.R.DocumentRules.book l.rules)) (members_seen l.fn.members.entries) (members_seen l.kind-iterator) l.parts.items
