use Rattle.std.proofs.Common.{length}
use Rattle.scene_document.specs.Drafts.{global_under}
use Rattle.scene_document.specs.DraftViews.{named, IsPlaced}
use Rattle.scene_document.specs.ShapeWords.{members_seen, IsReadUpTo}
use Rattle.scene_document.proofs.shape.entities.read_each_global.Given as goal

abbrev pub invariant-loop-name : goal.invariant-loop-name
invariant-loop-name g l = IsReadUpTo (global_under (g.R.DocumentRules.book l.rules)) (named g.R.DocumentRules.global_of (g.R.DocumentRules.book l.rules).global_names) (IsPlaced (length (g.R.DocumentRules.book l.rules).global_names)) (members_seen l.fn.members.entries) (members_seen l.name-iterator) l.globals.items
