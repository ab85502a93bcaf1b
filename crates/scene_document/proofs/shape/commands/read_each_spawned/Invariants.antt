use Rattle.scene_document.specs.Drafts.{part_under}
use Rattle.scene_document.specs.DraftViews.{plain_part, IsKnownDraft}
use Rattle.scene_document.specs.ShapeWords.{members_seen, IsReadUpTo}
use Rattle.scene_document.proofs.shape.commands.read_each_spawned.Given as goal

abbrev pub invariant-loop-kind : goal.invariant-loop-kind
invariant-loop-kind g l = IsReadUpTo (part_under (g.R.DocumentRules.book l.rules)) (plain_part g.R.DocumentRules.part_of) (λ part. IsKnownDraft (g.R.DocumentRules.book l.rules) (plain_part g.R.DocumentRules.part_of part)) (members_seen l.fn.members.entries) (members_seen l.kind-iterator) l.parts.items
