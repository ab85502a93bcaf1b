use Rattle.std.proofs.Common.{◌≡◌, Some, ap, subst}
use Rattle.serde_json.specs.View.{view}
use Rattle.scene_document.specs.Drafts.{part_under}
use Rattle.scene_document.specs.DraftViews.{named, IsPart}
use Rattle.scene_document.specs.ShapeWords.{members_seen}
use Rattle.scene_document.proofs.ShapeLemmas.{read_turn}
use Rattle.scene_document.proofs.shape.entities.read_each_part.Goals as goal

pub loop-kind-preserved : goal.loop-kind-preserved
loop-kind-preserved g c =
    let book = g.R.DocumentRules.book c.args.rules.now in
    let part = c.in_ok-part.part in
    let found = subst (λ text. (part_under book (text, view c.in-Some.value.now) ≡ Some ((named g.R.DocumentRules.part_of (g.R.DocumentRules.book c.args.rules.now).part_names) part)) × (IsPart g.R.DocumentRules.part_of (g.R.DocumentRules.book c.args.rules.now)) part) c.as_str.ensures.value c.in_ok-part.ensures in
    rw c.in_ok-push.ensures.items (read_turn _ _ _ _ _ _ _ _ _ c.loop-kind.invariant (ap members_seen c.in-Some.ensures.steps) found)
