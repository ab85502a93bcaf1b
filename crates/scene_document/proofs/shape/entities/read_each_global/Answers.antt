use Rattle.std.proofs.Common.{◌≡◌, Some, length, ap, subst}
use Rattle.serde_json.specs.View.{view}
use Rattle.scene_document.specs.Drafts.{global_under}
use Rattle.scene_document.specs.DraftViews.{named, IsPlaced}
use Rattle.scene_document.specs.ShapeWords.{members_seen}
use Rattle.scene_document.proofs.ShapeLemmas.{read_turn}
use Rattle.scene_document.proofs.shape.entities.read_each_global.Goals as goal

pub loop-name-preserved : goal.loop-name-preserved
loop-name-preserved g c =
    let book = g.R.DocumentRules.book c.args.rules.now in
    let global = c.in_ok-global.global in
    let found = subst (λ text. (global_under book (text, view c.in-Some.value.now) ≡ Some ((named g.R.DocumentRules.global_of (g.R.DocumentRules.book c.args.rules.now).global_names) global)) × (IsPlaced (length (g.R.DocumentRules.book c.args.rules.now).global_names)) global) c.as_str.ensures.value c.in_ok-global.ensures in
    rw c.in_ok-push.ensures.items (read_turn _ _ _ _ _ _ _ _ _ c.loop-name.invariant (ap members_seen c.in-Some.ensures.steps) found)
