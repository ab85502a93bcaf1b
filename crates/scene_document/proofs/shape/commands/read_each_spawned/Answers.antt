use Rattle.std.proofs.Common.{◌≡◌, ◌++◌, Some, map, option_map, ap, subst, ◌∙◌, append-nil}
use Rattle.serde_json.specs.View.{view}
use Rattle.std.proofs.lemmas.List.Elements.{All-map}
use Rattle.scene_document.specs.Drafts.{each, part_under}
use Rattle.scene_document.specs.DraftViews.{plain_part, IsKnownDraft}
use Rattle.scene_document.specs.ShapeWords.{members_seen}
use Rattle.scene_document.proofs.ShapeLemmas.{read_turn, keys_differ, each_apart}
use Rattle.scene_document.proofs.shape.commands.read_each_spawned.Goals as goal

pub loop-kind-preserved : goal.loop-kind-preserved
loop-kind-preserved g c =
    let book = g.R.DocumentRules.book c.args.rules.now in
    let part_of = g.R.DocumentRules.part_of in
    let part = c.in_ok-part.part in
    let found = subst (λ text. (part_under book (text, view c.in-Some.value.now) ≡ Some (plain_part part_of part)) × IsKnownDraft book (plain_part part_of part)) c.as_str.ensures.value c.in_ok-part.ensures in
    rw c.in_ok-push.ensures.items (read_turn _ _ _ _ _ _ _ _ _ c.loop-kind.invariant (ap members_seen c.in-Some.ensures.steps) found)

pub returns : goal.returns
returns g c =
    let book = g.R.DocumentRules.book c.args.rules.now in
    let meaning = plain_part g.R.DocumentRules.part_of in
    let parts = c.loop-kind.parts.items in
    let entries = c.args.members.now.entries in
    let read : each (part_under book) (members_seen entries) ≡ Some (map meaning parts) =
    c.loop-kind.invariant.so_far ∙ ap (λ left. option_map (λ rest. map meaning parts ++ rest) (each (part_under book) (members_seen left))) c.in-None.ensures.steps.0 ∙ ap Some (append-nil (map meaning parts)) in (
      read,
      (All-map (IsKnownDraft book) meaning parts c.loop-kind.invariant.all_good, each_apart book (members_seen entries) (map meaning parts) (keys_differ entries c.into_iter-kind-iterator.ensures.into_iter_gives.5) read),
    )
