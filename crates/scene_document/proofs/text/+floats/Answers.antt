use Rattle.std.proofs.Common.{◌≡◌, ap, ◌∙◌, rules}
use Rattle.std.specs.BTreeMap.{values}
use Rattle.serde_json.specs.View.{items_view}
use Rattle.serde_json.specs.Written.{items_have_float}
use Rattle.scene_document.proofs.TextLemmas.{members_have_float-values}
use Rattle.scene_document.proofs.text.+floats.Goals as goal

pub members_have_float-loop-member-init : goal.members_have_float-loop-member-init
members_have_float-loop-member-init t c =
    let all : values c.args.members.now ≡ c.into_iter-member-iterator.result = search rules in
    members_have_float-values c.args.members.now.entries ∙ ap (λ vs. items_have_float (items_view vs)) all
