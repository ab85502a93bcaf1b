use Rattle.std.proofs.Common.{◌≡◌, ◌+◌, ◌*◌, false, length, map}
use Rattle.serde_json.specs.View.{view, members_view}
use Rattle.serde_json.specs.Written.{members_have_float}
use Rattle.scene_document.proofs.TokenLemmas.{ItemsSoFar, MembersSoFar, NoFloats}
use Rattle.scene_document.proofs.tokens.values.+plain.Given as goal

abbrev pub decreases-take_value : goal.decreases-take_value
decreases-take_value l = 3 * l.depth

abbrev pub decreases-take_items : goal.decreases-take_items
decreases-take_items l = 3 * l.depth + 1

abbrev pub decreases-take_object : goal.decreases-take_object
decreases-take_object l = 3 * l.depth + 2

abbrev pub decreases-take_member : goal.decreases-take_member
decreases-take_member l = 3 * l.depth + 1

abbrev pub invariant-take_items-items : goal.invariant-take_items-items
invariant-take_items-items l =
    ItemsSoFar l.depth l.initial.reader l.reader (map view l.values.items) × NoFloats (map view l.values.items)

abbrev pub decreases-take_items-items : goal.decreases-take_items-items
decreases-take_items-items l = length l.reader

abbrev pub invariant-take_object-members : goal.invariant-take_object-members
invariant-take_object-members l =
    MembersSoFar l.depth l.initial.reader l.reader (members_view l.found.entries)
    × (members_have_float (members_view l.found.entries) ≡ false)

abbrev pub decreases-take_object-members : goal.decreases-take_object-members
decreases-take_object-members l = length l.reader
