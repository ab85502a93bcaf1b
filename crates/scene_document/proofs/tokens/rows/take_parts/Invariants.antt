use Rattle.std.proofs.Common.{◌≡◌, false, map, All, length, Some}
use Rattle.serde_json.specs.Data.{Members}
use Rattle.serde_json.specs.Written.{members_have_float}
use Rattle.scene_document.specs.Drafts.{each, part_under, members_list}
use Rattle.scene_document.specs.DraftViews.{named, IsPart}
use Rattle.scene_document.proofs.TokenLemmas.{MembersSoFar}
use Rattle.scene_document.proofs.RowLemmas.{KeysBelow}
use Rattle.scene_document.proofs.tokens.rows.take_parts.Given as goal

abbrev pub invariant-parts : goal.invariant-parts
invariant-parts g l =
    let book = g.R.DocumentRules.book l.rules in
    (done : Members) × MembersSoFar 123 l.initial.reader l.reader done
    × (each (part_under book) (members_list done) ≡ Some (map (named g.R.DocumentRules.part_of book.part_names) l.parts.items))
    × All (IsPart g.R.DocumentRules.part_of book) l.parts.items
    × (members_have_float done ≡ false)
    × KeysBelow book.part_names l.from done

abbrev pub decreases-parts : goal.decreases-parts
decreases-parts g l = length l.reader
