use Rattle.std.proofs.Common.{◌≡◌, false, map, All, codes, length, Some}
use Rattle.serde_json.specs.Data.{Items, array, null}
use Rattle.serde_json.specs.Find.{get_member}
use Rattle.serde_json.specs.View.{members_view}
use Rattle.serde_json.specs.Written.{items_have_float, members_have_float}
use Rattle.scene_document.specs.Apart.{with_other}
use Rattle.scene_document.specs.Drafts.{each, entity_from, items_list}
use Rattle.scene_document.specs.DraftViews.{plain_entity, IsEntity}
use Rattle.scene_document.proofs.TokenLemmas.{MembersSoFar}
use Rattle.scene_document.proofs.ApartLemmas.{HasNot}
use Rattle.scene_document.proofs.tokens.take_members.Given as goal

abbrev pub invariant-first : goal.invariant-first
invariant-first g l =
    MembersSoFar 126 l.initial.reader l.reader (members_view l.found.entries)
    × HasNot (codes "entities") (members_view l.found.entries)
    × (members_have_float (members_view l.found.entries) ≡ false)

abbrev pub decreases-first : goal.decreases-first
decreases-first g l = length l.reader

abbrev pub invariant-rest : goal.invariant-rest
invariant-rest g l =
    let book = g.R.DocumentRules.book l.rules in
    (items : Items) × MembersSoFar 126 l.fn.reader l.reader (with_other (codes "entities") (array items) (members_view l.found.entries))
    × (get_member (codes "entities") (members_view l.found.entries) ≡ Some null)
    × (each (entity_from book) (items_list items) ≡ Some (map (plain_entity g.R.DocumentRules.part_of book.part_names) l.entities.items))
    × All (IsEntity g.R.DocumentRules.part_of book) l.entities.items
    × (items_have_float items ≡ false)
    × (members_have_float (members_view l.found.entries) ≡ false)

abbrev pub decreases-rest : goal.decreases-rest
decreases-rest g l = length l.reader
