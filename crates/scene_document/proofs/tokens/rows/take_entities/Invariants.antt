use Rattle.std.proofs.Common.{◌≡◌, List, map, All, length, Some}
use Rattle.scene_model.specs.Parts.{Json}
use Rattle.scene_document.specs.Drafts.{each, entity_from}
use Rattle.scene_document.specs.DraftViews.{plain_entity, IsEntity}
use Rattle.scene_document.proofs.TokenLemmas.{ItemsSoFar, NoFloats}
use Rattle.scene_document.proofs.tokens.rows.take_entities.Given as goal

abbrev pub invariant-entities : goal.invariant-entities
invariant-entities g l =
    let book = g.R.DocumentRules.book l.rules in
    (done : List Json) × ItemsSoFar 125 l.initial.reader l.reader done
    × (each (entity_from book) done ≡ Some (map (plain_entity g.R.DocumentRules.part_of book.part_names) l.entities.items))
    × All (IsEntity g.R.DocumentRules.part_of book) l.entities.items
    × NoFloats done

abbrev pub decreases-entities : goal.decreases-entities
decreases-entities g l = length l.reader
