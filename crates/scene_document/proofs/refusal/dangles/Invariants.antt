use Rattle.std.proofs.Common.{◌≡◌, false, take}
use Rattle.std.specs.List.{list_any}
use Rattle.scene_document.specs.Refusals.{entity_dangles}
use Rattle.scene_document.proofs.refusal.dangles.Given as goal

abbrev pub invariant-loop-entity : goal.invariant-loop-entity
invariant-loop-entity g l = list_any (entity_dangles g.R.DocumentRules.part_of l.ids) (take l.entity-index l.draft.entities.items) ≡ false
