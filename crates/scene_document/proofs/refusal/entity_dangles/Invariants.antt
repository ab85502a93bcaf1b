use Rattle.std.proofs.Common.{◌≡◌, false, take}
use Rattle.std.specs.List.{list_any}
use Rattle.scene_document.specs.Refusals.{datum_dangles}
use Rattle.scene_document.proofs.refusal.entity_dangles.Given as goal

abbrev pub invariant-loop-part : goal.invariant-loop-part
invariant-loop-part g l = list_any (datum_dangles g.R.DocumentRules.part_of l.ids) (take l.part-index l.entity.parts.items) ≡ false
