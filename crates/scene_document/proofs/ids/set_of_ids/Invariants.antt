use Rattle.std.proofs.Common.{length, map, drop}
use Rattle.scene_document.proofs.IdLemmas.{IsSetOf}
use Rattle.scene_document.proofs.ids.set_of_ids.Given as goal

abbrev pub invariant-loop-index : goal.invariant-loop-index
invariant-loop-index g l = IsSetOf (map (λ entity. entity.id) (drop l.index l.entities)) (length (drop l.index l.entities)) l.ids.keys
