use Rattle.std.specs.Vec.Iter.{into_iter_items, into_iter_len}
use Rattle.specs_saveload.specs.Reached.{named_entry}
use Rattle.specs_saveload.proofs.RecursionLemmas.{IsSaving}
use Rattle.specs_saveload.proofs.recursive.save_each.Given as goal

-- what is saved so far, and of those to come, is all
abbrev pub invariant-loop-entity : goal.invariant-loop-entity
invariant-loop-entity g l =
    IsSaving (named_entry g.S.SerializeComponents.plain (g.S.SerializeComponents.parts_at l.storages) l.entities (g.M.Storage.UnprotectedStorage.part_at l.markers.inner)) l.fn.list.items (into_iter_items l.entity-iterator) (into_iter_len l.entity-iterator) l.saved.items
