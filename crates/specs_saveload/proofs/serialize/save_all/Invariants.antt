use Rattle.hibitset_sets.specs.BitSet.{has_member}
use Rattle.hibitset_sets.specs.Iter.{left_of}
use Rattle.specs_saveload.specs.Saved.{entry_of, name_of}
use Rattle.specs_saveload.proofs.SaveLemmas.{IsUnderWay}
use Rattle.specs_saveload.proofs.serialize.save_all.Given as goal

abbrev pub invariant-loop-id : goal.invariant-loop-id
invariant-loop-id g l =
    let markers = g.M.Storage.UnprotectedStorage.part_at l.markers.inner in
    IsUnderWay (entry_of (g.S.SerializeComponents.plain (name_of l.entities markers)) (g.S.SerializeComponents.parts_at l.storages)) l.entities markers l.list.items (left_of (λ b. has_member b.now) l.id-iterator)
