use Rattle.std.proofs.Common.{Some}
use Rattle.hibitset_sets.specs.BitSet.{has_member}
use Rattle.hibitset_sets.specs.Iter.{left_of}
use Rattle.specs_saveload.proofs.SaveLemmas.{IsUnderWay}
use Rattle.specs_saveload.proofs.recursive.marked_entities.Given as goal

abbrev pub invariant-loop-id : goal.invariant-loop-id
invariant-loop-id g l =
    IsUnderWay (λ item. Some item.0) l.entities (g.M.Storage.UnprotectedStorage.part_at l.markers.inner) l.list.items (left_of (λ b. has_member b.now) l.id-iterator)
