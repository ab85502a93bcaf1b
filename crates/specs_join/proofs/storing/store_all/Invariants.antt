use Rattle.std.proofs.Common.{◌≡◌, length}
use Rattle.std.specs.Vec.Iter.{into_iter_items, into_iter_len}
use Rattle.hibitset_sets.specs.BitSet.{has_member}
use Rattle.hibitset_sets.specs.Walk.{walk, IsPlaced}
use Rattle.specs_join.specs.Storing.{left_at}
use Rattle.specs_join.proofs.StoreLemmas.{IsStoring}
use Rattle.specs_join.proofs.storing.store_all.Given as goal

abbrev pub invariant-loop-value : goal.invariant-loop-value
invariant-loop-value g l =
    record {
      mask : l.storage.mask ≡ l.fn.storage.mask;
      placed : IsPlaced l.masks l.prefix;
      emission : g.T.Storage.UnprotectedStorage.emits l.storage.inner ≡ g.T.Storage.UnprotectedStorage.emits l.fn.storage.inner;
      counted : into_iter_len l.value-iterator ≡ length (into_iter_items l.value-iterator);
      room : g.T.Storage.UnprotectedStorage.has_room l.storage.inner (length (into_iter_items l.value-iterator));
      storing : IsStoring (g.T.Storage.UnprotectedStorage.part_at l.fn.storage.inner) (g.T.Storage.UnprotectedStorage.part_at l.storage.inner) (walk (has_member l.fn.storage.mask)) (left_at l.storage.mask l.masks l.prefix) l.fn.values.items (into_iter_items l.value-iterator) (g.T.Storage.UnprotectedStorage.emits l.fn.storage.inner) (g.T.Storage.UnprotectedStorage.events l.fn.storage.inner) (g.T.Storage.UnprotectedStorage.events l.storage.inner);
    }
