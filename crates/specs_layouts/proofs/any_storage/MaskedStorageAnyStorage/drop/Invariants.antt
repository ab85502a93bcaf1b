use Rattle.std.proofs.Common.{◌-◌, length, take}
use Rattle.specs_layouts.specs.Drops.{DropsAll, ids_of}
use Rattle.specs_layouts.proofs.any_storage.MaskedStorageAnyStorage.drop.Given as goal

abbrev pub invariant-loop-entity : goal.invariant-loop-entity
invariant-loop-entity g l =
    let storage = g.T.Storage.UnprotectedStorage in
    record {
      dropped : DropsAll (storage.part_at l.fn.self.inner) (storage.events l.fn.self.inner) (storage.emits l.fn.self.inner) (ids_of (take l.entity-index l.entities)) (storage.part_at l.self.inner) (storage.events l.self.inner) (storage.emits l.self.inner);
      room : storage.has_room l.self.inner (length l.entities - l.entity-index);
    }
