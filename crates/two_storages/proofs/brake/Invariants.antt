use Rattle.std.proofs.Common.{◌≡◌, length}
use Rattle.specs.specs.ForStorages.{has_member, slot_at, slots_of, CanGoOn, indices_left}
use Rattle.two_storages.proofs.brake.Given as goal

abbrev pub invariant-loop-cursor : goal.invariant-loop-cursor
invariant-loop-cursor l =
    record {
      same_reference : l.cursor.storage.ghost_name ≡ l.initial.cursor.storage.ghost_name;
      ready : CanGoOn (λ mask. has_member mask.now) (λ inner. slot_at (slots_of inner.now)) l.cursor;
      mask : l.cursor.storage.now.mask ≡ l.fn.velocities.mask;
    }

abbrev pub decreases-loop-cursor : goal.decreases-loop-cursor
decreases-loop-cursor l = length (indices_left (λ mask. has_member mask.now) l.cursor)
