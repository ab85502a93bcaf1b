use Rattle.std.proofs.Common.{◌≡◌, false, take}
use Rattle.std.specs.FinMap as map
use Rattle.shred_world.specs.declared.resource_id.ResourceId.{ResourceId}
use Rattle.shred_world.specs.Worlds.{is_of_kinds}
use Rattle.specs_world.specs.Dropping.{Rests, HaveRoom}
use Rattle.specs_world.proofs.dropping.make_room_in.Given as goal

abbrev pub invariant-loop-kind : goal.invariant-loop-kind
invariant-loop-kind g l =
    record {
      rests : Rests g.V.AnyStorage.drops l.fn.world l.world;
      room : HaveRoom g.V.AnyStorage.has_room l.world (take l.kind-index l.kinds) l.count;
      others : (id : ResourceId) → is_of_kinds (take l.kind-index l.kinds) id ≡ false → map.get l.world id ≡ map.get l.fn.world id;
    }
