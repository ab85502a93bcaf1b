use Rattle.std.proofs.Common.{◌≡◌, false, length, subst, sym}
use Rattle.std.specs.FinMap as map
use Rattle.shred_world.specs.declared.resource_id.ResourceId.{ResourceId}
use Rattle.shred_world.specs.ResourceIds.{same_id}
use Rattle.specs_layouts.specs.Drops.{ids_of}
use Rattle.specs_world.specs.Dropping.{SlotDrops, HasRoomAt}
use Rattle.specs_world.proofs.DroppingLemmas.{drops-step, room-left}
use Rattle.specs_world.proofs.dropping.drop_in.Goals as goal

pub drop_at-requires : goal.drop_at-requires
drop_at-requires g c =
    let kinds = c.args.kinds.now in
    let place = c.loop-kind.kind-index in
    record {
      room =
          subst (λ id. HasRoomAt g.V.AnyStorage.has_room c.loop-kind.world id (length c.args.entities.now)) (sym c.from_type_id.ensures)
          (room-left g.V.AnyStorage.drops c.args.world.now c.loop-kind.world kinds place c.loop-kind-test.true c.requires.once (ids_of c.args.entities.now) c.loop-kind.invariant.dropped
          g.V.AnyStorage.has_room (length c.args.entities.now) c.requires.room);
    }

pub loop-kind-preserved : goal.loop-kind-preserved
loop-kind-preserved g c =
    let kinds = c.args.kinds.now in
    let place = c.loop-kind.kind-index in
    let w = c.loop-kind.world in
    let w' = c.drop_at.new.world in
    let is = c.from_type_id.ensures in
    let others = subst (λ id. (other : ResourceId) → same_id other id ≡ false → map.get w' other ≡ map.get w other) is c.drop_at.ensures.others in
    record {
      dropped =
          drops-step g.V.AnyStorage.drops c.args.world.now w w' kinds place c.loop-kind-test.true others c.requires.once (ids_of c.args.entities.now) c.loop-kind.invariant.dropped
          (subst (λ id. SlotDrops g.V.AnyStorage.drops (ids_of c.args.entities.now) (map.get w id) (map.get w' id)) is c.drop_at.ensures.here);
    }
