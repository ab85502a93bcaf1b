use Rattle.std.proofs.Common.{◌≡◌, false, [], subst}
use Rattle.std.specs.FinMap as map
use Rattle.shred_world.specs.declared.resource_id.ResourceId.{ResourceId}
use Rattle.shred_world.specs.ResourceIds.{same_id}
use Rattle.specs_world.specs.Dropping.{SlotDrops, HasRoomAt}
use Rattle.specs_world.proofs.DroppingLemmas.{rests-step, room-step, others-step}
use Rattle.specs_world.proofs.dropping.make_room_in.Goals as goal

pub returns-in_err-make_room_at-clause-rests : goal.returns-in_err-make_room_at-clause-rests
returns-in_err-make_room_at-clause-rests g c =
    let kinds = c.args.kinds.now in
    let place = c.loop-kind.kind-index in
    let w = c.loop-kind.world in
    let w' = c.make_room_at.new.world in
    let is = c.from_type_id.ensures in
    rests-step g.V.AnyStorage.drops c.args.world.now w w' kinds place c.loop-kind-test.true
    (subst (λ id. (other : ResourceId) → same_id other id ≡ false → map.get w' other ≡ map.get w other) is c.in_err-make_room_at.ensures.others)
    g.met.V.AnyStorage.drops_append c.loop-kind.invariant.rests
    (subst (λ id. SlotDrops g.V.AnyStorage.drops [] (map.get w id) (map.get w' id)) is c.in_err-make_room_at.ensures.rests)

pub loop-kind-preserved : goal.loop-kind-preserved
loop-kind-preserved g c =
    let kinds = c.args.kinds.now in
    let place = c.loop-kind.kind-index in
    let w = c.loop-kind.world in
    let w' = c.make_room_at.new.world in
    let is = c.from_type_id.ensures in
    let others = subst (λ id. (other : ResourceId) → same_id other id ≡ false → map.get w' other ≡ map.get w other) is c.in_ok-make_room_at.ensures.others in
    record {
      rests =
          rests-step g.V.AnyStorage.drops c.args.world.now w w' kinds place c.loop-kind-test.true others
          g.met.V.AnyStorage.drops_append c.loop-kind.invariant.rests
          (subst (λ id. SlotDrops g.V.AnyStorage.drops [] (map.get w id) (map.get w' id)) is c.in_ok-make_room_at.ensures.rests);
      room =
          room-step g.V.AnyStorage.drops c.args.world.now w w' kinds place c.loop-kind-test.true others
          g.V.AnyStorage.has_room c.args.count c.loop-kind.invariant.room
          (subst (λ id. HasRoomAt g.V.AnyStorage.has_room w' id c.args.count) is c.in_ok-make_room_at.ensures.room);
      others = others-step g.V.AnyStorage.drops c.args.world.now w w' kinds place c.loop-kind-test.true others c.loop-kind.invariant.others;
    }
