use Rattle.std.proofs.Common.{◌≡◌, ℕ, ◌+◌, ◌-◌, List, length, take, arith, sym, subst}
use Rattle.std.proofs.lemmas.Bool.{false≢true}
use Rattle.specs_entity.specs.Life.{LifeAt}
use Rattle.specs_layouts.specs.Drops.{ids_of, DropsAll}
use Rattle.specs_layouts.proofs.DropSteps.{drops-more, ids-next, room-for-one}
use Rattle.specs_layouts.proofs.any_storage.MaskedStorageAnyStorage.drop.Goals as goal

pub unreachable-requires : goal.unreachable-requires
unreachable-requires g c =
    let room = g.T.Storage.UnprotectedStorage.has_room c.loop-entity.self.inner in
    let count = length c.args.entities.now - (c.loop-entity.entity-index + 1) in
    let left : length c.args.entities.now - c.loop-entity.entity-index ≡ count + 1 = omega (arith, c.loop-entity-test.true) in
    absurd (false≢true (c.in-Err.ensures.within_room (room-for-one room (g.met.T.Storage.UnprotectedStorage.room_for_fewer c.loop-entity.self.inner) count (subst room left c.loop-entity.invariant.room))))

pub loop-entity-preserved : goal.loop-entity-preserved
loop-entity-preserved g c =
    let storage = g.T.Storage.UnprotectedStorage in
    let start = c.args.self.now.inner in
    let before = c.loop-entity.self.inner in
    let after = c.drop.new.self.inner in
    let place = c.loop-entity.entity-index in
    let entities : List LifeAt = c.args.entities.now in
    record {
      dropped =
          subst (λ (ids : List ℕ). DropsAll (storage.part_at start) (storage.events start) (storage.emits start) ids (storage.part_at after) (storage.events after) (storage.emits after))
          (sym (ids-next entities place c.entity-item.result c.id.result c.loop-entity-test.true c.entity-item.is c.id.ensures))
          (drops-more (storage.part_at start) (storage.events start) (storage.emits start) (ids_of (take place entities)) (storage.part_at before) (storage.events before) (storage.emits before) c.loop-entity.invariant.dropped
          c.id.result (storage.part_at after) (storage.events after) (storage.emits after) c.in-Ok.ensures.ok c.in-Ok.ensures.events c.in-Ok.ensures.emission);
      room =
          let count = length entities - (place + 1) in
          let left : length entities - place ≡ count + 1 = omega (arith, c.loop-entity-test.true) in
          c.in-Ok.ensures.room count (subst (storage.has_room before) left c.loop-entity.invariant.room);
    }
