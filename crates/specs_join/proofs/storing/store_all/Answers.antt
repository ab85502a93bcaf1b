use Rattle.std.proofs.Common.{◌≡◌, ◌+◌, length, sym, ap, subst, refl, ◌∙◌, arith}
use Rattle.std.proofs.lemmas.Bool.{false≢true}
use Rattle.std.specs.Vec.Iter.{into_iter_items}
use Rattle.hibitset_sets.specs.BitSet.{has_member}
use Rattle.hibitset_sets.specs.Walk.{walk}
use Rattle.specs_layouts.specs.Parts.{told}
use Rattle.specs_layouts.specs.declared.track.ComponentEvent.TheVariants as event
use Rattle.specs_join.specs.Storing.{left_at}
use Rattle.specs_layouts.proofs.CallerLemmas.{room-for-one}
use Rattle.specs_join.proofs.StoreLemmas.{moved-on, storing-begins, storing-goes-on, storing-member}
use Rattle.specs_join.proofs.storing.store_all.Goals as goal

pub loop-value-init : goal.loop-value-init
loop-value-init g c =
    let made = c.into_iter-value-iterator.ensures.into_iter_gives in
    let begins =
    (λ j. left_at (sym c.mask.ensures.value j) (c.into_parts.ensures.masks j) (c.into_parts.ensures.prefix j))
    ∙ (λ j. left_at (sym c.iter.ensures.set j).now c.iter.result.masks c.iter.result.prefix)
    ∙ c.iter.ensures.items
    ∙ ap (λ set. walk (has_member set)) (c.mask.ensures.value ∙ c.in_ok-make_room.ensures.mask) in
    record {
      mask = c.in_ok-make_room.ensures.mask;
      placed = c.into_parts.ensures.placed;
      emission = c.in_ok-make_room.ensures.emission;
      counted = made.1 ∙ c.args.values.ok.0 ∙ ap length (sym made.0);
      room = subst (g.T.Storage.UnprotectedStorage.has_room c.make_room.new.self.inner) (c.len.ensures ∙ c.args.values.ok.0 ∙ ap length (sym made.0)) c.in_ok-make_room.ensures.ok;
      storing = storing-begins _ _ _ _ _ _ _ _ _ begins made.0 c.in_ok-make_room.ensures.same c.in_ok-make_room.ensures.events;
    }

pub get_mut-requires : goal.get_mut-requires
get_mut-requires g c =
    let at = c.loop-value in
    let next = moved-on c.mask-in-loop-value.result.now at.storage.mask c.mask-in-loop-value.ensures.value at.masks at.prefix c.in-Some-next_index.index c.next_index.new.masks c.next_index.new.prefix c.in-Some-next_index.ensures.item in
    sym (c.mask-in-loop-value.ensures.agrees c.in-Some-next_index.index)
    ∙ ap (λ set. has_member set c.in-Some-next_index.index) at.invariant.mask
    ∙ storing-member _ _ _ _ _ _ _ _ _ at.invariant.storing (has_member c.args.storage.now.mask) refl c.in-Some-next_index.index _ next

pub unreachable-requires-in-Err : goal.unreachable-requires-in-Err
unreachable-requires-in-Err g c =
    let at = c.loop-value in
    let room = g.T.Storage.UnprotectedStorage.has_room at.storage.inner in
    let count = length (into_iter_items c.next.new.self) in
    let longer = ap length c.in-Some.ensures.steps.0 in
    let left : length (into_iter_items at.value-iterator) ≡ count + 1 = omega (arith, longer) in
    absurd (false≢true (c.in-Err.ensures.within_room (room-for-one room (g.met.T.Storage.UnprotectedStorage.room_for_fewer at.storage.inner) count (subst room left at.invariant.room))))

pub loop-value-preserved : goal.loop-value-preserved
loop-value-preserved g c =
    let at = c.loop-value in
    let index = c.in-Some-next_index.index in
    let given = c.in-Some.ensures.steps in
    let next = moved-on c.mask-in-loop-value.result.now at.storage.mask c.mask-in-loop-value.ensures.value at.masks at.prefix index c.next_index.new.masks c.next_index.new.prefix c.in-Some-next_index.ensures.item in
    let storage = g.met.T.Storage.UnprotectedStorage in
    let longer = ap length given.0 in
    let count = length (into_iter_items c.next.new.self) in
    let left : length (into_iter_items at.value-iterator) ≡ count + 1 = omega (arith, longer) in
    let counted = at.invariant.counted in
    let one = given.1 in
    let member =
    sym (c.mask-in-loop-value.ensures.agrees index)
    ∙ ap (λ set. has_member set index) at.invariant.mask
    ∙ storing-member _ _ _ _ _ _ _ _ _ at.invariant.storing (has_member c.args.storage.now.mask) refl index _ next in
    record {
      mask = at.invariant.mask;
      placed = c.next_index.ensures.placed;
      emission = storage.written_emits at.storage.inner index c.in-Some.value ∙ at.invariant.emission;
      counted = omega (arith, longer, counted, one);
      room = storage.written_room at.storage.inner index c.in-Some.value count (subst (g.T.Storage.UnprotectedStorage.has_room at.storage.inner) left at.invariant.room);
      storing =
          storing-goes-on _ _ _ _ _ _ _ _ _ at.invariant.storing (has_member c.args.storage.now.mask) refl index _ next c.in-Some.value _ given.0 _
          (storage.written_puts at.storage.inner index c.in-Some.value member)
          _ (storage.written_tells at.storage.inner index c.in-Some.value ∙ ap (λ emits. told emits (g.T.Storage.UnprotectedStorage.events at.storage.inner) (event.Modified index)) at.invariant.emission);
    }
