use Rattle.std.specs.Global.{Vec}
use Rattle.std.proofs.Common.{◌≡◌, ◌≤◌, ◌<◌, ℕ, Option, length, slice_get, ap, ◌∙◌, arith}
use Rattle.std.proofs.lemmas.List.{length-set}
use Rattle.std.proofs.lemmas.List.Elements.{AllWithin-more_set}
use Rattle.scene_model.specs.Slots.{filled}
use Rattle.scene.specs.Rows.{datum_at}
use Rattle.scene.proofs.KeptLemmas.{same-columns}
use Rattle.scene.proofs.snapshot.kept.KeptScene.make_room.Goals as goal

pub loop-place-preserved : goal.loop-place-preserved
loop-place-preserved g c =
    let so_far = c.loop-place.invariant in
    let columns = c.loop-place.self.columns.items in
    let column = c.lengthen-in-loop-place.new.slots in
    let below : c.loop-place.place < length columns = omega (arith, so_far.course.kinds) in
    record {
      room = so_far.room;
      done = AllWithin-more_set columns c.loop-place.place column below (λ one. c.args.count ≤ length one.items) so_far.done c.in_ok-lengthen-2.ensures.ok;
      seats = so_far.seats;
      rows = λ place index. same-columns columns c.loop-place.place column c.index_mut.result.now below (λ i. c.lengthen-in-loop-place.ensures.same i ∙ ap (λ (v : Vec (Option _)). filled (slice_get v.items i)) c.index_mut.ensures.value) place index ∙ so_far.rows place index;
      course = record { kinds = length-set columns c.loop-place.place column ∙ so_far.course.kinds; next = so_far.course.next; globals = so_far.course.globals };
      changes = so_far.changes;
    }

pub returns-in_err-lengthen-2-clause-rows : goal.returns-in_err-lengthen-2-clause-rows
returns-in_err-lengthen-2-clause-rows g c place index =
    same-columns c.loop-place.self.columns.items c.loop-place.place c.lengthen-in-loop-place.new.slots c.index_mut.result.now (omega (arith, c.loop-place.invariant.course.kinds)) (λ i. c.lengthen-in-loop-place.ensures.same i ∙ ap (λ (v : Vec (Option _)). filled (slice_get v.items i)) c.index_mut.ensures.value) place index ∙ c.loop-place.invariant.rows place index
