use Rattle.std.proofs.Common.{◌≡◌, ◌<◌, ◌∷◌, ◌++◌, None, refl, ap, sym, subst, ◌∙◌, arith, All}
use Rattle.scene_world.specs.Putting.{each_there}
use Rattle.scene.specs.Rows.{seat_at}
use Rattle.scene.proofs.CallerLemmas.{has-room}
use Rattle.scene.proofs.KeepLemmas.{no-items, found-there, writing-begins, writing-ends, writing-passes, writing-goes}
use Rattle.scene.proofs.keeping.write_found.Goals as goal

pub loop-index-init : goal.loop-index-init
loop-index-init g c =
    writing-begins c.args.found.items c.into_iter-index-iterator.result.rest.items c.args.place c.args.count c.args.kept.now c.args.kept.now c.into_iter-index-iterator.ensures.into_iter_gives.0 refl c.requires.room

pub write-requires : goal.write-requires
write-requires g c =
    let so_far = c.loop-index.invariant in
    let rest = c.next.new.self.rest.items in
    let left = c.in-Some.ensures.steps.0 ∙ ap (λ datum. (c.in-Some.index, datum) ∷ rest) c.in-Some-datum.is in
    let split = ap (λ list. so_far.done ++ list) (sym left) ∙ so_far.split in
    record {
      place = omega (arith, c.requires.kinds, so_far.course.kinds);
      room = has-room c.loop-index.kept c.args.count c.in-Some.index so_far.room
          (found-there (λ one. one.0 < c.args.count) so_far.done c.in-Some.index c.in-Some-datum.datum rest (subst (λ list. All (λ one. one.0 < c.args.count) (each_there (λ one. one) list)) (sym split) c.requires.within));
      free = so_far.seats c.in-Some.index
          ∙ found-there (λ one. seat_at c.args.kept.now one.0 ≡ None) so_far.done c.in-Some.index c.in-Some-datum.datum rest (subst (λ list. All (λ one. seat_at c.args.kept.now one.0 ≡ None) (each_there (λ one. one) list)) (sym split) c.requires.free);
    }

pub loop-index-preserved : goal.loop-index-preserved
loop-index-preserved g c =
    let rest = c.next.new.self.rest.items in
    writing-passes c.args.found.items c.loop-index.index-iterator.rest.items c.args.place c.args.count c.args.kept.now c.loop-index.kept c.loop-index.invariant c.in-Some.index rest
    (c.in-Some.ensures.steps.0 ∙ ap (λ datum. (c.in-Some.index, datum) ∷ rest) c.in_default.is)

pub loop-index-preserved-in-Some-datum : goal.loop-index-preserved-in-Some-datum
loop-index-preserved-in-Some-datum g c =
    let rest = c.next.new.self.rest.items in
    writing-goes c.args.found.items c.loop-index.index-iterator.rest.items c.args.place c.args.count c.args.kept.now c.loop-index.kept c.loop-index.invariant c.in-Some.index rest c.in-Some-datum.datum c.write.new.self
    (c.in-Some.ensures.steps.0 ∙ ap (λ datum. (c.in-Some.index, datum) ∷ rest) c.in-Some-datum.is) c.write.ensures.rows c.write.ensures.seats c.write.ensures.course c.write.ensures.room c.write.ensures.changes

pub returns : goal.returns
returns g c = record {
  row = writing-ends c.args.found.items c.loop-index.index-iterator.rest.items c.args.place c.args.count c.args.kept.now c.loop-index.kept c.loop-index.invariant (no-items c.loop-index.index-iterator.rest.items (omega (arith, c.loop-index.index-iterator.rest.ok, c.in-None.ensures.steps.0)));
  others = c.loop-index.invariant.others;
  seats = c.loop-index.invariant.seats;
  room = c.loop-index.invariant.room;
  course = c.loop-index.invariant.course;
  changes = c.loop-index.invariant.changes;
}
