use Rattle.std.proofs.Common.{ℕ, None, is_some, cond, map, refl, ap, subst, ◌∙◌}
use Rattle.std.specs.List.{count_by}
use Rattle.std.proofs.lemmas.List.{take_all}
use Rattle.scene.specs.Rows.{seat_at}
use Rattle.scene.specs.Keeping.{CountsMore}
use Rattle.scene.specs.Taken.{is_one_of}
use Rattle.scene.proofs.LoopLemmas.{emptied-more}
use Rattle.scene.proofs.CountingLemmas.{counted-none, leaving-more}
use Rattle.scene.proofs.changes.leave_all.Goals as goal

pub loop-pair-preserved : goal.loop-pair-preserved
loop-pair-preserved g c =
    let so_far = c.loop-pair.invariant in
    let left = c.leave_out.ensures in
    record {
      seats = emptied-more c.args.touched.now c.loop-pair.pair-index (0, 0) c.loop-pair-test.true (seat_at c.args.kept.now) (seat_at c.loop-pair.kept) (seat_at c.leave_out.new.self) so_far.seats left.seats;
      rows = λ place index. left.rows place index ∙ so_far.rows place index;
      course = record { kinds = left.course.kinds ∙ so_far.course.kinds; next = left.course.next ∙ so_far.course.next; globals = left.course.globals ∙ so_far.course.globals };
      changes = leaving-more c.args.touched.now c.loop-pair.pair-index (0, 0) c.loop-pair-test.true c.requires.ascend (seat_at c.args.kept.now) (seat_at c.loop-pair.kept) so_far.seats
          c.args.kept.now.changes c.loop-pair.kept.changes c.leave_out.new.self.changes so_far.changes left.changes;
      room = λ count room. left.room count (so_far.room count room);
    }

pub loop-pair-init : goal.loop-pair-init
loop-pair-init g c = record { seats = λ index. refl; rows = λ place index. refl; course = record { kinds = refl; next = refl; globals = refl }; room = λ count room. room; changes = counted-none c.args.kept.now.changes }

pub returns-clause-changes : goal.returns-clause-changes
returns-clause-changes g c =
    subst (λ pairs. CountsMore c.args.kept.now.changes (count_by (λ pair. is_some (seat_at c.args.kept.now pair.1)) pairs) c.loop-pair.kept.changes) (take_all c.loop-pair.pair-index c.args.touched.now c.loop-pair-test.false)
    c.loop-pair.invariant.changes

pub returns-clause-seats : goal.returns-clause-seats
returns-clause-seats g c index =
    c.loop-pair.invariant.seats index
    ∙ ap (λ pairs. cond (is_one_of (map (λ (pair : ℕ × ℕ). pair.1) pairs) index) None (seat_at c.args.kept.now index)) (take_all c.loop-pair.pair-index c.args.touched.now c.loop-pair-test.false)
