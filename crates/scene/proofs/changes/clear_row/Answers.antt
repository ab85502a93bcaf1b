use Rattle.std.proofs.Common.{◌≡◌, ◌≢◌, ℕ, Bool, true, false, None, cond, eqb, map, get_or, refl, ap, ◌∙◌, arith}
use Rattle.std.proofs.lemmas.Bool.{eqb-true, eq-eqb}
use Rattle.std.proofs.lemmas.List.{take_all}
use Rattle.scene.specs.Rows.{datum_at}
use Rattle.scene.proofs.CallerLemmas.{has-room}
use Rattle.scene.specs.Taken.{is_one_of}
use Rattle.scene.proofs.LoopLemmas.{emptied-more}
use Rattle.scene.proofs.changes.clear_row.Goals as goal

pub write-requires : goal.write-requires
write-requires g c =
    let so_far = c.loop-pair.invariant in
    record {
      place = omega (arith, c.requires.kinds, so_far.course.kinds);
      room = has-room c.loop-pair.kept c.args.count _ so_far.room (c.requires.below c.loop-pair.pair-index (0, 0) c.loop-pair-test.true);
      free = so_far.seats (get_or c.args.indices.now c.loop-pair.pair-index (0, 0)).1 ∙ c.requires.free c.loop-pair.pair-index (0, 0) c.loop-pair-test.true;
    }

unlike : (other place : ℕ) → other ≢ place → (b : Bool) → eqb other place ≡ b → b ≡ false
unlike other place differ true same = absurd (differ (eqb-true other place same))
unlike other place differ false apart = refl

pub loop-pair-preserved : goal.loop-pair-preserved
loop-pair-preserved g c =
    let so_far = c.loop-pair.invariant in
    let wrote = c.write.ensures in
    let place = c.args.place in
    let one = (get_or c.args.indices.now c.loop-pair.pair-index (0, 0)).1 in
    record {
      row = emptied-more c.args.indices.now c.loop-pair.pair-index (0, 0) c.loop-pair-test.true (datum_at c.args.kept.now place) (datum_at c.loop-pair.kept place) (datum_at c.write.new.self place) so_far.row
          (λ index. wrote.rows place index ∙ ap (λ b. cond b (cond (eqb index one) None (datum_at c.loop-pair.kept place index)) (datum_at c.loop-pair.kept place index)) (eq-eqb place place refl));
      others = λ other index differ.
          wrote.rows other index ∙ ap (λ b. cond b (cond (eqb index one) None (datum_at c.loop-pair.kept other index)) (datum_at c.loop-pair.kept other index)) (unlike other place differ (eqb other place) refl)
          ∙ so_far.others other index differ;
      seats = λ index. wrote.seats index ∙ so_far.seats index;
      room = wrote.room c.args.count so_far.room;
      course = record { kinds = wrote.course.kinds ∙ so_far.course.kinds; next = wrote.course.next ∙ so_far.course.next; globals = wrote.course.globals ∙ so_far.course.globals };
      changes = wrote.changes ∙ so_far.changes;
    }

pub returns-clause-row : goal.returns-clause-row
returns-clause-row g c index =
    c.loop-pair.invariant.row index
    ∙ ap (λ pairs. cond (is_one_of (map (λ (pair : ℕ × ℕ). pair.1) pairs) index) None (datum_at c.args.kept.now c.args.place index)) (take_all c.loop-pair.pair-index c.args.indices.now c.loop-pair-test.false)
