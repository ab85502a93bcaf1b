use Rattle.std.proofs.Common.{◌≡◌, ℕ, List, length, Option, Some, take, get_or, cond, eqb, refl, ap, sym, subst, ◌∙◌, arith}
use Rattle.std.proofs.lemmas.List.{take_all}
use Rattle.scene.specs.Rows.{seat_at}
use Rattle.scene.proofs.CallerLemmas.{has-room}
use Rattle.scene.specs.Keeping.{CountsMore}
use Rattle.scene.specs.Taken.{turned, with_last}
use Rattle.scene.proofs.KeepLemmas.{front-more, last-more}
use Rattle.scene.proofs.CountingLemmas.{counted-none, counted-next}
use Rattle.scene.proofs.keeping.enter_all.Goals as goal

pub enter-requires : goal.enter-requires
enter-requires g c = record { room = has-room c.loop-pair.kept c.args.count _ c.loop-pair.invariant.room (c.requires.within c.loop-pair.pair-index (0, 0) c.loop-pair-test.true) }

pub loop-pair-preserved : goal.loop-pair-preserved
loop-pair-preserved g c =
    let pairs = c.args.pairs.now in
    let one : ℕ × ℕ = get_or pairs c.loop-pair.pair-index (0, 0) in
    let front : List (ℕ × ℕ) = turned (take c.loop-pair.pair-index pairs) in
    let before : ℕ → Option ℕ = seat_at c.args.kept.now in
    record {
      seats = λ index.
          c.enter.ensures.seats index ∙ ap (cond (eqb index one.1) (Some one.0)) (c.loop-pair.invariant.seats index) ∙ sym (last-more front (one.1, one.0) before index)
          ∙ ap (λ list. with_last list before index) (sym (front-more (λ (pair : ℕ × ℕ). (pair.1, pair.0)) pairs c.loop-pair.pair-index (0, 0) c.loop-pair-test.true));
      rows = λ place index. c.enter.ensures.rows place index ∙ c.loop-pair.invariant.rows place index;
      room = c.enter.ensures.room c.args.count c.loop-pair.invariant.room;
      course = record {
        kinds = c.enter.ensures.course.kinds ∙ c.loop-pair.invariant.course.kinds;
        next = c.enter.ensures.course.next ∙ c.loop-pair.invariant.course.next;
        globals = c.enter.ensures.course.globals ∙ c.loop-pair.invariant.course.globals;
      };
      changes = counted-next c.args.kept.now.changes c.loop-pair.pair-index c.loop-pair.kept.changes c.enter.new.self.changes c.loop-pair.invariant.changes c.enter.ensures.changes;
    }

pub loop-pair-init : goal.loop-pair-init
loop-pair-init g c = record { seats = λ index. refl; rows = λ place index. refl; room = c.requires.room; course = record { kinds = refl; next = refl; globals = refl }; changes = counted-none c.args.kept.now.changes }

pub returns-clause-changes : goal.returns-clause-changes
returns-clause-changes g c =
    let all : c.loop-pair.pair-index ≡ length c.args.pairs.now = omega (arith, c.loop-pair-test.false, c.loop-pair.auto.pair-index-end) in
    subst (λ n. CountsMore c.args.kept.now.changes n c.loop-pair.kept.changes) all c.loop-pair.invariant.changes

pub returns-clause-seats : goal.returns-clause-seats
returns-clause-seats g c index =
    c.loop-pair.invariant.seats index
    ∙ ap (λ pairs. with_last (turned pairs) (seat_at c.args.kept.now) index) (take_all c.loop-pair.pair-index c.args.pairs.now c.loop-pair-test.false)
