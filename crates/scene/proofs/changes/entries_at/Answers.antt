use Rattle.std.proofs.Common.{Some, ap, sym, ◌∙◌}
use Rattle.std.proofs.lemmas.List.{take_all}
use Rattle.scene_world.specs.Markers.{marker_at}
use Rattle.scene.specs.Taken.{marks_at}
use Rattle.scene.proofs.LoopLemmas.{marks-more, marks-passed}
use Rattle.scene.proofs.changes.entries_at.Goals.{then-contains+in_ok-push, else-contains}
use Rattle.scene.proofs.changes.entries_at.Goals as goal

pub loop-pair-preserved : goal.loop-pair-preserved
loop-pair-preserved c =
    elim c.if-contains.branch [
      | then-contains+in_ok-push w ↦
          ap (λ entries. entries.items) w.entries-is
          ∙ marks-more c.args.touched.now c.loop-pair.pair-index (0, 0) c.loop-pair-test.true (marker_at c.args.markers.now) c.loop-pair.entries.items c.loop-pair.invariant w.id.result w.push.new.self.items
          (w.get.ensures ∙ ap (λ id. Some id) (sym w.id.ensures)) w.in_ok-push.ensures.items
      | else-contains w ↦
          ap (λ entries. entries.items) w.entries-is
          ∙ marks-passed c.args.touched.now c.loop-pair.pair-index (0, 0) c.loop-pair-test.true (marker_at c.args.markers.now) c.loop-pair.entries.items c.loop-pair.invariant (sym c.contains.ensures ∙ w.if-contains.false)
    ]

pub returns-clause-entries : goal.returns-clause-entries
returns-clause-entries c = c.loop-pair.invariant ∙ ap (marks_at (marker_at c.args.markers.now)) (take_all c.loop-pair.pair-index c.args.touched.now c.loop-pair-test.false)

pub returns-clause-below : goal.returns-clause-below
returns-clause-below c index some = c.mask.ensures.range index (c.mask.ensures.agrees index ∙ some)
