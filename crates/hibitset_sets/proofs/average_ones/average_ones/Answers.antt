use Rattle.std.proofs.Common.{sym, ◌∙◌, arith}
use Rattle.hibitset_sets.proofs.CountLemmas.{ones-le, ones-set, ones-clear, ones-none}
use Rattle.hibitset_sets.proofs.average_ones.average_ones.Goals as goal
use Rattle.hibitset_sets.proofs.average_ones.average_ones.Goals.{then-is_set, else-is_set, then-is_set-2+else-below-half, else-is_set-2}

pub loop-place-init : goal.loop-place-init
loop-place-init c = sym (ones-none c.args.n)

pub overflow_add-ones : goal.overflow_add-ones
overflow_add-ones c = let few = ones-le c.loop-place.place c.args.n in let is = c.loop-place.invariant in omega arith

pub loop-place-preserved : goal.loop-place-preserved
loop-place-preserved c =
    let is = c.loop-place.invariant in
    elim c.if-is_set.branch [
      | then-is_set w ↦ w.ones-is ∙ (let one = ones-set c.loop-place.place c.args.n (sym c.is_set.ensures ∙ w.if-is_set.true) in omega arith)
      | else-is_set w ↦ w.ones-is ∙ (let one = ones-clear c.loop-place.place c.args.n (sym c.is_set.ensures ∙ w.if-is_set.false) in omega arith)
    ]

pub overflow_add-half : goal.overflow_add-half
overflow_add-half c = let few = ones-le c.loop-place.place c.args.n in let is = c.loop-place.invariant in omega arith

pub loop-at-init : goal.loop-at-init
loop-at-init c = record { counted = sym (ones-none c.args.n); upto = omega arith }

pub loop-at-preserved : goal.loop-at-preserved
loop-at-preserved c =
    let counted = c.loop-at.invariant.counted in
    let upto = c.loop-at.invariant.upto in
    elim c.if-is_set-2.branch [
      | then-is_set-2+else-below-half w ↦
          let one = ones-set c.loop-at.at c.args.n (sym c.is_set-in-loop-at.ensures ∙ w.if-is_set-2.true) in
          let apart = w.if-below-half.false in
          let is = w.below-is in
          record { counted = omega arith; upto = omega arith }
      | else-is_set-2 w ↦
          let one = ones-clear c.loop-at.at c.args.n (sym c.is_set-in-loop-at.ensures ∙ w.if-is_set-2.false) in
          let is = w.below-is in
          record { counted = omega arith; upto = omega arith }
    ]
