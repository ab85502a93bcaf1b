use Rattle.std.proofs.Common.{arith, ◌≡◌, sym, ◌∙◌, subst, length, slice_index}
use Rattle.std.proofs.lemmas.List.{get_or_past}
use Rattle.hibitset.specs.Standing.{IsFirstBit}
use Rattle.hibitset.proofs.CutLemmas.{first-bit, cut-in}
use Rattle.hibitset.proofs.producer.cut_in.Goals as goal
use Rattle.hibitset.proofs.producer.cut_in.Goals.{then-layer-lt3, else-layer-lt3}

pub cut_of-requires-clause-stands : goal.cut_of-requires-clause-stands
cut_of-requires-clause-stands g c =
    let three : length c.args.prefix.now ≡ 3 = omega arith in
    let alone = c.in_ok-layer.ensures in
    let first_is : c.if-layer-lt3.first ≡ slice_index c.args.prefix.now c.in_ok-layer.layer =
    elim c.if-layer-lt3.branch [
      | then-layer-lt3 w ↦ w.first-is
      | else-layer-lt3 w ↦ w.first-is ∙ sym (get_or_past c.args.prefix.now c.in_ok-layer.layer 0 (let high = w.if-layer-lt3.false in omega arith))
    ] in
    subst (IsFirstBit c.in_ok-layer.layer) (sym first_is) (first-bit c.args.masks.now c.args.prefix.now c.in_ok-layer.layer three c.requires.placed alone)

pub returns : goal.returns
returns g c =
    let three : length c.args.prefix.now ≡ 3 = omega arith in
    let first_is : c.if-layer-lt3.first ≡ slice_index c.args.prefix.now c.in_ok-layer.layer =
    elim c.if-layer-lt3.branch [
      | then-layer-lt3 w ↦ w.first-is
      | else-layer-lt3 w ↦ w.first-is ∙ sym (get_or_past c.args.prefix.now c.in_ok-layer.layer 0 (let high = w.if-layer-lt3.false in omega arith))
    ] in
    cut-in (g.T.BitSetLike.members c.args.set.now) (g.T.BitSetLike.words c.args.set.now) c.args.masks.now c.args.prefix.now c.args.layers c.in_ok-layer.layer c.if-layer-lt3.first c.in_ok-layer.ensures first_is
    c.cut_of.result (λ cut. cut.layer) (λ cut. cut.first) (λ cut. cut.word) (λ cut. cut.place) c.cut_of.ensures
