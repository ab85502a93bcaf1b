use Rattle.std.proofs.Common.{refl, arith, ◌∙◌, ap, ◌+◌, ◌-◌}
use Rattle.std.specs.Int.{trailing_zeros, w64}
use Rattle.hibitset_sets.specs.BitLemmas.{lowest_bit}
use Rattle.std.proofs.Common.{cond}
use Rattle.std.proofs.lemmas.Bool.{ne_eqb}
use Rattle.hibitset.proofs.CutLemmas.{no-cut-low, no-cut-zero, cut-here, bit-within, first-small, first-under, only-from-few, found-below}
use Rattle.hibitset.proofs.producer.+cut_of.Goals as goal
use Rattle.hibitset.proofs.producer.+cut_of.Goals.{then-layer-lowest-via-then-layer-lowest, then-layer-lowest-via-else-layer-lowest+then-word-eq0}

pub returns-then-layer-lowest : goal.returns-then-layer-lowest
returns-then-layer-lowest g t c =
    elim c.then-layer-lowest.branch [
      | then-layer-lowest-via-then-layer-lowest w ↦ λ index. no-cut-low (g.T.BitSetLike.words c.args.set.now) c.args.lowest c.args.layer c.args.first c.args.word index w.if-layer-lowest.true
      | then-layer-lowest-via-else-layer-lowest+then-word-eq0 w ↦ λ index. no-cut-zero (g.T.BitSetLike.words c.args.set.now) c.args.lowest c.args.layer c.args.first c.args.word index w.if-word-eq0.true
    ]

pub returns-in-Some : goal.returns-in-Some
returns-in-Some g t c =
    let low = c.if-layer-lowest.false in
    let positive = c.requires.lowest in
    record {
      above = omega arith;
      stands = c.requires.stands;
      average = c.in-Some.ensures;
      within = bit-within c.args.word c.in-Some.place c.ranges.word.fits c.in-Some.ensures.set;
      cut = cut-here (g.T.BitSetLike.words c.args.set.now) c.args.lowest c.args.layer c.args.first c.args.word c.in-Some.place (omega arith) low c.in-Some.ensures;
      same = λ i _. refl;
    }

pub overflow_mul-number : goal.overflow_mul-number
overflow_mul-number g t c =
    let small = first-small _ _ c.requires.stands in
    let lowest = lowest_bit c.args.word (let some = c.if-word-eq0.false in omega arith) c.ranges.word.fits in
    let within = lowest.0 in
    omega arith

pub cut_of-requires : goal.cut_of-requires
cut_of-requires g t c = λ κs live.
    let low = c.if-layer-lowest.false in
    let positive = c.requires.lowest in
    let measure = c.decreases in
    let lowest = lowest_bit c.args.word (let some = c.if-word-eq0.false in omega arith) c.ranges.word.fits in
    (omega arith, (live, (positive, first-under c.args.layer (c.args.layer - 1) c.args.first (trailing_zeros w64 c.args.word) (omega arith) c.requires.stands lowest.0)))

pub returns : goal.returns
returns g t c =
    let set = c.args.set.now in
    let low = c.if-layer-lowest.false in
    let positive = c.requires.lowest in
    let small = c.requires.stands.within in
    let below = c.args.layer - 1 in
    let lowest = lowest_bit c.args.word (let some = c.if-word-eq0.false in omega arith) c.ranges.word.fits in
    let few = c.in_default.ensures in
    let only = only-from-few c.args.word (trailing_zeros w64 c.args.word) lowest.0 lowest.1 few in
    let next_is = c.get_from_layer-next.ensures ∙ ap (λ b. g.T.BitSetLike.words set below (cond b 0 (c.args.first + trailing_zeros w64 c.args.word))) (ne_eqb below 3 (λ e. omega arith)) in
    found-below (g.T.BitSetLike.members set) (g.T.BitSetLike.words set) (g.met.T.BitSetLike.stands_over set) (g.met.T.BitSetLike.words_agree set)
    c.args.lowest c.args.layer below c.args.first c.args.word (trailing_zeros w64 c.args.word) c.get_from_layer-next.result (omega arith) low c.ranges.word.fits few c.requires.stands.aligned only next_is
    c.cut_of.result (λ cut. cut.layer) (λ cut. cut.first) (λ cut. cut.word) (λ cut. cut.place) c.cut_of.ensures
