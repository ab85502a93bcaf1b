use Rattle.std.proofs.Common.{◌≡◌, ◌-◌, ap, ◌∙◌, arith}
use Rattle.hibitset_sets.specs.Bits.{has_bit}
use Rattle.hibitset_sets.proofs.UniteLemmas.{ends-in, word-at}
use Rattle.hibitset_sets.proofs.assign.end_in_layer.Goals as goal

pub returns-clause-above : goal.returns-clause-above
returns-clause-above g c =
    let set = c.args.set.now in
    let words = g.B.BitSetLike.words set in
    let end = c.args.end in
    let some = c.if-end-eq0.false in
    let word : c.get_from_layer.result ≡ words c.args.layer (end - 1) = word-at words c.args.layer (end - 1) c.get_from_layer.result
    (λ last. let few = c.requires.top last in omega (arith, few)) c.get_from_layer.ensures in
    ends-in words (g.B.BitSetLike.members set) (g.met.B.BitSetLike.stands_over set) (g.met.B.BitSetLike.words_agree set) c.args.layer end c.bits_end.result
    (omega (arith, some)) c.requires.above (λ i set. c.bits_end.ensures.above i (ap (λ w. has_bit w i) word ∙ set))
