use Rattle.std.proofs.Common.{◌+◌, ◌∙◌}
use Rattle.hibitset_sets.specs.Walk.{words_left}
use Rattle.hibitset_sets.proofs.TakeLemmas.{walk-whole}
use Rattle.hibitset_sets.proofs.CountLemmas.{words_left-whole}
use Rattle.hibitset_sets.proofs.bit_set_like.BitSetLike.iter_counted.Goals as goal

pub returns-clause-items : goal.returns-clause-items
returns-clause-items g c =
    c.new.ensures.items ∙ walk-whole (g.Self.BitSetLike.members c.args.self) (g.Self.BitSetLike.words c.args.self) (g.met.Self.BitSetLike.stands_over c.args.self) (g.met.Self.BitSetLike.words_agree c.args.self) c.read-layer3.result c.read-layer3.ensures.value

pub returns-clause-unread : goal.returns-clause-unread
returns-clause-unread g c =
    let R = g.Self.BitSetLike.reads in
    let W = g.Self.BitSetLike.words in
    (λ j. R c.args.self 3 + words_left (R (c.new.ensures.set j)) (W (c.new.ensures.set j)) (c.new.ensures.masks j) (c.new.ensures.prefix j))
    ∙ words_left-whole (R c.args.self) (W c.args.self) c.read-layer3.result c.read-layer3.ensures.value
