use Rattle.std.proofs.Common.{◌∙◌}
use Rattle.hibitset_sets.proofs.TakeLemmas.{walk-whole}
use Rattle.hibitset_sets.proofs.drain.DrainableBitSet.drain.Goals as goal

pub returns-clause-items : goal.returns-clause-items
returns-clause-items g c =
    c.new.ensures.items
    ∙ walk-whole (g.Self.BitSetLike.members c.args.self.now) (g.Self.BitSetLike.words c.args.self.now) (g.met.Self.BitSetLike.stands_over c.args.self.now) (g.met.Self.BitSetLike.words_agree c.args.self.now) c.layer3-layer3.result c.layer3-layer3.ensures
