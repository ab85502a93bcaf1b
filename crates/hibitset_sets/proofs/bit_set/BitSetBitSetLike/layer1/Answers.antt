use Rattle.std.proofs.Common.{ap, ◌∙◌}
use Rattle.hibitset_sets.specs.BitSet.{has_member}
use Rattle.hibitset_sets.specs.Words.{word_of}
use Rattle.hibitset_sets.proofs.LayoutLemmas.{words1}
use Rattle.hibitset_sets.proofs.bit_set.BitSetBitSetLike.layer1.Goals as goal

pub returns : goal.returns
returns c = c.word_or_zero.ensures ∙ words1 c.self.invariant c.args.i ∙ ap (λ s. word_of (has_member s) 1 c.args.i) c.self.view_is
