use Rattle.std.proofs.Common.{ap, ◌∙◌}
use Rattle.hibitset_sets.specs.BitSet.{has_member}
use Rattle.hibitset_sets.specs.Words.{word_of}
use Rattle.hibitset_sets.proofs.LayoutLemmas.{words3}
use Rattle.hibitset_sets.proofs.bit_set.BitSetBitSetLike.layer3.Goals as goal

pub returns : goal.returns
returns c = words3 c.self.invariant ∙ ap (λ s. word_of (has_member s) 3 0) c.self.view_is
