use Rattle.hibitset_sets.specs.BitSet.{has_member}
use Rattle.hibitset.proofs.FreshLemmas.{exact-word_of}
use Rattle.hibitset.proofs.laws.summaries_of_a_bit_set_are_exact.Goals as goal

pub returns : goal.returns
returns c = exact-word_of (has_member c.args.set.now)
