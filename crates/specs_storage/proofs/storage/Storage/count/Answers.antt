use Rattle.std.proofs.Common.{length, ap, inl, arith}
use Rattle.hibitset.proofs.CallerLemmas.{length-walk}
use Rattle.hibitset_sets.specs.BitSet.{has_member}
use Rattle.specs_storage.proofs.storage.Storage.count.Goals as goal

pub count-requires-clause-fits : goal.count-requires-clause-fits
count-requires-clause-fits g c = inl (let few = length-walk (has_member c.mask.result.now) in let same = ap length c.iter.ensures.items in omega arith)
