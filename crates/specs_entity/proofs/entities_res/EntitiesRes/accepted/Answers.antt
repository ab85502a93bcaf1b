use Rattle.std.proofs.Common.{length, ap, inl, arith}
use Rattle.hibitset.proofs.CallerLemmas.{length-walk}
use Rattle.hibitset_sets.specs.BitSet.{has_member}
use Rattle.specs_entity.proofs.entities_res.EntitiesRes.accepted.Goals as goal

pub count-requires-clause-fits : goal.count-requires-clause-fits
count-requires-clause-fits c = inl (let few = length-walk (has_member c.self.inside.killed) in let same = ap length c.iter.ensures.items in omega arith)
