use Rattle.hibitset_sets.specs.BitSet.{has_member}
use Rattle.specs_join.proofs.LawLemmas.{items-counted}
use Rattle.specs_join.proofs.laws.a_join_has_an_item_for_each_index.Goals as goal

pub returns : goal.returns
returns g c = items-counted (has_member c.args.storage.now.mask) (g.T.Storage.UnprotectedStorage.part_at c.args.storage.now.inner) c.mask-mask.ensures.agrees
