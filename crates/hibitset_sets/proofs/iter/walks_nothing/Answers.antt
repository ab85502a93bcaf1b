use Rattle.hibitset_sets.proofs.WalkLemmas.{nothing-from-next}
use Rattle.hibitset_sets.proofs.iter.walks_nothing.Goals as goal

pub returns : goal.returns
returns g c = nothing-from-next (g.T.BitSetLike.members c.args.set.now) c.next.result c.is_none.result _ _ c.iter.ensures.items c.next.ensures.steps c.is_none.ensures
