use Rattle.scene_world.proofs.any_store.AnyStoreUnprotectedStorage.clean.Goals as goal

pub clean-requires-clause-range : goal.clean-requires-clause-range
clean-requires-clause-range g c = rw c.in-Vec.is at c.requires.range

pub clean-requires-in-Dense-clause-range : goal.clean-requires-in-Dense-clause-range
clean-requires-in-Dense-clause-range g c = rw c.in-Dense.is at c.requires.range

pub clean-requires-in-Hash-clause-range : goal.clean-requires-in-Hash-clause-range
clean-requires-in-Hash-clause-range g c = rw c.in-Hash.is at c.requires.range

pub clean-requires-in-BTree-clause-range : goal.clean-requires-in-BTree-clause-range
clean-requires-in-BTree-clause-range g c = rw c.in-BTree.is at c.requires.range
