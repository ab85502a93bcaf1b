-- What contracts see of a walk that threads share.
use Rattle.std.specs.Prelude.{ℕ}
use Rattle.hibitset.specs.declared.par_iter.BitParIter.{BitParIter}

-- the set that threads walk
abbrev pub shared_set : {T : Type 0} → BitParIter T → T
shared_set it = it.set

-- how many layers of it may be split
abbrev pub layers_of : {T : Type 0} → BitParIter T → ℕ
layers_of it = it.layers
