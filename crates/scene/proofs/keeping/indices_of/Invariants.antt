use Rattle.std.proofs.Common.{◌≡◌, map, take}
use Rattle.scene.proofs.keeping.indices_of.Given as goal

-- the indices so far, each behind itself
abbrev pub invariant-loop-pair : goal.invariant-loop-pair
invariant-loop-pair l = l.indices.items ≡ map (λ pair. (pair.1, pair.1)) (take l.pair-index l.pairs)
