use Rattle.std.proofs.Common.{◌<◌, All, take}
use Rattle.scene.proofs.keeping.room_for.Given as goal

-- the number is above each index so far
abbrev pub invariant-loop-pair : goal.invariant-loop-pair
invariant-loop-pair l = All (λ pair. pair.1 < l.count) (take l.pair-index l.pairs)
