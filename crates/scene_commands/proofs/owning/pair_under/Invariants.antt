use Rattle.std.proofs.Common.{◌≡◌, ◌++◌, map, take}
use Rattle.scene_commands.proofs.owning.pair_under.Given as goal

abbrev pub invariant-loop-target : goal.invariant-loop-target
invariant-loop-target g l = l.pairs.items ≡ l.initial.pairs.items ++ map (λ target. (l.entity, target)) (take l.target-index l.target-items)
