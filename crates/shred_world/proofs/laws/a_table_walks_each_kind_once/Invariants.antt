use Rattle.std.proofs.Common.{◌≡◌, ◌++◌, length, map}
use Rattle.shred_world.specs.Worlds.{values_of_kinds}
use Rattle.shred_world.proofs.laws.a_table_walks_each_kind_once.Given as goal

abbrev pub invariant-loop-value : goal.invariant-loop-value
invariant-loop-value g l = map (λ v. v.now) l.values.items ++ values_of_kinds l.walk.world.now l.walk.kinds.now ≡ values_of_kinds l.initial.walk.world.now l.initial.walk.kinds.now

abbrev pub decreases-loop-value : goal.decreases-loop-value
decreases-loop-value g l = length (values_of_kinds l.walk.world.now l.walk.kinds.now)
