use Rattle.std.proofs.Common.{◌≡◌, ◌++◌}
use Rattle.hibitset_sets.specs.BitSet.{has_member}
use Rattle.hibitset_sets.specs.Iter.{left_of}
use Rattle.hibitset_sets.specs.Walk.{walk}
use Rattle.scene_world.proofs.columns.stored.members_of.Given as goal

-- the members so far, and those that are to come, are all
abbrev pub invariant-loop-index : goal.invariant-loop-index
invariant-loop-index l = l.indices.items ++ left_of (λ b. has_member b.now) l.index-iterator ≡ walk (has_member l.set)
