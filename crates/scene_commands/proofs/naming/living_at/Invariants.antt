use Rattle.hibitset_sets.specs.BitSet.{has_member}
use Rattle.hibitset_sets.specs.Iter.{left_of}
use Rattle.scene_commands.proofs.NamingLemmas.{Sorting}
use Rattle.scene_commands.proofs.naming.living_at.Given as goal

-- those who live at the indices so far are found
abbrev pub invariant-loop-index : goal.invariant-loop-index
invariant-loop-index l = Sorting l.entities (has_member l.indices) l.found.items (left_of (λ b. has_member b.now) l.index-iterator)
