use Rattle.std.proofs.Common.{ap, ◌∙◌}
use Rattle.hibitset_sets.specs.Layout.{members_of}
use Rattle.hibitset_sets.proofs.LayoutLemmas.{layered-empty, members_of-empty}
use Rattle.hibitset_sets.proofs.bit_set.BitSet.new.Goals as goal

pub invariant_of-result : goal.invariant_of-result
invariant_of-result c = rw (c.new-3.ensures.items, c.new-2.ensures.items, c.new.ensures.items) layered-empty

pub returns-clause-members : goal.returns-clause-members
returns-clause-members c = ap members_of c.new-3.ensures.items ∙ members_of-empty
