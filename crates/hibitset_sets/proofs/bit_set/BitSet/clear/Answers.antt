use Rattle.std.proofs.Common.{ap, ◌∙◌}
use Rattle.hibitset_sets.specs.Layout.{members_of}
use Rattle.hibitset_sets.proofs.LayoutLemmas.{layered-empty, members_of-empty}
use Rattle.hibitset_sets.proofs.bit_set.BitSet.clear.Goals as goal

pub invariant_of-self : goal.invariant_of-self
invariant_of-self c = rw (c.clear-3.ensures.items, c.clear-2.ensures.items, c.clear.ensures.items) layered-empty

pub returns-clause-members : goal.returns-clause-members
returns-clause-members c = ap members_of c.clear-3.ensures.items ∙ members_of-empty
