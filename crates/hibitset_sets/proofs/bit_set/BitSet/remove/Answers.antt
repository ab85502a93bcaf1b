use Rattle.std.proofs.Common.{sym, ◌∙◌}
use Rattle.hibitset_sets.proofs.LayoutLemmas.{remove-absent}
use Rattle.hibitset_sets.proofs.bit_set.BitSet.remove.Goals as goal

pub returns-then-not-contains-clause-members : goal.returns-then-not-contains-clause-members
returns-then-not-contains-clause-members c = sym (remove-absent _ c.args.id (sym c.contains.ensures.value ∙ c.if-not-contains.true))
