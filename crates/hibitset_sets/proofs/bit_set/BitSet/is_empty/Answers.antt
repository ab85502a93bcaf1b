use Rattle.std.proofs.Common.{ap, sym, ◌∙◌}
use Rattle.std.specs.FinSet as set
use Rattle.std.specs.Ordering.{nat_cmp}
use Rattle.std.proofs.lemmas.Bool.{eqb-true, eq-eqb}
use Rattle.hibitset_sets.proofs.LayoutLemmas.{layered-none, none-layered}
use Rattle.hibitset_sets.proofs.bit_set.BitSet.is_empty.Goals as goal

pub returns : goal.returns
returns c = (
  λ zeroed. sym (ap (λ s. s.members) c.self.view_is) ∙ none-layered c.self.invariant (eqb-true _ _ zeroed),
  λ empty. eq-eqb _ _ (layered-none c.self.invariant (λ q. ap (λ s. set.contains s.members q) c.self.view_is ∙ ap (λ s. set.contains s q) empty ∙ set.contains-empty nat_cmp q)),
)
