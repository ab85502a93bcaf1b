use Rattle.std.proofs.Common.{is_some, ap, sym, ◌∙◌}
use Rattle.std.specs.FinSet as set
use Rattle.std.specs.Ordering.{nat_cmp}
use Rattle.specs_layouts.proofs.masked.MaskedStorage.new.Goals as goal

pub invariant_of-result : goal.invariant_of-result
invariant_of-result g c index = ap (λ (s : set.FinSet nat_cmp). set.contains s index) c.new.ensures.members ∙ (set.contains-empty nat_cmp index ∙ sym (ap is_some (c.requires index)))
