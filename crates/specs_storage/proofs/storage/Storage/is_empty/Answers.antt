use Rattle.std.proofs.Common.{is_some, ap, sym, ◌∙◌}
use Rattle.std.specs.FinSet as set
use Rattle.std.specs.Cmp.{nat_cmp_total}
use Rattle.std.specs.Ordering.{nat_cmp}
use Rattle.specs_storage.proofs.PartLemmas.{none-of}
use Rattle.specs_storage.proofs.storage.Storage.is_empty.Goals as goal

pub returns : goal.returns
returns g c = (
  λ empty index. none-of _ (sym (c.mask.ensures index) ∙ (ap (λ (s : set.FinSet nat_cmp). set.contains s index) (c.is_empty.ensures.0 empty) ∙ set.contains-empty nat_cmp index)),
  λ none. c.is_empty.ensures.1 (set.same_set nat_cmp_total set.nat_cmp-IsAntisymmetric _ _ (λ index. c.mask.ensures index ∙ (ap is_some (none index) ∙ sym (set.contains-empty nat_cmp index)))),
)
