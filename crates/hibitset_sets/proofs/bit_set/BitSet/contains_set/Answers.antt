use Rattle.std.proofs.Common.{◌∙◌}
use Rattle.std.specs.FinSet as set
use Rattle.hibitset_sets.proofs.LayoutLemmas.{subset-answer}
use Rattle.hibitset_sets.proofs.bit_set.BitSet.contains_set.Goals as goal

pub returns : goal.returns
returns c =
    subset-answer c.self.inside.layer0.items c.other.inside.layer0.items c.covers.result c.covers.ensures.yes c.covers.ensures.no
    ∙ (λ j. set.is_subset (c.other.view_is j).members (c.self.view_is j).members)
