use Rattle.specs_layouts.proofs.PartMapLemmas.{get-parts_under}
use Rattle.specs_layouts.proofs.laws.parts_are_a_finite_map.Goals as goal

pub returns : goal.returns
returns g c = get-parts_under c.args.storage.now.mask (g.T.Storage.UnprotectedStorage.part_at c.args.storage.now.inner) c.mask-mask.ensures.agrees
