use Rattle.specs_layouts.proofs.FilledSteps.{empty-slots}
use Rattle.specs_layouts.proofs.storages.default_vec.DefaultVecStorageTryDefault.try_default.Goals as goal

pub invariant_of-result : goal.invariant_of-result
invariant_of-result g c = empty-slots c.new.result.items c.new-2.result.members c.new-2.ensures.members
