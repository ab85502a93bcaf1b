use Rattle.specs_layouts.proofs.MaskedSteps.{agrees-none}
use Rattle.specs_layouts.proofs.masked.MaskedStorage.clear.Goals as goal

pub invariant_of-self : goal.invariant_of-self
invariant_of-self g c = agrees-none c.clear.new.self (g.T.Storage.UnprotectedStorage.part_at c.clean.new.self) c.clear.ensures.members c.clean.ensures.none
