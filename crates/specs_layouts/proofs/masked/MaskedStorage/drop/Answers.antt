use Rattle.specs_layouts.proofs.MaskedSteps.{agrees-taken}
use Rattle.specs_layouts.proofs.masked.MaskedStorage.drop.Goals as goal

pub invariant_of-self-2 : goal.invariant_of-self-2
invariant_of-self-2 g c =
    let part_at = g.T.Storage.UnprotectedStorage.part_at in
    agrees-taken c.self.inside.mask c.remove.new.self (part_at c.self.inside.inner) (part_at c.drop.new.self) c.args.id c.self.invariant c.in_ok-drop.ensures.ok c.remove.ensures.members
