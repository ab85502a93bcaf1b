use Rattle.std.proofs.Common.{◌≡◌, arith}
use Rattle.std.proofs.lemmas.Grind.{common_steps}
use Rattle.std.specs.FinSet as set
use Rattle.specs_layouts.proofs.MaskedSteps.{agrees-put}
use Rattle.specs_layouts.proofs.masked.MaskedStorage.add.Goals as goal

pub invariant_of-self-2 : goal.invariant_of-self-2
invariant_of-self-2 g c =
    let part_at = g.T.Storage.UnprotectedStorage.part_at in
    let put : c.add.new.self.members ≡ set.insert c.self.inside.mask.members c.args.id = grind (arith, common_steps) in
    agrees-put c.self.inside.mask c.add.new.self (part_at c.self.inside.inner) (part_at c.insert.new.self) c.args.id c.self.invariant c.args.part c.in_ok-insert.ensures.ok put
