use Rattle.std.proofs.Common.{ap, ◌∙◌, Some}
use Rattle.shred_world.specs.Bundles.{holding_of}
use Rattle.shred_world.proofs.BundleLemmas.{holding_of-insert}
use Rattle.shred_world.proofs.holder.WorldHolder.put.Goals as goal

pub returns : goal.returns
returns g c = ap holding_of c.put_back.ensures ∙ holding_of-insert c.args.self.now c.args.id (Some c.args.value)
