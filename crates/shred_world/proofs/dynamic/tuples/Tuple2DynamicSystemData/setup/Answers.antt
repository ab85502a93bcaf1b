use Rattle.std.specs.Result.{is_ok}
use Rattle.shred_world.proofs.BundleLemmas.{in_turn}
use Rattle.shred_world.proofs.dynamic.tuples.Tuple2DynamicSystemData.setup.Goals as goal

pub returns : goal.returns
returns g c =
    in_turn (g.A.DynamicSystemData.sets_up c.args.access.now.0) (g.B.DynamicSystemData.sets_up c.args.access.now.1) (is_ok c.setup-2.result) c.args.world.now c.setup.new.world c.setup-2.new.world
    c.in_ok-setup.ensures c.setup-2.ensures
