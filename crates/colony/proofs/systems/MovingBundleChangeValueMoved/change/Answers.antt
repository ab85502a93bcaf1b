use Rattle.std.proofs.Common.{sym}
use Rattle.specs.proofs.CallerLemmas.{accepted}
use Rattle.colony.proofs.systems.MovingBundleChangeValueMoved.change.Goals as goal

pub returns-clause-becomes : goal.returns-clause-becomes
returns-clause-becomes g c none =
    record { velocities = c.get.result.now; read = sym c.get.ensures; parts = accepted c.change_each.result _ c.map_err.ensures.variant none c.change_each.ensures.ok }
