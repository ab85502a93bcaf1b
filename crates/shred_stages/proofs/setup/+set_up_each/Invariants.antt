use Rattle.std.proofs.Common.{length}
use Rattle.shred_stages.proofs.setup.+set_up_each.Given as goal

abbrev pub decreases-set_up_each : goal.decreases-set_up_each
decreases-set_up_each g l = length l.staged.now
