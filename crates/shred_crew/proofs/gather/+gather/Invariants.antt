use Rattle.std.proofs.Common.{length}
use Rattle.shred_crew.proofs.gather.+gather.Given as goal

abbrev pub decreases-gather : goal.decreases-gather
decreases-gather g l = length l.rows.now
