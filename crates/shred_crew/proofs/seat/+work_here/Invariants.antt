use Rattle.std.proofs.Common.{length}
use Rattle.shred_crew.proofs.seat.+work_here.Given as goal

abbrev pub decreases-work_here : goal.decreases-work_here
decreases-work_here g l = length l.rows.now
