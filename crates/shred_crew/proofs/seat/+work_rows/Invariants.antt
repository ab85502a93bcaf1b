use Rattle.std.proofs.Common.{length}
use Rattle.shred_crew.proofs.seat.+work_rows.Given as goal

abbrev pub decreases-work_rows : goal.decreases-work_rows
decreases-work_rows g l = length l.seats.now
