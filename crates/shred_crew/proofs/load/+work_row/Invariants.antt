use Rattle.std.proofs.Common.{length}
use Rattle.shred_crew.proofs.load.+work_row.Given as goal

abbrev pub decreases-work_row : goal.decreases-work_row
decreases-work_row g l = length l.row.now
