use Rattle.std.proofs.Common.{length}
use Rattle.shred.proofs.locals.+run_locals.Given as goal

abbrev pub decreases-run_locals : goal.decreases-run_locals
decreases-run_locals g l = length l.locals.now
