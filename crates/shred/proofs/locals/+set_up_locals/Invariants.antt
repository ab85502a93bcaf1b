use Rattle.std.proofs.Common.{length}
use Rattle.shred.proofs.locals.+set_up_locals.Given as goal

abbrev pub decreases-set_up_locals : goal.decreases-set_up_locals
decreases-set_up_locals g l = length l.locals.now
