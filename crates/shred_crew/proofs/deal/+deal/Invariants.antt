use Rattle.std.proofs.Common.{length}
use Rattle.shred_crew.proofs.deal.+deal.Given as goal

abbrev pub decreases-deal : goal.decreases-deal
decreases-deal g l = length l.shares.now
