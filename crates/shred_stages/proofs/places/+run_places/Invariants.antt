use Rattle.std.proofs.Common.{length}
use Rattle.shred_stages.proofs.places.+run_places.Given as goal

abbrev pub decreases-run_places : goal.decreases-run_places
decreases-run_places g l = length l.group.now
