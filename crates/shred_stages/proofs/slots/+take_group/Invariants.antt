use Rattle.std.proofs.Common.{length}
use Rattle.shred_stages.proofs.slots.+take_group.Given as goal

abbrev pub decreases-take_group : goal.decreases-take_group
decreases-take_group g l = length l.group.now
