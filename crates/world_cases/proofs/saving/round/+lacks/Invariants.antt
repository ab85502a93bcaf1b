use Rattle.std.proofs.Common.{length}
use Rattle.world_cases.proofs.saving.round.+lacks.Given as goal

abbrev pub decreases-lacks : goal.decreases-lacks
decreases-lacks g l = length l.list.now
