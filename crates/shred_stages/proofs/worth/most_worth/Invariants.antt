use Rattle.std.proofs.Common.{◌≡◌, take}
use Rattle.shred_stages.specs.Worth.{most_worth}
use Rattle.shred_stages.proofs.worth.most_worth.Given as goal

abbrev pub invariant-loop-stage : goal.invariant-loop-stage
invariant-loop-stage l = l.most ≡ most_worth (take l.stage-index l.stages)
