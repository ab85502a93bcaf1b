use Rattle.std.proofs.Common.{◌≡◌, ◌+◌, length, take}
use Rattle.std.specs.List.{flat_map}
use Rattle.scene_model.specs.Queues.{waiting}
use Rattle.scene.proofs.commands.are_within.Given as goal

abbrev pub invariant-loop-queue : goal.invariant-loop-queue
invariant-loop-queue g l = l.left + (l.given + length (flat_map (λ queue. waiting queue) (take l.queue-index l.queues))) ≡ l.limit
