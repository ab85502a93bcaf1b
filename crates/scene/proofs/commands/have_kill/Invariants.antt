use Rattle.std.proofs.Common.{take, All}
use Rattle.scene_model.specs.Queues.{waiting}
use Rattle.scene.specs.Sparing.{AsksNoDeath}
use Rattle.scene.proofs.commands.have_kill.Given as goal

abbrev pub invariant-loop-queue : goal.invariant-loop-queue
invariant-loop-queue g l = All (λ queue. All AsksNoDeath (waiting queue)) (take l.queue-index l.queues)
