use Rattle.std.proofs.Common.{ap}
use Rattle.scene_model.specs.Queues.{waiting, plain_commands}
use Rattle.scene_basics.specs.Numbers.{part_of}
use Rattle.scene_tests.proofs.LeavingLemmas.{leave-runs, leave-stops}
use Rattle.scene_tests.proofs.leavers.LeaversRules.run.Goals as goal

pub returns-in-Ok-clause-runs : goal.returns-in-Ok-clause-runs
returns-in-Ok-clause-runs g c =
    leave-runs c.args.system.now (g.W.Holder.slots c.args.view.now) (g.W.Holder.slots c.turn.new.view) c.in-Ok.ensures.ok
    (plain_commands part_of (waiting c.args._queue.now)) (ap (plain_commands part_of) c.requires.empty)

pub returns-in-Err-clause-runs : goal.returns-in-Err-clause-runs
returns-in-Err-clause-runs g c =
    leave-stops c.args.system.now (g.W.Holder.slots c.args.view.now) (g.W.Holder.slots c.turn.new.view) (plain_commands part_of (waiting c.args._queue.now))
