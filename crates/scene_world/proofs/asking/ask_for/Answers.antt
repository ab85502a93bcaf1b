use Rattle.scene_model.specs.Queues.{waiting}
use Rattle.scene_world.proofs.AskLemmas.{not-asked}
use Rattle.scene_world.proofs.asking.ask_for.Goals as goal

pub returns-in-Err-clause-err : goal.returns-in-Err-clause-err
returns-in-Err-clause-err g c = rw (c.in-Some.is, c.stop_for.ensures)
    (not-asked g.A.Asks.part_of c.in-Some.command (waiting c.args.queue.now) (waiting c.push.new.self) c.in-Err.refused c.in-Err.ensures.err c.in-Err.ensures.full)
