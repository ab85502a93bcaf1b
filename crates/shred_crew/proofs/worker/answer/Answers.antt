use Rattle.crossbeam_queue.specs.Passes.{view, ruled_capacity}
use Rattle.shred_crew.proofs.LineLemmas.{answers, answers-none}
use Rattle.shred_crew.proofs.worker.answer.Goals as goal

pub push_as-requires-clause-rule : goal.push_as-requires-clause-rule
push_as-requires-clause-rule g c =
    let done = c.requires.done in
    let does = g.T.Load.does in
    let grip = c.args.grip.now in
    (answers does (ruled_capacity c.args.line.now) grip.id (view grip) done.0 c.args.row done.1 done.2, answers-none does grip.id (view grip) done.0 done.1)
