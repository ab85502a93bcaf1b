use Rattle.std.proofs.Common.{subst, ◌∙◌}
use Rattle.crossbeam_queue.specs.Passes.{view}
use Rattle.shred_crew.specs.Lines.{Serves}
use Rattle.shred_crew.proofs.LineLemmas.{takes, did}
use Rattle.shred_crew.proofs.worker.serve_once.Goals as goal

pub try_pop_as-requires-clause-rule : goal.try_pop_as-requires-clause-rule
try_pop_as-requires-clause-rule g c = takes g.T.Load.does c.args.grip.now.id (view c.args.grip.now) c.requires.free

pub answer-requires-clause-done : goal.answer-requires-clause-done
answer-requires-clause-done g c =
    let does = g.T.Load.does in
    let told = c.in-Some-Ask.ensures.rule in
    let serves = subst (Serves does told.0) c.in-Some-Ask.field-0-is told.2 in
    (told.0, told.1, did does told.0 c.deref.result.now c.in-Some-Ask.row c.work_list.new.row (c.deref.ensures ∙ serves.0) serves.1 c.work_list.ensures.works c.work_list.ensures.capacity)

pub answer-requires-in-Some-Answer-clause-done : goal.answer-requires-in-Some-Answer-clause-done
answer-requires-in-Some-Answer-clause-done g c =
    let told = c.in-Some-Answer.ensures.rule in
    (told.0, told.1, subst (Serves g.T.Load.does told.0) c.in-Some-Answer.field-0-is told.2)
