use Rattle.std.proofs.Common.{ap, subst, sym, ◌∙◌, IsSome}
use Rattle.crossbeam_queue.specs.Passes.{view}
use Rattle.shred_crew.specs.declared.line.Hand.TheVariants.{Caller}
use Rattle.shred_crew.specs.Lines.{asked_by}
use Rattle.shred_crew.proofs.LineLemmas.{settles, there}
use Rattle.shred_crew.proofs.seat.Seat.take.Goals as goal

pub try_pop_as-requires-clause-rule : goal.try_pop_as-requires-clause-rule
try_pop_as-requires-clause-rule g c =
    let grip = c.self.inside.grip in
    let asked = there (asked_by (view grip)) (subst IsSome (sym c.self.view_is) c.requires) in
    settles g.T.Load.does grip.id (view grip) asked.0 (c.self.invariant.1 ∙ ap Caller asked.1)
